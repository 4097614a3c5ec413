-- The neighbours of letters, and what is passed over between them.
use Rattle.std.proofs.Common.{◌≡◌, Bool, true, false, not, ◌&&◌, ◌||◌, List, [], ◌∷◌, ◌++◌, All, Option, Some, None, reverse, refl, sym, ap, ap₂, ◌∙◌, arith}
use Rattle.std.proofs.lemmas.List.Sorted.{All-permutation, IsPermutation-reverse, list_any-IsPermutation}
use Rattle.std.proofs.lemmas.List.Elements.{All-rest}
use Rattle.bx_rows.specs.joining.Joining.{Joiner, are_one_odd, is_lower, is_transparent, join, joins_back, joins_on, neighbour, none_is_lower, passed_over}
use Rattle.bx_rows.specs.joining.Laws.{JoiningIsSymmetric}

-- a transparent character is passed over
pub passed : (c : Joiner) (cs : List Joiner) → is_transparent c.0 ≡ true → neighbour (c ∷ cs) ≡ neighbour cs
passed c cs e = ap (λ b. elim b as (λ _. Option Joiner) [ true ↦ neighbour cs | false ↦ Some c ]) e

pub passed_on : (c : Joiner) (cs : List Joiner) → is_transparent c.0 ≡ true → passed_over (c ∷ cs) ≡ c ∷ passed_over cs
passed_on c cs e = ap (λ b. elim b as (λ _. List Joiner) [ true ↦ c ∷ passed_over cs | false ↦ [] ]) e

pub found : (c : Joiner) (cs : List Joiner) → is_transparent c.0 ≡ false → neighbour (c ∷ cs) ≡ Some c
found c cs e = ap (λ b. elim b as (λ _. Option Joiner) [ true ↦ neighbour cs | false ↦ Some c ]) e

pub found_first : (c : Joiner) (cs : List Joiner) → is_transparent c.0 ≡ false → passed_over (c ∷ cs) ≡ []
found_first c cs e = ap (λ b. elim b as (λ _. List Joiner) [ true ↦ c ∷ passed_over cs | false ↦ [] ]) e

-- after transparent characters
pub across : (between : List Joiner) (c : Joiner) (after : List Joiner) → All (λ d. is_transparent d.0 ≡ true) between → is_transparent c.0 ≡ false
    → neighbour (between ++ c ∷ after) ≡ Some c
across [] c after all own = found c after own
across (d ∷ ds) c after all own =
    passed d (ds ++ c ∷ after) (all 0 d (omega arith)) ∙ across ds c after (All-rest (λ x. is_transparent x.0 ≡ true) d ds (d ∷ ds) refl all) own

pub all_passed : (between : List Joiner) (c : Joiner) (after : List Joiner) → All (λ d. is_transparent d.0 ≡ true) between → is_transparent c.0 ≡ false
    → passed_over (between ++ c ∷ after) ≡ between
all_passed [] c after all own = found_first c after own
all_passed (d ∷ ds) c after all own =
    passed_on d (ds ++ c ∷ after) (all 0 d (omega arith))
    ∙ ap (λ xs. d ∷ xs) (all_passed ds c after (All-rest (λ x. is_transparent x.0 ≡ true) d ds (d ∷ ds) refl all) own)

-- none is lower in the other order either
none_reversed : (between : List Joiner) (first second : Joiner) → none_is_lower between first second ≡ none_is_lower (reverse between) first second
none_reversed between first second =
    ap not (list_any-IsPermutation (λ x. is_lower x.1 first.1 || is_lower x.1 second.1) between (reverse between) (IsPermutation-reverse between))

pub symmetric : JoiningIsSymmetric
symmetric first second between before after one two all =
    let back = reverse between in
    let turned : All (λ d. is_transparent d.0 ≡ true) back =
    All-permutation (λ d. is_transparent d.0 ≡ true) between back (IsPermutation-reverse between) all in
    ap₂ (λ o xs. elim o as (λ _. Bool) [ None ↦ false | Some other ↦ join first xs other ]) (across between second after all two)
    (all_passed between second after all two)
    ∙ ap (λ b. ((joins_on first.0 && joins_back second.0) && are_one_odd first.1 second.1) && b) (none_reversed between first second)
    ∙ sym (ap₂ (λ o xs. elim o as (λ _. Bool) [ None ↦ false | Some other ↦ join other xs second ]) (across back first before turned one)
    (all_passed back first before turned one))
