-- A character is lower than a level exactly if the lowest of the characters' levels is.
use Rattle.std.proofs.Common.{◌≡◌, ℕ, min, nat_lt, Bool, true, false, not, ◌&&◌, ◌||◌, List, [], ◌∷◌, Option, Some, None, refl, sym, ap, ap₂, ◌∙◌, arith}
use Rattle.std.specs.List.{list_any}
use Rattle.std.proofs.lemmas.Bool.Decides.{nat_tests}
use Rattle.bx_rows.specs.joining.Joining.{Joiner, are_one_odd, is_lower, is_transparent, join, joins_back, joins_on, neighbour, passed_over}
use Rattle.bx_rows.specs.joining.Nearest.{lower_of, lowest_level}
use Rattle.bx_rows.proofs.joining_lemmas.JoinedNeighbours.{found, found_first, passed, passed_on}

-- ---- the lower of levels

min-assoc : (a b c : ℕ) → min (min a b) c ≡ min a (min b c)
min-assoc a b c = omega arith

pub lower-none : (level : Option ℕ) → lower_of level None ≡ level
lower-none None = refl
lower-none (Some level) = refl

pub lower-assoc : (l m n : Option ℕ) → lower_of (lower_of l m) n ≡ lower_of l (lower_of m n)
lower-assoc None m n = refl
lower-assoc (Some a) None n = refl
lower-assoc (Some a) (Some b) None = refl
lower-assoc (Some a) (Some b) (Some c) = ap Some (min-assoc a b c)

min-lt : (a b c : ℕ) → nat_lt (min a b) c ≡ (nat_lt a c || nat_lt b c)
min-lt a b c = grind (arith, nat_tests)

or-false : (b : Bool) → b ≡ (b || false)
or-false true = refl
or-false false = refl

lower-test : (l m other : Option ℕ) → is_lower (lower_of l m) other ≡ (is_lower l other || is_lower m other)
lower-test None m other = refl
lower-test (Some a) None None = refl
lower-test (Some a) None (Some c) = or-false (nat_lt a c)
lower-test (Some a) (Some b) None = refl
lower-test (Some a) (Some b) (Some c) = min-lt a b c

-- ---- none between two is lower

four : (a b c d : Bool) → ((a || b) || (c || d)) ≡ ((a || c) || (b || d))
four true b c d = refl
four false true true d = refl
four false true false d = refl
four false false true d = refl
four false false false d = refl

any-lower : (between : List Joiner) (first second : Option ℕ)
    → list_any (λ x. is_lower x.1 first || is_lower x.1 second) between ≡ (is_lower (lowest_level between) first || is_lower (lowest_level between) second)
any-lower [] first second = refl
any-lower (x ∷ xs) first second =
    let rest = lowest_level xs in
    ap (λ b. (is_lower x.1 first || is_lower x.1 second) || b) (any-lower xs first second)
    ∙ four (is_lower x.1 first) (is_lower x.1 second) (is_lower rest first) (is_lower rest second)
    ∙ sym (ap₂ (λ a b. a || b) (lower-test x.1 rest first) (lower-test x.1 rest second))

pub join-lowest : (first second : Joiner) (between : List Joiner) (lowest : Option ℕ) (lower : Bool) → lowest_level between ≡ lowest
    → (is_lower lowest first.1 || is_lower lowest second.1) ≡ lower
    → join first between second ≡ (((joins_on first.0 && joins_back second.0) && are_one_odd first.1 second.1) && not lower)
join-lowest first second between lowest lower e f =
    ap (λ b. ((joins_on first.0 && joins_back second.0) && are_one_odd first.1 second.1) && not b)
    (any-lower between first.1 second.1 ∙ ap (λ l. is_lower l first.1 || is_lower l second.1) e ∙ f)

-- ---- the nearest, with a level passed over before

abbrev pub nearest_with : Option ℕ → List Joiner → Option (Joiner × Option ℕ)
nearest_with lowest xs = elim (neighbour xs) [ None ↦ None | Some c ↦ Some (c, lower_of lowest (lowest_level (passed_over xs))) ]

pub nearest_passed : (lowest : Option ℕ) (c : Joiner) (cs : List Joiner) → is_transparent c.0 ≡ true
    → nearest_with lowest (c ∷ cs) ≡ nearest_with (lower_of lowest c.1) cs
nearest_passed lowest c cs e =
    ap₂ (λ o xs. elim o as (λ _. Option (Joiner × Option ℕ)) [ None ↦ None | Some d ↦ Some (d, lower_of lowest (lowest_level xs)) ]) (passed c cs e) (passed_on c cs e)
    ∙ ap (λ l. elim (neighbour cs) as (λ _. Option (Joiner × Option ℕ)) [ None ↦ None | Some d ↦ Some (d, l) ]) (sym (lower-assoc lowest c.1 (lowest_level (passed_over cs))))

pub nearest_found : (lowest : Option ℕ) (c : Joiner) (cs : List Joiner) → is_transparent c.0 ≡ false → nearest_with lowest (c ∷ cs) ≡ Some (c, lowest)
nearest_found lowest c cs e =
    ap₂ (λ o xs. elim o as (λ _. Option (Joiner × Option ℕ)) [ None ↦ None | Some d ↦ Some (d, lower_of lowest (lowest_level xs)) ]) (found c cs e) (found_first c cs e)
    ∙ ap (λ l. Some (c, l)) (lower-none lowest)
