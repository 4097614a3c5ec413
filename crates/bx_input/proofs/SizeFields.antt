-- Sizes, by their last byte and by their semicolon.
use Rattle.std.proofs.Common.{◌≡◌, ℕ, ◌+◌, ◌-◌, inl, inr, ◌&&◌, cond, nat_eq, List, [], ◌∷◌, ◌++◌, length, take, drop}
use Rattle.std.proofs.Common.{Option, Some, None, ap, sym, ◌∙◌, arith}
use Rattle.std.specs.List.{slice_split, position}
use Rattle.std.proofs.lemmas.Bool.{and_right, cond-false}
use Rattle.std.proofs.lemmas.List.{get_or_push, length_push, take_at, take_rest}
use Rattle.bx_keys.specs.Keys.{is_side_in_digits, before_final}
use Rattle.bx_keys.proofs.Sides.{one_or_more}
use Rattle.bx_keys.specs.declared.key.Key.{Key}
use Rattle.bx_input.specs.Sizes.{size_of_numbers, size_of}
use Rattle.bx_input.proofs.Reports.{semicolon, no_number, one_field, first_field}

-- ---- the last byte

abbrev pub by_last : ℕ → List ℕ → Option Key
by_last last ns = cond (nat_eq last 0x74) (size_of_numbers (slice_split semicolon ns)) None

pub of_last : (ns : List ℕ) (b : ℕ) → size_of (ns ++ b ∷ []) ≡ by_last b ns
of_last ns b =
    let read : List ℕ = ns ++ b ∷ [] in
    ap (λ last. by_last last (before_final read)) (get_or_push ns b 0 (length read - 1) (omega (arith, length_push ns b)))
    ∙ ap (by_last b) (take_at ns (b ∷ []) (length read - 1) (omega (arith, length_push ns b)))

-- ---- the sides

last_side : (h w : List ℕ) → size_of_numbers (h ∷ slice_split semicolon w) ≡ size_of_numbers (h ∷ w ∷ [])
last_side h w = elim (one_or_more w) [
  | inl one ↦ ap (λ fields. size_of_numbers (h ∷ fields)) one
  | inr more ↦ (
      let no = and_right (is_side_in_digits h) (is_side_in_digits w) (no_number w more.no_digits) in
      ap (λ fields. size_of_numbers (h ∷ fields)) more.fields ∙ sym (cond-false (is_side_in_digits h && is_side_in_digits w) _ _ no))
]

pub no_sides : (ns : List ℕ) → position semicolon ns ≡ None → size_of_numbers (slice_split semicolon ns) ≡ None
no_sides ns h = ap size_of_numbers (one_field ns h)

-- the sides as slices have them
pub two_sides : (ns : List ℕ) (i : ℕ) → position semicolon ns ≡ Some i
    → size_of_numbers (slice_split semicolon ns) ≡ size_of_numbers (take i ns ∷ take (length ns - (i + 1)) (drop (i + 1) ns) ∷ [])
two_sides ns i h =
    ap size_of_numbers (first_field ns i h)
    ∙ last_side (take i ns) (drop (i + 1) ns)
    ∙ ap (λ w. size_of_numbers (take i ns ∷ w ∷ [])) (sym (take_rest ns (i + 1)))
