-- The boundaries of a text without some of its bytes.
use Rattle.std.proofs.Common.{◌≡◌, ℕ, ◌+◌, ◌-◌, ◌<◌, ◌≤◌, ◌↔◌, Bool, List, [], length, IsTrue, IsUtf8, sym, subst, arith}
use Rattle.std.proofs.lemmas.Str.{IsUtf8-nil}
use Rattle.std.specs.Str.{IsCharBoundary}
use Rattle.bx_text.specs.declared.change.Change.{Change}
use Rattle.bx_text.specs.Edits.{splice, merged}
use Rattle.bx_text.specs.Changes.{IsChange, IsRange}
use Rattle.bx_text.specs.Replacements.{change_inserted, change_removed}
use Rattle.bx_text.proofs.Merged.{new_bounds_after, new_bounds_before, old_bounds_after, old_bounds_before}
use Rattle.bx_text.proofs.Versions.{splice_leads}

module _ (text : List ℕ) (start stop : ℕ) (utf8 : IsUtf8 text) (range : IsRange text start stop) where
  abbrev left : List ℕ
  left = splice text start stop []

  abbrev change : Change
  change = change_removed start stop 0

  whole : start + (stop - start) ≡ stop
  whole = omega (arith, range.in_order)

  pub leads : IsChange text change left
  leads =
      subst (λ n. IsChange text change (splice text start n [])) whole
      (splice_leads text [] start (stop - start) 0 utf8 IsUtf8-nil (subst (IsRange text start) (sym whole) range))

  pub before : (at : ℕ) → at ≤ start → IsCharBoundary text at ↔ IsCharBoundary left at
  before at low = (new_bounds_before text change left leads at low, old_bounds_before text change left leads at low)

  pub behind : (at : ℕ) → start < at → IsCharBoundary text (at + (stop - start)) ↔ IsCharBoundary left at
  behind at high =
      let old : start + (stop - start) + (at - start) ≡ at + (stop - start) = omega (arith, high) in
      let new : start + 0 + (at - start) ≡ at = omega (arith, high) in (
        λ b. subst (IsCharBoundary left) new
            (new_bounds_after text change left leads (at - start) (subst (IsCharBoundary text) (sym old) b)),
        λ b. subst (IsCharBoundary text) old
            (old_bounds_after text change left leads (at - start) (subst (IsCharBoundary left) (sym new) b)),
      )

  -- as a test of the text tells it
  pub told-before : (at : ℕ) (b : Bool) → at ≤ start → IsTrue b ↔ IsCharBoundary text at → IsTrue b ↔ IsCharBoundary left at
  told-before at b low is = let same = before at low in (λ t. same.0 (is.0 t), λ h. is.1 (same.1 h))

  pub told-behind : (at : ℕ) (b : Bool) → start < at → IsTrue b ↔ IsCharBoundary text (at + (stop - start)) → IsTrue b ↔ IsCharBoundary left at
  told-behind at b high is = let same = behind at high in (λ t. same.0 (is.0 t), λ h. is.1 (same.1 h))

  pub past : (at : ℕ) → length text - (stop - start) < at → IsCharBoundary left at → ⊥
  past at high b = let grown = leads.grown in omega (arith, high, b.0, grown)

-- a range of no bytes in the text without some
pub none-at : (text : List ℕ) (start stop at : ℕ) → start ≤ stop → IsCharBoundary (splice text start stop []) at
    → IsRange (splice text start (start + (stop - start)) []) at (at + 0)
none-at text start stop at order bound =
    let whole : stop ≡ start + (stop - start) = omega (arith, order) in
    let none : at ≡ at + 0 = omega arith in
    let here : IsCharBoundary (splice text start (start + (stop - start)) []) at = subst (λ n. IsCharBoundary (splice text start n []) at) whole bound in
    record {
      start_bounds = here;
      stop_bounds = subst (IsCharBoundary (splice text start (start + (stop - start)) [])) none here;
      in_order = omega arith;
    }

-- the bytes that both changes together put in, where the second is not before the first
pub added_is : (start stop at added between after : ℕ) → start ≤ at
    → (merged (change_removed start stop between) (change_inserted at added after)).added ≡ at - start + added
added_is start stop at added between after order = omega arith
