-- The keys of the table's rows, whatever came before.
use Rattle.std.proofs.Common.{◌≡◌, ℕ, inl, inr, Bool, true, false, cond, List, [], ◌∷◌, ◌++◌, drop, Option, Some, None, refl, ap, sym, ◌∙◌, append_assoc, subst}
use Rattle.std.specs.List.{AllByRecursion}
use Rattle.std.specs.Str.{bytes_eq}
use Rattle.std.proofs.lemmas.Bool.{or_cases}
use Rattle.std.proofs.lemmas.List.{append-nil}
use Rattle.std.proofs.lemmas.Slice.Eq.{bytes_eq-Decides}
use Rattle.bx_input.specs.Machine.{read}
use Rattle.bx_input.specs.Scan as scan
use Rattle.bx_input.specs.Scan.{Outside, Part, Passed, passed, Step, start, at_end, are_escapes}
use Rattle.bx_input.specs.Table.{Row, keys_of, row_of, rows}
use Rattle.bx_input_laws.specs.Laws.{AddsKeys, GivesRow, given, keys, longer_by, longer_row, row_behind}
use Rattle.bx_input_laws.proofs.Passing.{rows_given}
use Rattle.bx_input_laws.proofs.ReadParts.{escape_adds_none, known_last, whole_keys}

-- of one ESC that waits, or of two, the last adds no key
last_escape : (parts : List Part) (waiting : List ℕ) → are_escapes waiting ≡ true
    → (read [] (parts ++ passed (drop 1 waiting))).keys ≡ (read [] (parts ++ passed waiting)).keys
last_escape parts waiting escapes = elim (or_cases (bytes_eq waiting (0x1B ∷ [])) (bytes_eq waiting (0x1B ∷ 0x1B ∷ [])) escapes) [
  | inl one ↦ subst (λ w. (read [] (parts ++ passed (drop 1 w))).keys ≡ (read [] (parts ++ passed w)).keys) (sym ((bytes_eq-Decides waiting (0x1B ∷ [])).0 one)) (
      ap (λ ps. (read [] ps).keys) (append-nil parts) ∙ sym (escape_adds_none parts))
  | inr two ↦ subst (λ w. (read [] (parts ++ passed (drop 1 w))).keys ≡ (read [] (parts ++ passed w)).keys) (sym ((bytes_eq-Decides waiting (0x1B ∷ 0x1B ∷ [])).0 two)) (
      sym (escape_adds_none (parts ++ Passed 0x1B ∷ []))
      ∙ ap (λ ps. (read [] ps).keys) (append_assoc parts (Passed 0x1B ∷ []) (Passed 0x1B ∷ [])))
]

longer_by_two : (t : Bool) (r longer : Row) → cond t (Some r) None ≡ Some longer → t ≡ true
longer_by_two true r longer h = refl
longer_by_two false r longer h = absurd (cc h)

longer_waits : (waiting : List ℕ) (o : Option Row) (longer : Row) → longer_by waiting o ≡ Some longer → are_escapes waiting ≡ true
longer_waits waiting None longer h = absurd (cc h)
longer_waits waiting (Some r) longer h = longer_by_two (are_escapes waiting) r longer h

module _ (by_delete : Bool) where
  given_keys : (bs waiting : List ℕ) (r : Row) (o : Option Row) → (scan.run by_delete start bs).state ≡ Outside waiting
      → ((longer : Row) → o ≡ Some longer → are_escapes waiting ≡ true)
      → (read [] (given by_delete bs waiting r o)).keys ≡ keys by_delete bs ++ keys_of (row_behind r o)
  given_keys bs waiting r None at escapes = known_last (scan.scanned by_delete bs) (keys_of r)
  given_keys bs waiting r (Some longer) at escapes =
      let before : Step = scan.run by_delete start bs in
      known_last (before.parts ++ passed (drop 1 waiting)) (keys_of longer)
      ∙ ap (λ ks. ks ++ keys_of longer) (
      last_escape before.parts waiting (escapes longer refl)
      ∙ ap (λ s. (read [] (before.parts ++ at_end s)).keys) (sym at))

  adds_keys : (r : Row) → GivesRow by_delete r → AddsKeys by_delete r
  adds_keys r gives bs waiting at =
      whole_keys by_delete (bs ++ r.sequence) (given by_delete bs waiting r (longer_row by_delete waiting r)) (gives bs waiting at)
      ∙ given_keys bs waiting r (longer_row by_delete waiting r) at (longer_waits waiting (row_of by_delete (0x1B ∷ r.sequence)))

  all_add : (rs : List Row) → AllByRecursion (GivesRow by_delete) rs → AllByRecursion (AddsKeys by_delete) rs
  all_add [] h = tt
  all_add (r ∷ rs) h = (adds_keys r h.0, all_add rs h.1)

  pub rows_add_keys : AllByRecursion (AddsKeys by_delete) (rows by_delete)
  rows_add_keys = all_add (rows by_delete) (rows_given by_delete)
