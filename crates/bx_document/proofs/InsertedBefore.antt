-- An insertion before the cursor, found where the new bytes, with those up to the cursor behind them, replace the latter.
use Rattle.std.proofs.Common.{◌≡◌, ℕ, ◌+◌, ◌-◌, ◌≤◌, true, nat_eq, List, [], ◌++◌, length, take, drop, slice_range, sym, ap, ◌∙◌, arith, length-drop, append-nil, ⊎_elim, eq-eqb, ne_eqb}
use Rattle.std.proofs.lemmas.Bool.{cases_lt}
use Rattle.std.proofs.lemmas.Bool.Decides.{nat_tests}
use Rattle.std.proofs.lemmas.List.{length-take-le, take-append-drop}
use Rattle.bx_text.specs.Edits.{fits, fits_both, splice}
use Rattle.bx_text.specs.Changes.{IsRange}
use Rattle.bx_ucd.specs.Data.{Data}
use Rattle.bx_view.specs.Moves.{place_from}
use Rattle.bx_view.specs.TextRows.{text_rows}
use Rattle.bx_document.specs.Document.{Document, place_after, place_behind_insertion}
use Rattle.bx_document.proofs.WrappedPlace.{same_text, whole_fits, whole_length}

-- nothing put in leaves the text
put-nothing : (text : List ℕ) (at : ℕ) → splice text at at [] ≡ text
put-nothing text at = ap (λ bs. bs ++ drop at text) (append-nil (take at text)) ∙ take-append-drop at text

-- the length of a part of a text
pub part-length : (text : List ℕ) (a b : ℕ) → a ≤ b → b ≤ length text → length (slice_range text a b) ≡ b - a
part-length text a b h k = length-take-le (b - a) (drop a text) (omega (arith, length-drop a text, h, k))

-- a part is empty where its ends are one
pub empty-part : (text : List ℕ) (a b : ℕ) → a ≤ b → b ≤ length text → nat_eq a b ≡ nat_eq (length (slice_range text a b)) 0
empty-part text a b h k = ⊎_elim
    (λ less. ne_eqb a b (λ e. omega (arith, e, less)) ∙ sym (ne_eqb (length (slice_range text a b)) 0 (λ e. omega (arith, e, less, part-length text a b h k))))
    (λ not. let same : a ≡ b = omega (arith, h, not) in
    eq-eqb a b same ∙ sym (eq-eqb (length (slice_range text a b)) 0 (omega (arith, same, part-length text a b h k)))) (cases_lt a b)

module _ (text : List ℕ) (at place : ℕ) (new whole : List ℕ) (range : IsRange text at place)
    (is : whole ≡ new ++ slice_range text at place ++ []) (room : fits text at at new ≡ true) where
  both : fits_both text new [] ≡ true
  both = grind (arith, nat_tests)

  pub before-fits : fits text at place whole ≡ true
  before-fits = whole_fits text at place new [] whole range is both

  pub before-text : splice text at place whole ≡ splice text at at new
  before-text =
      same_text text at place new [] whole range is both
      ∙ ap (λ bs. splice bs at at new) (put-nothing text place)

  before-end : at + length whole ≡ place + length new
  before-end = omega (arith, whole_length text at place new [] whole range is both, range.in_order)

  pub before-place : (ucd : Data) (t : Document) (o : ℕ) → t.content.text ≡ text → o ≡ place_after ucd t at place whole
      → o ≡ place_behind_insertion ucd t at new place
  before-place ucd t o same found =
      found ∙ ap (λ bs. place_from (text_rows ucd t.base t.w (splice bs at place whole)) (at + length whole)) same
      ∙ ap (λ bs. place_from (text_rows ucd t.base t.w bs) (at + length whole)) before-text
      ∙ ap (place_from (text_rows ucd t.base t.w (splice text at at new))) before-end
      ∙ ap (λ bs. place_from (text_rows ucd t.base t.w (splice bs at at new)) (place + length new)) (sym same)
