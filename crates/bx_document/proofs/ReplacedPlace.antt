-- The place after a replacement, found where the bytes up to the place between and the new text replace the old ones.
use Rattle.std.proofs.Common.{◌≡◌, ℕ, ◌+◌, ◌-◌, ◌≤◌, true, nat_le, List, [], ◌++◌, length, take, drop, slice_range, IsUtf8, IsCharBoundary}
use Rattle.std.proofs.Common.{append-nil, append_assoc, sym, ap, ap₂, subst, ◌∙◌, ⊎_elim, arith, length-append, length-drop}
use Rattle.std.proofs.lemmas.Bool.{cases_lt}
use Rattle.std.proofs.lemmas.Str.{IsUtf8-nil}
use Rattle.std.proofs.lemmas.List.{drop-drop, drop_at, length-take-le, take-append-drop, take_at}
use Rattle.bx_common.specs.Characters.{is_side}
use Rattle.bx_common.specs.declared.base.Base.{Base}
use Rattle.bx_text.specs.Edits.{fits, largest_text, splice}
use Rattle.bx_text.specs.Changes.{IsRange}
use Rattle.bx_text.proofs.Without.{behind as bound_behind}
use Rattle.bx_ucd.specs.Data.{Data}
use Rattle.bx_view.specs.Moves.{place_from}
use Rattle.bx_view.specs.Places.{IsTextPlace}
use Rattle.bx_view.specs.TextRows.{text_rows}
use Rattle.bx_view.proofs.PlacesOn.{finds-least}
use Rattle.bx_view.proofs.TextPlaces.{place-between}
use Rattle.bx_paragraph.proofs.Starts.{side-some}
use Rattle.bx_document.specs.Document.{Document, place_after, place_after_removal, place_after_replacement, replaced_text}
use Rattle.bx_document.proofs.PlaceAfter.{splice_bytes}
use Rattle.bx_document.proofs.TouchedPlace.{splice_utf8}

-- a place at or after an offset is not before it
pub place_order : (ucd : Data) (base : Base) (w : ℕ) (text : List ℕ) (start stop : ℕ) (new : List ℕ) (o : ℕ) → is_side w ≡ true → IsUtf8 text
    → IsRange text start stop → IsUtf8 new → o ≡ place_from (text_rows ucd base w (splice text start stop new)) (start + length new)
    → start + length new ≤ o
place_order ucd base w text start stop new o side utf8 range new_utf8 is =
    let now = splice text start stop new in
    let stop_bounds : IsCharBoundary text stop = range.stop_bounds in
    let valid : IsUtf8 now = splice_utf8 ucd text utf8 start stop new range new_utf8 in
    let inside : start + length new ≤ length now = omega (arith, splice_bytes text start stop new range, stop_bounds.0, range.in_order) in
    let least = (finds-least ucd base w (side-some w side) now valid).inside (start + length new) inside in
    omega (arith, is, least.not_before)

-- the place between is a boundary of the text without the old bytes
pub between_bound : (ucd : Data) (text : List ℕ) (start stop between : ℕ) → IsUtf8 text → IsRange text start stop
    → IsTextPlace ucd (splice text start stop []) between → IsCharBoundary (splice text start stop []) between
between_bound ucd text start stop between utf8 range place =
    place-between ucd (splice text start stop []) between (splice_utf8 ucd text utf8 start stop [] range IsUtf8-nil) place

module _ (text : List ℕ) (utf8 : IsUtf8 text) (start stop between : ℕ) (range : IsRange text start stop) (order : start ≤ between)
    (bound : IsCharBoundary (splice text start stop []) between) where
  abbrev kept : ℕ
  kept = between - start

  -- where the bytes end that stay in front of the new text
  abbrev pub behind : ℕ
  behind = stop + kept

  behind_bound : IsCharBoundary text behind
  behind_bound =
      let same : between + (stop - start) ≡ behind = omega (arith, order, range.in_order) in
      ⊎_elim (λ less. subst (IsCharBoundary text) same ((bound_behind text start stop utf8 range between less).1 bound))
      (λ most. let none : stop ≡ behind = omega (arith, most) in subst (IsCharBoundary text) none range.stop_bounds) (cases_lt start between)

  pub kept_range : IsRange text stop behind
  kept_range = record { start_bounds = range.stop_bounds; stop_bounds = behind_bound; in_order = omega arith }

  pub whole_range : IsRange text start behind
  whole_range = record { start_bounds = range.start_bounds; stop_bounds = behind_bound; in_order = omega (arith, range.in_order) }

  inside : behind ≤ length text
  inside = behind_bound.0

  abbrev rest : List ℕ
  rest = drop stop text

  kept_length : length (take kept rest) ≡ kept
  kept_length = length-take-le kept rest (omega (arith, inside, length-drop stop text))

  module _ (new whole : List ℕ) (is : whole ≡ slice_range text stop behind ++ new) where
    kept_is : slice_range text stop behind ≡ take kept rest
    kept_is = let size : behind - stop ≡ kept = omega arith in ap (λ n. take n rest) size

    pub whole_length : length whole ≡ kept + length new
    whole_length =
        ap length is ∙ ap (λ xs. length (xs ++ new)) kept_is
        ∙ omega (arith, length-append (take kept rest) new, kept_length)

    pub whole_fits : fits text start stop new ≡ true → fits text start behind whole ≡ true
    whole_fits e =
        let same : length text - (behind - start) + length whole ≡ length text - (stop - start) + length new =
        omega (arith, whole_length, inside, range.in_order) in
        ap (λ n. nat_le n largest_text) same ∙ e

    pub whole_stop : start + length whole ≡ between + length new
    whole_stop = omega (arith, whole_length, order)

    -- the text without the old bytes, cut at the place between
    left_is : splice text start stop [] ≡ (take start text ++ take kept rest) ++ drop kept rest
    left_is =
        ap (λ xs. xs ++ rest) (append-nil (take start text)) ∙ ap (λ xs. take start text ++ xs) (sym (take-append-drop kept rest))
        ∙ sym (append_assoc (take start text) (take kept rest) (drop kept rest))

    front_length : length (take start text ++ take kept rest) ≡ between
    front_length =
        let low : start ≤ length text = range.start_bounds.0 in
        omega (arith, length-append (take start text) (take kept rest), kept_length, length-take-le start text low, order)

    pub same_text : splice text start behind whole ≡ splice (splice text start stop []) between between new
    same_text =
        let front = take start text ++ take kept rest in
        let back = drop kept rest in
        let ahead : take between (splice text start stop []) ≡ front = ap (take between) left_is ∙ take_at front back between front_length in
        let after : drop between (splice text start stop []) ≡ back = ap (drop between) left_is ∙ drop_at front back between front_length in
        ap (λ xs. take start text ++ xs ++ drop behind text) (is ∙ ap (λ xs. xs ++ new) kept_is)
        ∙ ap (λ xs. xs ++ drop behind text) (sym (append_assoc (take start text) (take kept rest) new))
        ∙ ap (λ xs. (front ++ new) ++ xs) (sym (drop-drop kept stop text))
        ∙ sym (ap₂ (λ xs ys. xs ++ new ++ ys) ahead after)

    pub replaced_place : (ucd : Data) (t : Document) (o : ℕ) → t.content.text ≡ text → between ≡ place_after_removal ucd t start stop
        → o ≡ place_after ucd t start behind whole → o ≡ place_after_replacement ucd t start stop new
    replaced_place ucd t o same e place =
        let rows = text_rows ucd t.base t.w in
        place ∙ ap (λ xs. place_from (rows (splice xs start behind whole)) (start + length whole)) same
        ∙ ap₂ (λ xs n. place_from (rows xs) n) same_text whole_stop
        ∙ ap (λ xs. place_from (rows (splice (splice xs start stop []) between between new)) (between + length new)) (sym same)
        ∙ ap (λ b. place_from (rows (splice (splice t.content.text start stop []) b b new)) (b + length new)) e

    pub replaced_text_place : (ucd : Data) (t : Document) (o : ℕ) → t.content.text ≡ text → between ≡ place_after_removal ucd t start stop
        → IsTextPlace ucd (splice text start behind whole) o → IsTextPlace ucd (replaced_text ucd t start stop new) o
    replaced_text_place ucd t o same e place =
        subst (λ xs. IsTextPlace ucd xs o)
        (same_text ∙ ap (λ xs. splice (splice xs start stop []) between between new) (sym same)
        ∙ ap (λ b. splice (splice t.content.text start stop []) b b new) e) place
