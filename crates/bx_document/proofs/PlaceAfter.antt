-- The place after an edit, found in the touched paragraphs, is the document's place after it.
use Rattle.std.proofs.Common.{◌≡◌, ℕ, ◌+◌, ◌-◌, ◌≤◌, true, List, ◌++◌, length, take, drop, IsUtf8, IsCharBoundary, sym, ap, subst, ◌∙◌}
use Rattle.std.proofs.Common.{arith, length-append, length-drop}
use Rattle.std.proofs.lemmas.Bool.Decides.{nat_tests}
use Rattle.std.proofs.lemmas.List.{length-take-le}
use Rattle.bx_common.specs.Characters.{is_side}
use Rattle.bx_ucd.specs.Data.{Data}
use Rattle.bx_common.specs.declared.base.Base.{Base}
use Rattle.bx_text.specs.Edits.{fits, largest_text, splice}
use Rattle.bx_text.specs.Changes.{IsRange}
use Rattle.bx_view.specs.Moves.{place_from}
use Rattle.bx_view.specs.Places.{IsTextPlace}
use Rattle.bx_view.specs.FoundRow.{rows_by}
use Rattle.bx_view.specs.Caching.{ViewState}
use Rattle.bx_view.specs.TextRows.{TextRow, text_rows}
use Rattle.bx_view.proofs.KeptPlaces.{text-places-kept}
use Rattle.bx_view.proofs.TextPlaces.{place-between}
use Rattle.bx_paragraph.proofs.Starts.{side-some}
use Rattle.bx_document.specs.Touched.{touched, touched_start}
use Rattle.bx_document.proofs.TouchedPlace.{splice_utf8, touched_place}

pub splice_bytes : (text : List ℕ) (start stop : ℕ) (new : List ℕ) → IsRange text start stop → length (splice text start stop new)
    ≡ length text - (stop - start) + length new
splice_bytes text start stop new range =
    let bounds : IsCharBoundary text stop = range.stop_bounds in
    let inside : stop ≤ length text = bounds.0 in
    omega (
      arith,
      length-append (take start text ++ new) (drop stop text),
      length-append (take start text) new,
      length-take-le start text (omega (arith, inside, range.in_order)),
      length-drop stop text,
      inside,
      range.in_order,
    )

-- a text is within the limit after an edit that fits
pub splice_short : (text : List ℕ) (start stop : ℕ) (new : List ℕ) → IsRange text start stop → fits text start stop new ≡ true
    → length (splice text start stop new) ≤ largest_text
splice_short text start stop new range e =
    let most : length text - (stop - start) + length new ≤ largest_text = grind (arith, nat_tests) in
    omega (arith, most, splice_bytes text start stop new range)

-- `o` is the first place at or after an offset, after an edit
pub record IsPlaceOf (ucd : Data) (base : Base) (w : ℕ) (text : List ℕ) (start stop : ℕ) (new : List ℕ)
    (offset o : ℕ) : Type 0 where
  pub place : o ≡ place_from (text_rows ucd base w (splice text start stop new)) offset
  pub text_place : IsTextPlace ucd (splice text start stop new) o
  pub boundary : IsCharBoundary (splice text start stop new) o

pub place_of : (ucd : Data) (base : Base) (w : ℕ) (text : List ℕ) (start stop : ℕ) (new : List ℕ) (offset o : ℕ)
    → is_side w ≡ true → IsUtf8 text → IsRange text start stop → IsUtf8 new
    → o ≡ place_from (text_rows ucd base w (splice text start stop new)) offset
    → IsPlaceOf ucd base w text start stop new offset o
place_of ucd base w text start stop new offset o side utf8 range new_utf8 is =
    let some : 1 ≤ w = grind (arith, nat_tests) in
    let now = splice text start stop new in
    let valid : IsUtf8 now = splice_utf8 ucd text utf8 start stop new range new_utf8 in
    let kept : IsTextPlace ucd now (place_from (text_rows ucd base w now) offset) =
    (text-places-kept ucd base w some now valid).from offset in
    let own : IsTextPlace ucd now o = subst (IsTextPlace ucd now) (sym is) kept in
    record { place = is; text_place = own; boundary = place-between ucd now o valid own }

-- it is found in the touched paragraphs
pub found : (ucd : Data) (v : ViewState) (text : List ℕ) (start stop : ℕ) (new bytes : List ℕ) (first offset at place : ℕ)
    → is_side v.w ≡ true → IsUtf8 text → IsRange text start stop → IsUtf8 new → start ≤ offset → offset ≤ start + length new
    → first ≡ touched_start ucd text start → bytes ≡ touched ucd text start stop new → at ≡ offset - first
    → place ≡ place_from (rows_by ucd v bytes) at → IsPlaceOf ucd v.base v.w text start stop new offset (first + place)
found ucd v text start stop new bytes first offset at place side utf8 range new_utf8 from upto a b e f =
    let some : 1 ≤ v.w = side-some v.w side in
    let rows : List ℕ → List TextRow = rows_by ucd v in
    let same : at ≡ offset - touched_start ucd text start = e ∙ ap (λ n. offset - n) a in
    let is : first + place ≡ place_from (rows (splice text start stop new)) offset =
    ap (λ n. n + place) a ∙ ap (λ n. touched_start ucd text start + n)
    (f ∙ ap (λ bs. place_from (rows bs) at) b ∙ ap (place_from (rows (touched ucd text start stop new))) same)
    ∙ sym (touched_place ucd text utf8 start stop new range new_utf8 v.base v.w some offset from upto) in
    place_of ucd v.base v.w text start stop new offset (first + place) side utf8 range new_utf8 is
