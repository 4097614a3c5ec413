-- The place in a wrapped region, found where the region and both texts replace the region.
use Rattle.std.proofs.Common.{◌≡◌, ℕ, ◌+◌, ◌-◌, ◌≤◌, true, nat_le, List, ◌++◌, length, drop, slice_range, sym, ap, subst, ◌∙◌, arith, length-append, length-drop}
use Rattle.std.proofs.lemmas.Bool.Decides.{nat_tests}
use Rattle.std.proofs.lemmas.List.{length-take-le}
use Rattle.bx_text.specs.Edits.{fits, fits_both, largest_text, splice}
use Rattle.bx_text.specs.Changes.{IsRange}
use Rattle.bx_ucd.specs.Data.{Data}
use Rattle.bx_view.specs.Moves.{place_from}
use Rattle.bx_view.specs.Places.{IsTextPlace}
use Rattle.bx_view.specs.TextRows.{text_rows}
use Rattle.bx_document.specs.declared.edits.RegionEnd.{RegionEnd}
use Rattle.bx_document.specs.declared.edits.RegionEnd.TheVariants.{Start, Stop}
use Rattle.bx_document.specs.Document.{Document, place_after_wrap}
use Rattle.bx_document.specs.Swapped.{wrapped_end, wrapped_text}
use Rattle.bx_document.proofs.PlacesKept.{wrapped_is}

module _ (text : List ℕ) (start stop : ℕ) (front back whole : List ℕ) (range : IsRange text start stop)
    (is : whole ≡ front ++ slice_range text start stop ++ back) (both : fits_both text front back ≡ true) where
  small : length text + length front + length back ≤ largest_text
  small = grind (arith, nat_tests)

  region_length : length (slice_range text start stop) ≡ stop - start
  region_length = length-take-le (stop - start) (drop start text) (omega (arith, length-drop start text, range.stop_bounds.0))

  pub whole_length : length whole ≡ length front + (stop - start) + length back
  whole_length =
      ap length is
      ∙ omega (
        arith,
        length-append (front ++ slice_range text start stop) back,
        length-append front (slice_range text start stop),
        region_length,
      )

  pub whole_fits : fits text start stop whole ≡ true
  whole_fits =
      let same : length text - (stop - start) + length whole ≡ length text + length front + length back =
      omega (arith, whole_length, range.stop_bounds.0, range.in_order) in
      ap (λ n. nat_le n largest_text) same ∙ both

  pub few : (start ≤ largest_text) × (stop ≤ largest_text) × (length front ≤ largest_text)
  few = (
    omega (arith, small, range.stop_bounds.0, range.in_order),
    omega (arith, small, range.stop_bounds.0),
    omega (arith, small),
  )

  end_inside : (end : RegionEnd) → (start ≤ wrapped_end end start stop front) × (wrapped_end end start stop front ≤ start + length whole)
  end_inside Start = (omega arith, omega (arith, whole_length))
  end_inside Stop = (omega (arith, range.in_order), omega (arith, whole_length, range.in_order))

  pub offset_inside : (end : RegionEnd) (offset : ℕ) → offset ≡ wrapped_end end start stop front → (start ≤ offset) × (offset ≤ start + length whole)
  offset_inside end offset e = subst (λ n. (start ≤ n) × (n ≤ start + length whole)) (sym e) (end_inside end)

  pub same_text : splice text start stop whole ≡ wrapped_text text start stop front back
  same_text = ap (splice text start stop) is ∙ wrapped_is text start stop front back range.in_order range.stop_bounds.0

  pub wrapped_place : (ucd : Data) (t : Document) (end : RegionEnd) (offset o : ℕ) → t.content.text ≡ text → offset ≡ wrapped_end end start stop front
      → o ≡ place_from (text_rows ucd t.base t.w (splice text start stop whole)) offset
      → o ≡ place_after_wrap ucd t start stop front back end
  wrapped_place ucd t end offset o same e place =
      place ∙ ap (λ xs. place_from (text_rows ucd t.base t.w xs) offset) same_text
      ∙ ap (place_from (text_rows ucd t.base t.w (wrapped_text text start stop front back))) e
      ∙ ap (λ xs. place_from (text_rows ucd t.base t.w (wrapped_text xs start stop front back)) (wrapped_end end start stop front)) (sym same)

  pub wrapped_text_place : (ucd : Data) (o : ℕ) → IsTextPlace ucd (splice text start stop whole) o
      → IsTextPlace ucd (wrapped_text text start stop front back) o
  wrapped_text_place ucd o h = subst (λ xs. IsTextPlace ucd xs o) same_text h
