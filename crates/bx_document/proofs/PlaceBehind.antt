-- The last place at or before an offset behind an edit, found in the touched paragraphs or in the text before the edit.
use Rattle.std.proofs.Common.{◌≡◌, ℕ, ◌+◌, ◌-◌, ◌<◌, ◌≤◌, true, List, length, IsUtf8, IsCharBoundary, sym, ap, subst, ◌∙◌, arith}
use Rattle.bx_common.specs.Characters.{is_side}
use Rattle.bx_ucd.specs.Data.{Data}
use Rattle.bx_text.specs.Edits.{splice}
use Rattle.bx_text.specs.Changes.{IsRange}
use Rattle.bx_view.specs.Moves.{place_at}
use Rattle.bx_view.specs.Places.{IsTextPlace}
use Rattle.bx_view.specs.FoundRow.{rows_by}
use Rattle.bx_view.specs.Caching.{ViewState}
use Rattle.bx_view.proofs.KeptPlaces.{text-places-kept}
use Rattle.bx_view.proofs.TextPlaces.{place-between}
use Rattle.bx_paragraph.proofs.Starts.{side-some}
use Rattle.bx_document.specs.Touched.{touched, touched_start, touched_stop}
use Rattle.bx_document.proofs.TouchedPlace.{moved_last, splice_utf8, touched_last}

-- `o` is the last place at or before an offset, after an edit
pub record IsLastOf (ucd : Data) (v : ViewState) (text : List ℕ) (start stop : ℕ) (new : List ℕ) (offset o : ℕ) : Type 0 where
  pub place : o ≡ place_at (rows_by ucd v (splice text start stop new)) offset
  pub text_place : IsTextPlace ucd (splice text start stop new) o
  pub boundary : IsCharBoundary (splice text start stop new) o

module _ (ucd : Data) (v : ViewState) (text : List ℕ) (start stop : ℕ) (new : List ℕ)
    (side : is_side v.w ≡ true) (utf8 : IsUtf8 text) (range : IsRange text start stop) (new_utf8 : IsUtf8 new) where
  abbrev now : List ℕ
  now = splice text start stop new

  abbrev Is : ℕ → ℕ → Type 0
  Is offset o = IsLastOf ucd v text start stop new offset o

  some : 1 ≤ v.w
  some = side-some v.w side

  last_of : (offset o : ℕ) → o ≡ place_at (rows_by ucd v now) offset → Is offset o
  last_of offset o is =
      let valid : IsUtf8 now = splice_utf8 ucd text utf8 start stop new range new_utf8 in
      let kept : IsTextPlace ucd now (place_at (rows_by ucd v now) offset) =
      (text-places-kept ucd v.base v.w some now valid).at offset in
      let own : IsTextPlace ucd now o = subst (IsTextPlace ucd now) (sym is) kept in
      record { place = is; text_place = own; boundary = place-between ucd now o valid own }

  -- it is found in the touched paragraphs
  pub last_found : (bytes : List ℕ) (first offset at place : ℕ) → start + length new ≤ offset
      → offset + stop < touched_stop ucd text stop + start + length new
      → first ≡ touched_start ucd text start → bytes ≡ touched ucd text start stop new → at ≡ offset - first
      → place ≡ place_at (rows_by ucd v bytes) at → Is offset (first + place)
  last_found bytes first offset at place from inside a b e f =
      let begin = touched_start ucd text start in
      let mine = touched ucd text start stop new in
      let same : at ≡ offset - begin = e ∙ ap (λ n. offset - n) a in
      let found : place ≡ place_at (rows_by ucd v mine) (offset - begin) =
      f ∙ ap (λ bs. place_at (rows_by ucd v bs) at) b ∙ ap (place_at (rows_by ucd v mine)) same in
      last_of offset (first + place)
      (ap (λ n. n + place) a ∙ ap (λ n. begin + n) found
      ∙ sym (touched_last ucd text utf8 start stop new range new_utf8 v.base v.w some offset (omega (arith, from)) inside))

  -- or it moves with the paragraphs behind them
  pub record IsMovedTo (offset place : ℕ) : Type 0 where
    pub behind : stop ≤ place
    pub is : Is (offset - stop + start + length new) (place - stop + start + length new)

  pub last_moved : (offset last place : ℕ) → last ≡ touched_stop ucd text stop → stop ≤ last → last ≤ offset
      → IsCharBoundary text offset
      → place ≡ place_at (rows_by ucd v text) offset → IsMovedTo offset place
  last_moved offset last place e reached low bounds f =
      let moved = moved_last ucd text utf8 start stop new range new_utf8 v.base v.w some offset (omega (arith, e, low)) bounds.0 in
      record {
        behind = omega (arith, moved.reached, reached, e, f);
        is = last_of (offset - stop + start + length new) (place - stop + start + length new)
            (ap (λ n. n - stop + start + length new) f ∙ sym moved.place);
      }
