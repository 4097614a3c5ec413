-- Laws of pointing at the picture, whose first row is the one of the offset `e.top`. Rows and columns of the picture count from 1, the
-- numbers of the text's rows (`k`) from 0. `d`, `e` and `new` are as in Laws.antt.
use Rattle.std.specs.Prelude.{◌≡◌, ◌≢◌, ◌⊎◌, ℕ, ◌+◌, ◌<◌, ◌≤◌, nat_le, true, false, List, [], ◌∷◌, length, replicate, Some, None, if◌then◌else◌}
use Rattle.bx_keys.specs.declared.key.Key.{Key}
use Rattle.bx_keys.specs.declared.key.Key.TheVariants.{Drag, Point}
use Rattle.bx_ucd.specs.Data.{Data}
use Rattle.bx_document.specs.Drawing.{IsAmong}
use Rattle.bx_document.specs.Line.{line_of}
use Rattle.bx_view.specs.Places.{IsTextPlace}
use Rattle.bx_view.specs.TextRows.{row_at, row_of}
use Rattle.bx_view.specs.Words.{stretch_at, unit_at}
use Rattle.bx_view_laws.specs.Pointed.{ShowsUnit, picture_row}
use Rattle.bx_editor.specs.declared.cursor.Soft.TheVariants as softness
use Rattle.bx_editor.specs.declared.questions.answers.Prompt.TheVariants as prompts
use Rattle.bx_editor.specs.Editor.{Editor, rows, text_height}
use Rattle.bx_editor.specs.Functions.{HasRows, after_keys}
use Rattle.bx_editor.specs.Keys.{after_key}
use Rattle.bx_editor.specs.Picture.{picture, scrolled}
use Rattle.bx_editor.specs.Pointing.{pointed_place}
use Rattle.bx_editor.specs.Region.{is_empty, mark_left, region}
use Rattle.bx_editor.specs.Status.{input_column}
use Rattle.bx_editor_laws.specs.SelectionLaws.{IsFirstPress}
use Rattle.bx_editor_laws.specs.WorkLaws.{IsFullEnd, own_row}

-- a picture is shown, the text is UTF-8 and the window has from 1 to 500 columns, as in every editor of the code whose session goes
-- on; no paste is under way, and the question is not whether to overwrite, which a Point only ends
pub record IsShown (e : Editor) : Type 0 where
  pub has : HasRows e
  pub on : e.ended ≡ false
  pub settled : e.pasted ≡ None
  pub undecided : e.prompt ≢ prompts.Overwrite

-- ---- at the cursor

-- the picture's row and column of the cursor, from 1
abbrev pub cursor_row : Data → Editor → ℕ
cursor_row d e = (picture d e e.top).row + 1

abbrev pub cursor_column : Data → Editor → ℕ
cursor_column d e = (picture d e e.top).column + 1

-- Pointing at the cursor's cell leaves the place, but at the end of a paragraph whose last row is full. So it is where the cursor stands
-- in the text, and not in an input line, and at a first press: a further one takes a word, or a paragraph.
abbrev pub PointStays : Type 0
PointStays =
    (d : Data) (e : Editor) → IsShown e → input_column d e ≡ None → IsFirstPress e (Point (cursor_row d e) (cursor_column d e))
    → IsTextPlace d e.content.text e.place → IsAmong (rows d e) e.top e.place (text_height e.height)
    → ((after_key d None e (Point (cursor_row d e) (cursor_column d e))).place ≡ e.place) ⊎ IsFullEnd e.width (own_row d e) e.place

-- ---- at a unit

-- the place is this one, and the picture has the cursor in this row and column
pub record StandsAt (d : Data) (row column place : ℕ) (new : Editor) : Type 0 where
  pub place_is : new.place ≡ place
  pub row_is : cursor_row d (scrolled d new) ≡ row
  pub column_is : cursor_column d (scrolled d new) ≡ column

-- A Point at any column of a visible unit moves the cursor to that unit: its place is the unit's, and its cell the unit's leftmost, in
-- the same row of the picture. So it is at a first press.
abbrev pub PointTakesUnits : Type 0
PointTakesUnits =
    (d : Data) (e : Editor) (k place column stop c : ℕ) → IsShown e → row_of (rows d e) e.top ≤ k → k < length (rows d e)
    → picture_row (rows d e) e.top k ≤ text_height e.height → ShowsUnit d e.width (row_at (rows d e) k) place column stop → column ≤ c → c < stop
    → let row = picture_row (rows d e) e.top k in IsFirstPress e (Point row c) → StandsAt d row column place (after_key d None e (Point row c))

-- ---- again and again

-- a part of the text is selected, with the cursor at its end
pub record IsSelected (part : ℕ × ℕ) (new : Editor) : Type 0 where
  pub mark_is : new.mark ≡ Some part.0
  pub place_is : new.place ≡ part.1
  pub soft_is : new.soft ≡ softness.Old

-- the cursor is at this place, and nothing is selected
pub record IsBare (place : ℕ) (new : Editor) : Type 0 where
  pub place_is : new.place ≡ place
  pub mark_is : new.mark ≡ None

-- presses one after the other
abbrev pub presses : ℕ → ℕ → ℕ → List Key
presses row column n = replicate n (Point row column)

-- Where nothing was pressed before and no selection is fresh, the first press at a cell goes to a place `p`, and leaves a mark that is no
-- selection's; the second selects the stretch at `p`, the word of its unit, or in an empty line nothing; the third selects the paragraph;
-- the fourth is as the first, without a mark.
pub record PressesTake (d : Data) (e : Editor) (row column p : ℕ) : Type 0 where
  pub first : (after_keys d None e (presses row column 1)).place ≡ p
  pub leaves : (after_keys d None e (presses row column 1)).mark ≡ mark_left e.soft e.mark
  pub word : is_empty (stretch_at d e.content.text p) ≡ false → IsSelected (stretch_at d e.content.text p) (after_keys d None e (presses row column 2))
  pub no_word : is_empty (stretch_at d e.content.text p) ≡ true → IsBare (stretch_at d e.content.text p).0 (after_keys d None e (presses row column 2))
  pub paragraph : IsSelected (line_of d e.content.text p) (after_keys d None e (presses row column 3))
  pub again : IsBare p (after_keys d None e (presses row column 4))

-- so it is outside a paste and the question whether to overwrite, in a row of the picture that shows text, where the top stays
abbrev pub ThreePresses : Type 0
ThreePresses =
    (d : Data) (e : Editor) (row column : ℕ) → e.pasted ≡ None → e.prompt ≢ prompts.Overwrite → e.clicks ≡ None → e.soft ≢ softness.Fresh
    → row ≤ text_height e.height → PressesTake d e row column (pointed_place d e row column)

-- ---- dragging

-- the unit that a cell shows
abbrev pub unit_of : Data → Editor → ℕ → ℕ → ℕ × ℕ
unit_of d e row column = unit_at d e.content.text (pointed_place d e row column)

-- from the start of the unit that begins first to the end of the other
abbrev pub both_units : ℕ × ℕ → ℕ × ℕ → ℕ × ℕ
both_units one other = if nat_le one.0 other.0 then (one.0, other.1) else (other.0, one.1)

-- Where nothing was pressed before and no selection is fresh, dragging from a cell to a cell of another unit selects both units, and so does
-- dragging from that to the first; dragging back then selects the first unit alone.
pub record DragTakes (d : Data) (e : Editor) (row column to_row to_column : ℕ) : Type 0 where
  pub on : region (after_keys d None e (Point row column ∷ Drag to_row to_column ∷ []))
      ≡ both_units (unit_of d e row column) (unit_of d e to_row to_column)
  pub back : region (after_keys d None e (Point to_row to_column ∷ Drag row column ∷ []))
      ≡ both_units (unit_of d e row column) (unit_of d e to_row to_column)
  pub alone : region (after_keys d None e (Point row column ∷ Drag to_row to_column ∷ Drag row column ∷ [])) ≡ unit_of d e row column

-- so it is outside a paste and the question whether to overwrite, in rows of the picture that show text, where the top stays
abbrev pub DragsTakeBoth : Type 0
DragsTakeBoth =
    (d : Data) (e : Editor) (row column to_row to_column : ℕ) → e.pasted ≡ None → e.prompt ≢ prompts.Overwrite → e.clicks ≡ None
    → e.soft ≢ softness.Fresh → row ≤ text_height e.height → to_row ≤ text_height e.height
    → pointed_place d e row column ≢ pointed_place d e to_row to_column → DragTakes d e row column to_row to_column
