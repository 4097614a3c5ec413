-- Laws of ErasePoint, FindNext, and the moves that keep their column. `d`, `e` and `new` are as in Laws.antt; `r` is a row of the
-- text, `w` the window's columns.
use Rattle.std.specs.Prelude.{◌≡◌, ◌≢◌, ℕ, ◌+◌, ◌*◌, ◌<◌, ◌≤◌, Bool, true, false, List, [], ◌∷◌, ◌++◌, length, take, drop, replicate}
use Rattle.std.specs.Prelude.{Some, None, All, Contains}
use Rattle.bx_keys.specs.declared.key.Key.{Key}
use Rattle.bx_keys.specs.declared.key.Key.TheVariants.{ErasePoint, Find, FindBack, FindNext, FindPrevious, LineDown, LineUp, PageBack, PageOn}
use Rattle.bx_ucd.specs.Data.{Data}
use Rattle.bx_editor.specs.declared.questions.answers.Prompt.TheVariants as prompts
use Rattle.bx_rows.specs.RowPicture.{columns_used}
use Rattle.bx_paragraph.specs.declared.slots.Slot.{Slot}
use Rattle.bx_paragraph.specs.Slots.{covers, row_slots}
use Rattle.bx_view.specs.declared.moves.Logical.TheVariants.{Back}
use Rattle.bx_view.specs.declared.moves.Goal.{Goal}
use Rattle.bx_view.specs.Moves.{goal_in, goal_of, step_logical}
use Rattle.bx_view.specs.Places.{IsTextPlace}
use Rattle.bx_view.specs.TextRows.{TextRow, cell_of, row_at, row_of}
use Rattle.bx_editor.specs.declared.search_state.SearchState.TheVariants.{Off}
use Rattle.bx_editor.specs.Editor.{Editor, rows, text_height}
use Rattle.bx_editor.specs.Functions.{HasRows, after_keys}
use Rattle.bx_editor.specs.Erasing.{is_behind_spaces, point_before}
use Rattle.bx_editor.specs.Keys.{after_key}
use Rattle.bx_editor.specs.Scrolling.{page_rows}
use Rattle.bx_editor.specs.Search.{sought}
use Rattle.bx_editor.specs.Region.{is_selection}

-- ---- a point erased

-- the text from the start of the point to the place is gone; that start lies in the unit before the place
pub record ErasesEnd (d : Data) (e new : Editor) : Type 0 where
  pub text_is : new.content.text ≡ take (point_before d e) e.content.text ++ drop e.place e.content.text
  pub in_unit : step_logical (rows d e) Back e.place ≤ point_before d e
  pub before_place : point_before d e ≤ e.place

-- outside a search, a question and a paste, and without a selection, ErasePoint leaves all before the point, and all after the
-- place; but of the spaces that stand for a tab it removes more
abbrev pub ErasePointLeavesBeginning : Type 0
ErasePointLeavesBeginning =
    (d : Data) (e : Editor) → HasRows e → e.prompt ≡ prompts.Off → e.search_state ≡ Off → e.pasted ≡ None → e.read_only ≡ false → is_selection e ≡ false
    → is_behind_spaces d e ≡ false → IsTextPlace d e.content.text e.place
    → ErasesEnd d e (after_key d None e ErasePoint)

-- ---- the next match

-- Outside a search FindNext leads to where Find and then Find lead, with the same message, if the query has letters; but no search is
-- on, and the cursor of an input line stays. In the question whether to overwrite it only ends that.
abbrev pub FindNextIsFindTwice : Type 0
FindNextIsFindTwice =
    (d : Data) (e : Editor) → e.search_state ≡ Off → sought d e ≢ [] → e.prompt ≢ prompts.Overwrite
    → after_key d None e FindNext ≡ record (after_keys d None e (Find ∷ Find ∷ [])) { search_state = Off; input_cursor = e.input_cursor }

-- FindPrevious leads so to where Find and then FindBack lead
abbrev pub FindPreviousIsFindBack : Type 0
FindPreviousIsFindBack =
    (d : Data) (e : Editor) → e.search_state ≡ Off → sought d e ≢ [] → e.prompt ≢ prompts.Overwrite
    → after_key d None e FindPrevious ≡ record (after_keys d None e (Find ∷ FindBack ∷ [])) { search_state = Off; input_cursor = e.input_cursor }

-- ---- moves from row to row and back

-- the row of the cursor's place
abbrev pub own_row : Data → Editor → TextRow
own_row d e = row_at (rows d e) (row_of (rows d e) e.place)

-- The place is the end of a paragraph whose last row fills the window. No column is left for the end there, so the cursor
-- stands on the unit at the edge.
pub record IsFullEnd (w : ℕ) (r : TextRow) (place : ℕ) : Type 0 where
  pub last : r.row.is_last ≡ true
  pub at_end : place ≡ r.start + length r.row.body
  pub full : columns_used w r.row.units ≡ w

-- a unit of the row begins at the place, and its slot covers the column, from 1
pub record IsCovering (w : ℕ) (r : TextRow) (column place : ℕ) : Type 0 where
  pub slot : Slot
  pub is_slot : Contains (row_slots w r.row) slot
  pub place_is : place ≡ r.start + slot.offset
  pub covered : covers column slot ≡ true

-- The cursor is back at its place; but from the end of a paragraph that fills its last row, `n` rows lead to the unit at the
-- edge.
pub record LeadsBack (d : Data) (e : Editor) (n : ℕ) (new : Editor) : Type 0 where
  pub to_place : ¬ (IsFullEnd e.width (own_row d e) e.place) → new.place ≡ e.place
  pub to_edge : IsFullEnd e.width (own_row d e) e.place → 0 < n
      → IsCovering e.width (own_row d e) (cell_of e.width (rows d e) e.place) new.place

-- `n` rows down and up again lead back, if there are `n` rows below; and `n` rows up and down again, if there are `n` above
pub record LineMovesLeadBack (d : Data) (e : Editor) (n : ℕ) : Type 0 where
  pub below : row_of (rows d e) e.place + n < length (rows d e)
      → LeadsBack d e n (after_keys d None e (replicate n LineDown ++ replicate n LineUp))
  pub above : n ≤ row_of (rows d e) e.place
      → LeadsBack d e n (after_keys d None e (replicate n LineUp ++ replicate n LineDown))

-- a move by rows or by pages is made outside a search, a question and a paste
pub record CanMove (d : Data) (e : Editor) : Type 0 where
  pub rows_fit : HasRows e
  pub unsought : e.search_state ≡ Off
  pub settled : e.pasted ≡ None
  pub unasked : e.prompt ≡ prompts.Off
  pub place : IsTextPlace d e.content.text e.place

-- these moves lead back so where nothing is kept yet
abbrev pub LineMovesGoBack : Type 0
LineMovesGoBack = (d : Data) (e : Editor) (n : ℕ) → CanMove d e → e.goal ≡ None → LineMovesLeadBack d e n

-- the rows of `n` pages: of a page a row stays
abbrev pub rows_of_pages : Editor → ℕ → ℕ
rows_of_pages e n = n * page_rows (text_height e.height)

-- `n` pages down and up again lead back, if there are as many rows below; and `n` pages up and down again, if there are as many above
pub record PageMovesLeadBack (d : Data) (e : Editor) (n : ℕ) : Type 0 where
  pub below : row_of (rows d e) e.place + rows_of_pages e n < length (rows d e)
      → LeadsBack d e n (after_keys d None e (replicate n PageOn ++ replicate n PageBack))
  pub above : rows_of_pages e n ≤ row_of (rows d e) e.place
      → LeadsBack d e n (after_keys d None e (replicate n PageBack ++ replicate n PageOn))

-- these moves lead back as those by rows do
abbrev pub PageMovesGoBack : Type 0
PageMovesGoBack = (d : Data) (e : Editor) (n : ℕ) → CanMove d e → e.goal ≡ None → PageMovesLeadBack d e n

-- a column, or an edge of the rows, is kept, and the cursor is where its row is entered by that, as after a move that keeps it
pub record IsEntered (d : Data) (e : Editor) (goal : Goal) : Type 0 where
  pub kept : e.goal ≡ Some goal
  pub entered : goal_in e.width (own_row d e) goal ≡ Some e.place

-- from there all these moves lead back to the place itself
pub record MovesReturn (d : Data) (e : Editor) (n : ℕ) : Type 0 where
  pub lines_below : row_of (rows d e) e.place + n < length (rows d e)
      → (after_keys d None e (replicate n LineDown ++ replicate n LineUp)).place ≡ e.place
  pub lines_above : n ≤ row_of (rows d e) e.place
      → (after_keys d None e (replicate n LineUp ++ replicate n LineDown)).place ≡ e.place
  pub pages_below : row_of (rows d e) e.place + rows_of_pages e n < length (rows d e)
      → (after_keys d None e (replicate n PageOn ++ replicate n PageBack)).place ≡ e.place
  pub pages_above : rows_of_pages e n ≤ row_of (rows d e) e.place
      → (after_keys d None e (replicate n PageBack ++ replicate n PageOn)).place ≡ e.place

abbrev pub KeptMovesGoBack : Type 0
KeptMovesGoBack = (d : Data) (e : Editor) (n : ℕ) (goal : Goal) → CanMove d e → IsEntered d e goal → MovesReturn d e n

-- the keys that keep a column, or the start of the rows
abbrev pub keeps_column : Key → Bool
keeps_column LineUp = true
keeps_column LineDown = true
keeps_column PageBack = true
keeps_column PageOn = true
keeps_column _ = false

-- With nothing kept: however many of these keys follow one another, and however far there is a row for them, what they keep is the start of
-- the rows if the cursor is at its row's start before the first of them, else the cursor's column.
abbrev pub ColumnIsKept : Type 0
ColumnIsKept =
    (d : Data) (e : Editor) (first : Key) (keys : List Key) → e.search_state ≡ Off → e.pasted ≡ None → e.prompt ≡ prompts.Off → e.goal ≡ None
    → keeps_column first ≡ true → All (λ key. keeps_column key ≡ true) keys
    → (after_keys d None e (first ∷ keys)).goal ≡ Some (goal_of e.width (rows d e) e.place)
