-- The picture of an editor's state: the text rows from the top on, the status row, and the cursor, whose row and column count from
-- 0. `d` is Unicode's data, `e` the editor, `top` the offset whose row is shown first.
use Rattle.std.specs.Prelude.{◌≡◌, ℕ, ◌+◌, ◌-◌, ◌*◌, List, ◌++◌, replicate, Option, Some, None, if◌then◌else◌}
use Rattle.bx_view.specs.Cells.{HasCell, HasOneSlot}
use Rattle.bx_view.specs.TextRows.{IsPlace, TextRow, row_of, cell_of}
use Rattle.bx_view.specs.Top.{follow, shown_rows}
use Rattle.bx_document.specs.Drawing.{IsAmong}
pub use Rattle.bx_document.specs.Drawing.{row_columns, side_by_side, region_columns, region_rows}
use Rattle.bx_grid.specs.Columns.{blank}
use Rattle.bx_grid.specs.Picture.{PictureState}
use Rattle.bx_ucd.specs.Data.{Data}
use Rattle.bx_editor.specs.Editor.{Editor, rows, text_height, with_top}
use Rattle.bx_editor.specs.declared.scrolling.Scroll.{Scroll}
use Rattle.bx_editor.specs.Replacing.{seen}
use Rattle.bx_editor.specs.Scrolling.{moved_top}
use Rattle.bx_editor.specs.Status.{input_column, status_columns}

-- a picture of spaces, with the cursor in its first column
abbrev pub blank_picture : ℕ → ℕ → PictureState
blank_picture height width = record { height = height; width = width; columns = replicate (height * width) blank; row = 0; column = 0 }

-- a picture whose cursor is in the status row, in a column from 1, if it is there
abbrev pub with_cursor : Option ℕ → PictureState → PictureState
with_cursor None p = p
with_cursor (Some column) p = record p { row = p.height - 1; column = column - 1 }

-- the picture of a text whose rows are `all`, from the row of the offset `top` on, with the region, or the match that is shown, in
-- the other rendition: negative, or normal where that is negative. The cursor is in the input line, if there is one and it has room
abbrev pub text_picture : Data → Editor → ℕ → List TextRow → PictureState
text_picture d e top all = with_cursor (input_column d e) (record {
  height = e.height;
  width = e.width;
  columns = region_rows d e.width (seen d e) (text_height e.height) (shown_rows all top (text_height e.height)) ++ status_columns d e;
  row = row_of all e.place - row_of all top;
  column = cell_of e.width all e.place - 1;
})

-- the picture, blank once Quit has ended the editor
abbrev pub picture : Data → Editor → ℕ → PictureState
picture d e top = if e.ended then blank_picture e.height e.width else text_picture d e top (rows d e)

-- the top nearest to the old one that makes the cursor's row visible
abbrev pub next_top : Data → Editor → ℕ → ℕ
next_top d e top = if e.ended then top else follow (rows d e) top e.place (text_height e.height)

-- the editor scrolled to its cursor: by the fewest rows that make the cursor's row visible
abbrev pub scrolled : Data → Editor → Editor
scrolled d e = with_top e (next_top d e e.top)

-- the new top behind a key, by its scroll and then by the fewest rows
abbrev pub top_behind : Data → Editor → ℕ → Scroll → ℕ
top_behind d e top scroll = if e.ended then top else next_top d e (moved_top d e top scroll)

-- the editor scrolled behind a key
abbrev pub scrolled_by : Data → Scroll → Editor → Editor
scrolled_by d scroll e = with_top e (top_behind d e e.top scroll)

-- The cursor of a picture, shown from the row of the offset `top` on, is on the cell of its place. The place is one of the
-- rows' places, with one slot and one cell, in the row that it falls in. That row is visible, and the cursor is in it, in
-- the column of the cell.
pub record StandsOnItsCell (d : Data) (e : Editor) (top : ℕ) (p : PictureState) : Type 0 where
  pub place : IsPlace (rows d e) e.place
  pub slot : HasOneSlot e.width (rows d e) e.place
  pub cell : HasCell d e.width (rows d e) e.place
  pub shown : IsAmong (rows d e) top e.place (text_height e.height)
  pub row : row_of (rows d e) top + p.row ≡ row_of (rows d e) e.place
  pub column : p.column + 1 ≡ cell_of e.width (rows d e) e.place
