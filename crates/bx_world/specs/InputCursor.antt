-- The cursor of a picture while a prompt shows an input line: in the status row, at what is typed. `d` is Unicode's data, `e` the editor,
-- `p` the picture, whose rows and columns count from 0.
use Rattle.std.specs.Prelude.{◌≡◌, ◌≢◌, ◌≤◌, ◌<◌, ℕ, ◌+◌, List, [], ◌∷◌, ◌++◌, length, Some}
use Rattle.bx_document.specs.InputLine.{columns_taken, line_cell, line_glyphs}
use Rattle.bx_editor.specs.Editor.{Editor}
use Rattle.bx_editor.specs.InputLines.{input_line_of}
use Rattle.bx_editor.specs.Status.{left_side, row_text}
use Rattle.bx_grid.specs.Picture.{PictureState}
use Rattle.bx_rows.specs.RowPicture.{Glyph, letter_glyphs}
use Rattle.bx_ucd.specs.Data.{Data}

-- Of the glyphs `all` a row of `w` columns shows those without `left_out`, behind `before` other columns, and a cursor that stands at the
-- column `cell` of `all` is in the row's column `column`; these columns count from 1. As few glyphs are left out as give the cursor room,
-- and never the cursor's own.
pub record IsShownPart (w before : ℕ) (all : List Glyph) (cell : ℕ) (left_out shown : List Glyph) (column : ℕ) : Type 0 where
  pub glyphs : all ≡ left_out ++ shown
  pub stands : column + columns_taken left_out ≡ before + cell
  pub room : column ≤ w
  pub fewest : (fewer : List Glyph) (g : Glyph) (more : List Glyph) → left_out ≡ fewer ++ g ∷ more → w + columns_taken fewer < before + cell
  pub own : left_out ≢ [] → columns_taken left_out < cell

-- The cursor is in the status row, at the cell of the input cursor's place, behind what is told and the prompt's words (`row_text`). Of
-- the line's glyphs, laid out as a text of one line, the row shows a part; all of them where they leave the cursor room.
pub record StandsInLine (d : Data) (e : Editor) (p : PictureState) : Type 0 where
  pub line : List ℕ
  pub cell : ℕ
  pub left_out : List Glyph
  pub shown : List Glyph
  pub is_line : input_line_of e ≡ Some line
  pub is_cell : line_cell d line e.input_cursor ≡ Some cell
  pub part : IsShownPart e.width (length (row_text d e)) (line_glyphs d line) cell left_out shown (p.column + 1)
  pub words : left_side d e (row_text d e) ≡ letter_glyphs (row_text d e) ++ shown
  pub some : 2 ≤ e.height
  pub row : p.row + 1 ≡ e.height
