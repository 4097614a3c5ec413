-- The cursor of a picture is on the cell of its place.
use Rattle.std.proofs.Common.{◌≡◌, ◌∙◌, ℕ, ◌-◌, ◌≤◌, ◌++◌, IsUtf8, None, ap, arith}
use Rattle.bx_grid.specs.Picture.{PictureState}
use Rattle.bx_view.specs.Places.{IsTextPlace}
use Rattle.bx_view.specs.TextRows.{IsPlace, cell_of, row_of}
use Rattle.bx_view.proofs.GlyphCells.{has-cell}
use Rattle.bx_view.proofs.OneSlot.{one-slot}
use Rattle.bx_view.proofs.TextPlaces.{place-in-window}
use Rattle.bx_document.specs.Drawing.{IsAmong}
use Rattle.bx_view.proofs.CellColumns.{cell-inside}
use Rattle.bx_ucd.specs.Data.{Data}
use Rattle.bx_editor.specs.Editor.{Editor, rows, text_height}
use Rattle.bx_view.specs.Top.{shown_rows}
use Rattle.bx_document.specs.Drawing.{region_rows}
use Rattle.bx_editor.specs.Picture.{StandsOnItsCell, text_picture, with_cursor}
use Rattle.bx_editor.specs.Replacing.{seen}
use Rattle.bx_editor.specs.Status.{input_column, status_columns}

-- the picture with the cursor in the text
abbrev pub in_text : Data → Editor → ℕ → PictureState
in_text d e top = record {
  height = e.height;
  width = e.width;
  columns = region_rows d e.width (seen d e) (text_height e.height) (shown_rows (rows d e) top (text_height e.height)) ++ status_columns d e;
  row = row_of (rows d e) e.place - row_of (rows d e) top;
  column = cell_of e.width (rows d e) e.place - 1;
}

without-input : (d : Data) (e : Editor) (top : ℕ) → input_column d e ≡ None → text_picture d e top (rows d e) ≡ in_text d e top
without-input d e top none = ap (λ o. with_cursor o (in_text d e top)) none

pub stands : (d : Data) (e : Editor) (top : ℕ) (p : PictureState) → 1 ≤ e.width → IsUtf8 e.content.text → IsTextPlace d e.content.text e.place
    → IsAmong (rows d e) top e.place (text_height e.height) → input_column d e ≡ None → p ≡ text_picture d e top (rows d e)
    → StandsOnItsCell d e top p
stands d e top p some utf8 place shown none told =
    let is = told ∙ without-input d e top none in
    let there : IsPlace (rows d e) e.place = place-in-window d e.base e.width some e.content.text utf8 e.place place in
    let inside = cell-inside d e.base e.width e.content.text e.place some utf8 in
    let row : p.row ≡ row_of (rows d e) e.place - row_of (rows d e) top = ap (λ (q : PictureState). q.row) is in
    let column : p.column ≡ cell_of e.width (rows d e) e.place - 1 = ap (λ (q : PictureState). q.column) is in record {
      place = there;
      slot = one-slot d e.base e.width some e.content.text utf8 e.place there;
      cell = has-cell d e.base e.width some e.content.text utf8 e.place there;
      shown = shown;
      row = omega (arith, row, shown.above);
      column = omega (arith, column, inside.0);
    }
