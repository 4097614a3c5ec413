-- A row of the text that a `LayoutRowRef` names, and the window's columns.
use Rattle.std.specs.Prelude.{ℕ}
use Rattle.bx_ucd.specs.declared.data.BidiData.{Ghosts}
use Rattle.bx_paragraph.specs.declared.layout_row_ref.LayoutRowRef.{LayoutRowRef}
use Rattle.bx_paragraph.specs.LayoutRowRef.{row}
use Rattle.bx_view.specs.TextRows.{TextRow, text_row}

module _ {D : Type 0} {g : Ghosts D} (s : LayoutRowRef D g) where
  -- the row as one of the text, in which its paragraph's body begins at the offset `s.start`
  abbrev pub placed : TextRow
  placed = text_row s.start (row s)

  -- the window's columns
  abbrev pub columns : ℕ
  columns = s.paragraph.now.w
