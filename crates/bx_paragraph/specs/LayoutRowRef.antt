-- The row of a layout that a `LayoutRowRef` names.
use Rattle.bx_ucd.specs.declared.data.BidiData.{Ghosts}
use Rattle.bx_paragraph.specs.declared.layout_row_ref.LayoutRowRef.{LayoutRowRef}
use Rattle.bx_paragraph.specs.BodyRows.{BodyRow}
use Rattle.bx_paragraph.specs.Layout.{row_by}

-- the row with the `LayoutRowRef`'s number, from 0, by what its tables say
abbrev pub row : {D : Type 0} {g : Ghosts D} → LayoutRowRef D g → BodyRow
row {D} {g} s = row_by (g.data s.tables.now) s.paragraph.now s.number
