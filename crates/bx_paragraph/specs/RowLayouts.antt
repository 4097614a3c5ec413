-- The row of a body that a row laid out by the code (`RowLayout`) is.
use Rattle.std.specs.Prelude.{Bool}
use Rattle.bx_ucd.specs.declared.data.BidiData.{Ghosts}
use Rattle.bx_rows.specs.declared.row_layout.RowLayout.{RowLayout}
use Rattle.bx_paragraph.specs.BodyRows.{BodyRow}

-- the row, given whether it is the paragraph's last
abbrev pub body_row : {D : Type 0} {g : Ghosts D} → RowLayout D g → Bool → BodyRow
body_row r is_last = record {
  body = r.lines.body.now;
  paragraph = r.lines.levels.now.paragraph;
  each = r.lines.levels.now.each.items;
  units = r.units.items;
  levels = r.levels.items;
  is_last = is_last;
}
