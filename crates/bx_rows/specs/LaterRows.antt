-- Row starts reckoned from another start. After an edit, the rows of the rest of a body are found alone (`behind`), and
-- rows that did not change have new starts (`moved`).
use Rattle.std.specs.Prelude.{◌+◌, ◌-◌}
use Rattle.bx_rows.specs.declared.start_search.RowStart.{RowStart}

-- the start `r` of a row in the rest of a body after the start `s`, as a start in the body
abbrev pub behind : RowStart → RowStart → RowStart
behind s r = record { offset = s.offset + r.offset; units = s.units + r.units; chars = s.chars + r.chars }

-- the start that is as far after `r` as the start `t` is after `s`
abbrev pub moved : RowStart → RowStart → RowStart → RowStart
moved s r t = record { offset = r.offset + (t.offset - s.offset); units = r.units + (t.units - s.units); chars = r.chars + (t.chars - s.chars) }
