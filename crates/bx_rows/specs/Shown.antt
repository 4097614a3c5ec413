-- The glyph that a `Drawn` of the code is, and what placeholders and rows must be for a picture to be drawn in `w` columns.
use Rattle.std.specs.Prelude.{◌≤◌, ℕ, List, length}
use Rattle.std.specs.Cow.{cow_str_bytes}
use Rattle.bx_rows.specs.declared.cells.unit.Unit.{Unit}
use Rattle.bx_rows.specs.declared.drawn.Drawn.{Drawn}
use Rattle.bx_rows.specs.declared.wrapping.Row.{Row}
use Rattle.bx_rows.specs.RowPicture.{Glyph, glyph, columns_used}
use Rattle.bx_rows.specs.Wrapping.{row_units}

-- the glyph that a `Drawn` is
abbrev pub glyph_of : Drawn → Glyph
glyph_of d = glyph (cow_str_bytes d.text) d.columns d.negative

-- a row of the units with no more columns than the window
abbrev pub IsRowOf : ℕ → List Unit → Row → Type 0
IsRowOf w us r = (r.start ≤ r.stop) × (r.stop ≤ length us) × (columns_used w (row_units us r) ≤ w)
