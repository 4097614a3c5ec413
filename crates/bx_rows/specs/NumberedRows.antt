-- The glyphs of a row of a body, by its number, in a window of `w` columns. `ucd` is what the tables say.
use Rattle.std.specs.Prelude.{ℕ, List, Option}
use Rattle.bx_ucd.specs.Data.{Data}
use Rattle.bx_rows.specs.RowLevels.{row_levels}
use Rattle.bx_rows.specs.RowPicture.{Glyph, draw}
use Rattle.bx_rows.specs.RowStarts.{units_of_row}

-- row number `k` of a body, from 0, in a paragraph of the level `paragraph` whose characters have the levels `each`
abbrev pub draw_numbered : Data → ℕ → List ℕ → ℕ → List (Option ℕ) → ℕ → List Glyph
draw_numbered ucd w body paragraph each k =
    let us = units_of_row ucd w body k in
    draw ucd w body paragraph each us (row_levels ucd body paragraph each us)
