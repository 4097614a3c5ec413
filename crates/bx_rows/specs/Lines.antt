-- The units, levels and glyphs of a body's rows, by the rows' numbers from 0.
use Rattle.std.specs.Prelude.{ℕ, List}
use Rattle.bx_ucd.specs.declared.data.BidiData.{Ghosts}
use Rattle.bx_rows.specs.declared.cells.unit.Unit.{Unit}
use Rattle.bx_rows.specs.cells.UnitFacts.{HasFace}
use Rattle.bx_rows.specs.declared.lines.Lines.{Lines}
use Rattle.bx_rows.specs.NumberedRows.{draw_numbered}
use Rattle.bx_rows.specs.RowLevels.{row_levels}
use Rattle.bx_rows.specs.RowPicture.{Glyph, own_glyphs}
use Rattle.bx_rows.specs.RowStarts.{units_of_row}

-- `s`: a body with its row starts, levels and tables; `g.data` is what the tables say
module _ {D : Type 0} {g : Ghosts D} (s : Lines D g) where
  -- the units of row `k`
  abbrev pub units_at : ℕ → List Unit
  units_at k = units_of_row (g.data s.tables.now) s.w s.body.now k

  -- a unit has the face that its text has in the window
  abbrev pub ShowsFace : Unit → Type 0
  ShowsFace u = HasFace (g.data s.tables.now) s.w s.body.now u

  -- the levels of a row's units, by L1
  abbrev pub levels_of : List Unit → List ℕ
  levels_of us = row_levels (g.data s.tables.now) s.body.now s.levels.now.paragraph s.levels.now.each.items us

  -- the glyphs of row `k` from left to right
  abbrev pub glyphs_at : ℕ → List Glyph
  glyphs_at k = draw_numbered (g.data s.tables.now) s.w s.body.now s.levels.now.paragraph s.levels.now.each.items k

  -- the glyphs of row `k` without the row's blanks
  abbrev pub own_glyphs_at : ℕ → List Glyph
  own_glyphs_at k = let us = units_at k in own_glyphs (g.data s.tables.now) s.w s.body.now s.levels.now.each.items us (levels_of us)
