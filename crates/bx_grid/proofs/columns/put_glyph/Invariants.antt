use Rattle.std.proofs.Common.{◌≡◌}
use Rattle.bx_grid.specs.Columns.{glyph_columns_from}
use Rattle.bx_grid.specs.Grid.{paste}
use Rattle.bx_grid.specs.Seen.{all_seen}
use Rattle.bx_grid.proofs.columns.put_glyph.Given as goal

abbrev pub invariant-loop-offset : goal.invariant-loop-offset
invariant-loop-offset l = all_seen l.columns ≡ paste (all_seen l.initial.columns) l.from (glyph_columns_from l.glyph.text.now l.glyph.width l.glyph.negative 0 l.offset)
