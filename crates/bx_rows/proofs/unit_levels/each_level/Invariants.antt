-- The row's units read so far and those left give all levels.
use Rattle.std.proofs.Common.{◌≡◌, ◌≤◌, map, length, drop}
use Rattle.std.specs.Prelude.{flat_map}
use Rattle.std.specs.List.{zip}
use Rattle.bx_rows.specs.cells.Units.{unit_chars}
use Rattle.bx_rows.specs.LevelReads.{levels_from}
use Rattle.bx_rows.specs.RowLevels.{row_levels}
use Rattle.bx_rows.proofs.unit_levels.each_level.Given as goal

abbrev pub invariant-loop-unit : goal.invariant-loop-unit
invariant-loop-unit g l = record {
  within : l.waiting ≤ length l.found.items;
  levels : row_levels (g.D.BidiData.data l.tables) l.body l.levels.paragraph l.levels.each.items l.units
      ≡ levels_from l.levels.paragraph l.found.items l.waiting 0 (map (λ u. length (unit_chars l.body u)) (drop l.unit-index l.units))
      (zip (map (g.D.BidiData.data l.tables).class (flat_map (unit_chars l.body) (drop l.unit-index l.units))) l.left);
}
