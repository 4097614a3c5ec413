use Rattle.std.proofs.Common.{◌≡◌, ◌++◌, drop, map, take}
use Rattle.bx_grid.specs.Seen.{all_seen}
use Rattle.bx_grid.specs.Columns.{turned}
use Rattle.bx_grid.proofs.turning.turn_all.Given as goal

abbrev pub invariant-loop-column : goal.invariant-loop-column
invariant-loop-column l =
    all_seen l.columns ≡ map turned (take l.column-index (all_seen l.initial.columns)) ++ drop l.column-index (all_seen l.initial.columns)
