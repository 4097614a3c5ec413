use Rattle.std.proofs.Common.{◌≡◌, replicate}
use Rattle.bx_grid.specs.Columns.{Unknown}
use Rattle.bx_grid.specs.Grid.{paste}
use Rattle.bx_grid.specs.Seen.{all_seen}
use Rattle.bx_terminal.proofs.columns.fill_unknown.Given as goal

abbrev pub invariant-loop-column : goal.invariant-loop-column
invariant-loop-column l = all_seen l.columns ≡ paste (all_seen l.initial.columns) 0 (replicate l.column-index Unknown)
