use Rattle.std.proofs.Common.{◌≡◌, take}
use Rattle.bx_grid.specs.Columns.{plain_columns}
use Rattle.bx_grid.specs.Grid.{paste}
use Rattle.bx_grid.specs.Seen.{all_seen}
use Rattle.bx_grid.proofs.columns.put_run.Given as goal

abbrev pub invariant-loop-i : goal.invariant-loop-i
invariant-loop-i l = all_seen l.columns ≡ paste (all_seen l.initial.columns) l.from (plain_columns l.negative (take l.i l.run))
