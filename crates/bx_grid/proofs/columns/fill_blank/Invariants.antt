use Rattle.std.proofs.Common.{◌≡◌, replicate, ◌-◌}
use Rattle.bx_grid.specs.Columns.{blank}
use Rattle.bx_grid.specs.Grid.{paste}
use Rattle.bx_grid.specs.Seen.{all_seen}
use Rattle.bx_grid.proofs.columns.fill_blank.Given as goal

abbrev pub invariant-loop-index : goal.invariant-loop-index
invariant-loop-index l = all_seen l.columns ≡ paste (all_seen l.initial.columns) l.from (replicate (l.index - l.from) blank)
