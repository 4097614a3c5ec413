use Rattle.std.proofs.Common.{◌≡◌, ◌≤◌, ◌-◌, length, take}
use Rattle.bx_grid.specs.Grid.{paste}
use Rattle.bx_grid.specs.Seen.{all_seen}
use Rattle.bx_grid.proofs.rows.copy_over.Given as goal

abbrev pub invariant-loop-next : goal.invariant-loop-next
invariant-loop-next l =
    (l.next ≤ length l.others) × (all_seen l.columns ≡ paste (all_seen l.fn.columns) l.from (all_seen (take l.next l.others)))

abbrev pub decreases-loop-next : goal.decreases-loop-next
decreases-loop-next l = length l.others - l.next
