use Rattle.std.proofs.Common.{◌≡◌, ◌≤◌, ◌-◌, length}
use Rattle.bx_grid.specs.Columns.{cut_after}
use Rattle.bx_grid.specs.Seen.{all_seen}
use Rattle.bx_terminal.proofs.Spoils.{mixed}
use Rattle.bx_terminal.proofs.columns.forget_right.Given as goal

abbrev pub invariant-loop-next : goal.invariant-loop-next
invariant-loop-next l = record {
  low : l.next ≤ length l.initial.row;
  cut : all_seen l.row ≡ mixed l.next (cut_after 0 (all_seen l.initial.row)) (all_seen l.initial.row);
}

abbrev pub decreases-loop-next : goal.decreases-loop-next
decreases-loop-next l = length l.initial.row - l.next
