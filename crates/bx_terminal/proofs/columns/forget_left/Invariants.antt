use Rattle.std.proofs.Common.{◌≡◌, ◌≤◌}
use Rattle.bx_grid.specs.Columns.{cut_before}
use Rattle.bx_grid.specs.Seen.{all_seen}
use Rattle.bx_terminal.proofs.Spoils.{mixed}
use Rattle.bx_terminal.proofs.columns.forget_left.Given as goal

abbrev pub invariant-loop-first : goal.invariant-loop-first
invariant-loop-first l = record {
  low : l.first ≤ l.count;
  cut : all_seen l.row ≡ mixed l.first (all_seen l.initial.row) (cut_before (all_seen l.initial.row));
}

abbrev pub decreases-loop-first : goal.decreases-loop-first
decreases-loop-first l = l.first
