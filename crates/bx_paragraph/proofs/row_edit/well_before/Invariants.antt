-- The index is at most `row`.
use Rattle.std.proofs.Common.{◌≤◌}
use Rattle.bx_paragraph.proofs.row_edit.well_before.Given as goal

abbrev pub invariant-loop-k : goal.invariant-loop-k
invariant-loop-k l = l.k ≤ l.row

abbrev pub decreases-loop-k : goal.decreases-loop-k
decreases-loop-k l = l.k
