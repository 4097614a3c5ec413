-- The row is at `row` or above it.
use Rattle.std.proofs.Common.{◌≤◌}
use Rattle.bx_view.proofs.moves.words.row_to_read.Given as goal

abbrev pub invariant-loop-there : goal.invariant-loop-there
invariant-loop-there g l = record { order : l.there ≤ l.fn.row }

abbrev pub decreases-loop-there : goal.decreases-loop-there
decreases-loop-there g l = l.there
