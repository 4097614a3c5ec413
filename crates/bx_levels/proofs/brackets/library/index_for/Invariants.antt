-- The pairs from index `k` on begin after the new one.
use Rattle.std.proofs.Common.{◌≤◌, ◌<◌, get_or, length}
use Rattle.bx_levels.proofs.brackets.library.index_for.Given as goal

abbrev pub invariant-loop-k : goal.invariant-loop-k
invariant-loop-k l = record { within : l.k ≤ length l.found; above : l.k < length l.found → l.pair.0 < (get_or l.found l.k (0, 0)).0 }

abbrev pub decreases-loop-k : goal.decreases-loop-k
decreases-loop-k l = l.k
