use Rattle.std.proofs.Common.{◌≡◌, ◌≤◌, reverse, take, length}
use Rattle.bx_levels.specs.brackets.Resolve.{nearest}
use Rattle.bx_levels.proofs.brackets.resolve.nearest.Given as goal

abbrev pub invariant-loop-k : goal.invariant-loop-k
invariant-loop-k l = record { within : l.k ≤ length l.types; same : nearest l.sos (reverse l.types) ≡ nearest l.sos (reverse (take l.k l.types)) }

abbrev pub decreases-loop-k : goal.decreases-loop-k
decreases-loop-k l = l.k
