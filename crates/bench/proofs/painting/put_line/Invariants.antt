use Rattle.std.proofs.Common.{◌≡◌, ◌≤◌, ◌-◌}
use Rattle.bench.proofs.painting.put_line.Given as goal

abbrev pub invariant-loop-column : goal.invariant-loop-column
invariant-loop-column l = l.column ≤ 76

abbrev pub decreases-loop-column : goal.decreases-loop-column
decreases-loop-column l = 76 - l.column
