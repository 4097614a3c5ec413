-- The indexes of the range before `k` are clear.
use Rattle.std.proofs.Common.{◌≤◌, ◌-◌}
use Rattle.bx_levels.specs.brackets.Clear.{IsClear}
use Rattle.bx_levels.proofs.brackets.resolve.has.Given as goal

abbrev pub invariant-loop-k : goal.invariant-loop-k
invariant-loop-k l = record { clear : IsClear l.d l.types (record { from = l.from; to = l.k }); begun : l.from ≤ l.k }

abbrev pub decreases-loop-k : goal.decreases-loop-k
decreases-loop-k l = l.to - l.k
