-- Nothing before the index `first` is kept.
use Rattle.std.proofs.Common.{◌≡◌, ◌≤◌, ◌-◌, drop, length}
use Rattle.bx_levels.specs.embedding.Sequences.{runs_from}
use Rattle.bx_levels.proofs.embedding.runs.next_run.Given as goal

abbrev pub invariant-loop-first : goal.invariant-loop-first
invariant-loop-first l = record {
  low : l.from ≤ l.first;
  within : l.first ≤ length l.kept;
  same : runs_from l.from (drop l.from l.kept) ≡ runs_from l.first (drop l.first l.kept);
}

abbrev pub decreases-loop-first : goal.decreases-loop-first
decreases-loop-first l = length l.kept - l.first
