-- The run so far, before the runs from index `k` on, and nothing kept between.
use Rattle.std.proofs.Common.{◌≡◌, ◌≤◌, ◌<◌, ◌+◌, ◌-◌, drop, length}
use Rattle.bx_levels.specs.embedding.Sequences.{runs_from}
use Rattle.bx_levels.proofs.embedding_lemmas.RunsAt.{extend}
use Rattle.bx_levels.proofs.embedding.runs.last_of_run.Given as goal

abbrev pub invariant-loop-k : goal.invariant-loop-k
invariant-loop-k l = record {
  ordered : l.first ≤ l.last;
  after : l.last < l.k;
  within : l.k ≤ length l.kept;
  so_far : runs_from l.first (drop l.first l.kept) ≡ extend l.level l.first l.last (runs_from l.k (drop l.k l.kept));
  skipped : runs_from (l.last + 1) (drop (l.last + 1) l.kept) ≡ runs_from l.k (drop l.k l.kept);
}

abbrev pub decreases-loop-k : goal.decreases-loop-k
decreases-loop-k l = length l.kept - l.k
