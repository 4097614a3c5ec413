-- The types collected so far, and those left to collect.
use Rattle.std.proofs.Common.{◌≡◌, ◌-◌, ◌++◌, drop, length}
use Rattle.bx_levels.specs.embedding.LevelIndexes.{level_indexes}
use Rattle.bx_levels.specs.resolve.LevelRuns.{run_indexes}
use Rattle.bx_levels.specs.resolve.Levels.{types_at}
use Rattle.bx_levels.proofs.resolve.formatted.gather_types.Given as goal

abbrev pub invariant-loop-k : goal.invariant-loop-k
invariant-loop-k l = l.fn.types.items ++ types_at l.run.kept.now (run_indexes l.run)
    ≡ l.types.items ++ types_at l.run.kept.now (level_indexes l.run.level l.k (drop l.k l.run.kept.now))

abbrev pub decreases-loop-k : goal.decreases-loop-k
decreases-loop-k l = length l.run.kept.now - l.k
