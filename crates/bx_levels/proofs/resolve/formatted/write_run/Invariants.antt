-- The levels written so far, and those left to write.
use Rattle.std.proofs.Common.{◌≡◌, ◌-◌, ◌++◌, ℕ, List, drop, length}
use Rattle.bx_levels.specs.embedding.LevelIndexes.{level_indexes}
use Rattle.bx_levels.specs.resolve.Neutral.{implicit}
use Rattle.bx_levels.specs.resolve.LevelRuns.{run_indexes}
use Rattle.bx_levels.specs.resolve.Levels.{with_levels}
use Rattle.bx_levels.proofs.resolve.formatted.write_run.Given as goal

abbrev pub invariant-loop-k : goal.invariant-loop-k
invariant-loop-k l = record {
  all : length l.each.items ≡ length l.run.kept.now;
  written : (rest : List ℕ) → with_levels (run_indexes l.run ++ rest) (implicit l.run.level (drop l.fn.written l.types)) l.fn.each.items
      ≡ with_levels (level_indexes l.run.level l.k (drop l.k l.run.kept.now) ++ rest) (implicit l.run.level (drop l.written l.types)) l.each.items;
}

abbrev pub decreases-loop-k : goal.decreases-loop-k
decreases-loop-k l = length l.run.kept.now - l.k
