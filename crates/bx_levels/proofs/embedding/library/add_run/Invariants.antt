-- The indexes appended so far, and those left to append.
use Rattle.std.proofs.Common.{◌≡◌, ◌-◌, ◌++◌, drop, length}
use Rattle.bx_levels.specs.embedding.LevelIndexes.{level_indexes}
use Rattle.bx_levels.proofs.embedding.library.add_run.Given as goal

abbrev pub invariant-loop-k : goal.invariant-loop-k
invariant-loop-k l = l.fn.indexes.items ++ level_indexes l.level l.first (drop l.first l.kept) ≡ l.indexes.items ++ level_indexes l.level l.k (drop l.k l.kept)

abbrev pub decreases-loop-k : goal.decreases-loop-k
decreases-loop-k l = length l.kept - l.k
