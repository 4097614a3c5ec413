-- The indexes appended so far, and those left to append.
use Rattle.std.proofs.Common.{◌≡◌, ◌++◌, drop}
use Rattle.bx_levels.specs.embedding.LevelIndexes.{indexes_from}
use Rattle.bx_levels.proofs.embedding.library.indexes_from.Given as goal

abbrev pub invariant-loop-first : goal.invariant-loop-first
invariant-loop-first l = indexes_from l.level l.kept l.firsts ≡ l.indexes.items ++ indexes_from l.level l.kept (drop l.first-index l.firsts)
