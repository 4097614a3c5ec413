-- The types collected so far, and those left to collect.
use Rattle.std.proofs.Common.{◌≡◌, ◌++◌, drop}
use Rattle.bx_levels.specs.embedding.LevelIndexes.{indexes_from}
use Rattle.bx_levels.specs.resolve.LevelRuns.{sequence_indexes}
use Rattle.bx_levels.specs.resolve.Levels.{types_at}
use Rattle.bx_levels.proofs.resolve.formatted.sequence_types.Given as goal

abbrev pub invariant-loop-first : goal.invariant-loop-first
invariant-loop-first l = types_at l.sequence.kept.now (sequence_indexes l.sequence)
    ≡ l.types.items ++ types_at l.sequence.kept.now (indexes_from l.sequence.ends.level l.sequence.kept.now (drop l.first-index l.sequence.firsts.now))
