-- The levels written so far, and those left to write.
use Rattle.std.proofs.Common.{◌≡◌, drop, length}
use Rattle.bx_levels.specs.embedding.LevelIndexes.{indexes_from}
use Rattle.bx_levels.specs.resolve.Neutral.{implicit}
use Rattle.bx_levels.specs.resolve.LevelRuns.{sequence_indexes}
use Rattle.bx_levels.specs.resolve.Levels.{with_levels}
use Rattle.bx_levels.proofs.resolve.formatted.write_levels.Given as goal

abbrev pub invariant-loop-first : goal.invariant-loop-first
invariant-loop-first l = record {
  all : length l.each.items ≡ length l.sequence.kept.now;
  written : with_levels (sequence_indexes l.sequence) (implicit l.sequence.ends.level l.types) l.fn.each.items
      ≡ with_levels (indexes_from l.sequence.ends.level l.sequence.kept.now (drop l.first-index l.sequence.firsts.now))
      (implicit l.sequence.ends.level (drop l.written l.types)) l.each.items;
}
