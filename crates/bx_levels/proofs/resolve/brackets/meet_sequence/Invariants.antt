-- The characters met so far, and those left to meet.
use Rattle.std.proofs.Common.{◌≡◌, ◌≤◌, drop}
use Rattle.bx_levels.specs.brackets.Search.{pairs_after}
use Rattle.bx_levels.specs.embedding.LevelIndexes.{indexes_from}
use Rattle.bx_levels.specs.resolve.LevelRuns.{sequence_indexes}
use Rattle.bx_levels.specs.resolve.Levels.{chars_at}
use Rattle.bx_levels.proofs.resolve.brackets.meet_sequence.Given as goal

abbrev pub invariant-loop-first : goal.invariant-loop-first
invariant-loop-first g l = record {
  next : l.search.next ≤ l.met;
  count : l.search.count ≡ l.fn.search.count;
  left : pairs_after (g.D.BidiData.data l.tables) l.fn.search.progress 0 (chars_at l.body (sequence_indexes l.sequence)) l.types
      ≡ pairs_after (g.D.BidiData.data l.tables) l.search.progress l.met
      (chars_at l.body (indexes_from l.sequence.ends.level l.sequence.kept.now (drop l.first-index l.sequence.firsts.now))) (drop l.met l.types);
}
