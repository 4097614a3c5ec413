-- The characters met so far, and those left to meet.
use Rattle.std.proofs.Common.{◌≡◌, ◌≤◌, ◌++◌, ℕ, List, drop, chars}
use denote.Text.{Utf8}
use denote.Shadow.{shadow}
use Rattle.bx_levels.specs.brackets.Search.{pairs_after}
use Rattle.bx_levels.specs.embedding.LevelIndexes.{level_indexes}
use Rattle.bx_levels.specs.resolve.LevelRuns.{run_indexes}
use Rattle.bx_levels.specs.resolve.Levels.{chars_at}
use Rattle.bx_levels.proofs.resolve.brackets.meet_run.Given as goal

abbrev pub invariant-loop-k : goal.invariant-loop-k
invariant-loop-k g l = record {
  text : shadow (Utf8 l.rest);
  chars_are : chars l.rest ≡ drop l.k l.body;
  next : l.search.next ≤ l.met;
  count : l.search.count ≡ l.fn.search.count;
  left : (more : List ℕ)
      → pairs_after (g.D.BidiData.data l.tables) l.fn.search.progress l.fn.met
      (chars_at l.body (run_indexes l.run ++ more)) (drop l.fn.met l.types)
      ≡ pairs_after (g.D.BidiData.data l.tables) l.search.progress l.met
      (chars_at l.body (level_indexes l.run.level l.k (drop l.k l.run.kept.now) ++ more)) (drop l.met l.types);
}
