-- The characters met so far, and those left to meet.
use Rattle.std.proofs.Common.{◌≡◌, ◌≤◌, drop, chars}
use denote.Text.{Utf8}
use denote.Shadow.{shadow}
use Rattle.bx_levels.specs.brackets.Search.{pairs_after}
use Rattle.bx_levels.proofs.resolve.brackets.meet_text.Given as goal

abbrev pub invariant-loop-index : goal.invariant-loop-index
invariant-loop-index g l = record {
  text : shadow (Utf8 l.rest);
  next : l.search.next ≤ l.index;
  count : l.search.count ≡ l.fn.search.count;
  left : pairs_after (g.D.BidiData.data l.tables) l.fn.search.progress 0 (chars l.text) l.types
      ≡ pairs_after (g.D.BidiData.data l.tables) l.search.progress l.index (chars l.rest) (drop l.index l.types);
}
