-- The end is the same from the rest on.
use Rattle.std.proofs.Common.{◌≡◌, ◌+◌, ◌++◌, ℕ, List, chars, length}
use denote.Text.{Utf8}
use denote.Shadow.{shadow}
use Rattle.bx_find.specs.Matches.{behind_letters}
use Rattle.bx_find.proofs.spans.end_in.Given as goal

abbrev pub invariant-loop-c : goal.invariant-loop-c
invariant-loop-c g l = record {
  text : shadow (Utf8 l.rest);
  bytes : l.at + length l.rest ≡ l.start + length l.piece;
  found : (cs : List ℕ) → behind_letters (g.D.BidiData.data l.sought.tables.now) l.sought.reading l.initial.left l.start (chars l.piece ++ cs)
      ≡ behind_letters (g.D.BidiData.data l.sought.tables.now) l.sought.reading l.left l.at (chars l.rest ++ cs);
}

abbrev pub decreases-loop-c : goal.decreases-loop-c
decreases-loop-c g l = length l.rest
