-- What is to come is the same from the rest on.
use Rattle.std.proofs.Common.{◌≡◌, ◌<◌, ◌+◌, ◌++◌, ℕ, List, chars, length}
use denote.Text.{Utf8}
use denote.Shadow.{shadow}
use Rattle.bx_find.specs.Prefix.{to_come}
use Rattle.bx_find.proofs.forward.first_in.Given as goal

abbrev pub invariant-loop-c : goal.invariant-loop-c
invariant-loop-c g l = record {
  text : shadow (Utf8 l.rest);
  fewer : length l.prefix < length l.sought.query.now;
  bytes : l.at + length l.rest ≡ l.start + length l.piece;
  found : (cs : List ℕ) → to_come (g.D.BidiData.data l.sought.tables.now) l.sought.reading l.sought.query.now l.initial.prefix l.start (chars l.piece ++ cs)
      ≡ to_come (g.D.BidiData.data l.sought.tables.now) l.sought.reading l.sought.query.now l.prefix l.at (chars l.rest ++ cs);
}

abbrev pub decreases-loop-c : goal.decreases-loop-c
decreases-loop-c g l = length l.rest
