-- The offset reached, and the last strong character before it.
use Rattle.std.proofs.Common.{IfSome, ◌≤◌, ◌-◌, length}
use Rattle.bx_levels.specs.resolve.Body.{IsOffset}
use Rattle.bx_paragraph.specs.Cuts.{IsStrongIn}
use Rattle.bx_paragraph.proofs.strong.last_strong.Given as goal

abbrev pub invariant-loop-c : goal.invariant-loop-c
invariant-loop-c g l = record {
  place : IsOffset l.text l.index l.start;
  bound : l.index ≤ l.start;
  last : IfSome l.found (IsStrongIn (g.D.BidiData.data l.tables) l.text);
}

abbrev pub decreases-loop-c : goal.decreases-loop-c
decreases-loop-c g l = length l.text - l.start
