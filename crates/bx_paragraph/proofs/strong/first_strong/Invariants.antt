-- The offset reached.
use Rattle.std.proofs.Common.{◌≤◌, ◌-◌, length}
use Rattle.bx_levels.specs.resolve.Body.{IsOffset}
use Rattle.bx_paragraph.proofs.strong.first_strong.Given as goal

abbrev pub invariant-loop-c : goal.invariant-loop-c
invariant-loop-c g l = record {
  place : IsOffset l.text l.index l.start;
  bound : l.index ≤ l.start;
}

abbrev pub decreases-loop-c : goal.decreases-loop-c
decreases-loop-c g l = length l.text - l.start
