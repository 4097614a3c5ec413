use Rattle.std.proofs.Common.{◌≡◌, ◌-◌, drop, length}
use Rattle.bx_paragraph.specs.Slots.{next_in}
use Rattle.bx_paragraph.proofs.reading.next_in.Given as goal

abbrev pub invariant-loop-i : goal.invariant-loop-i
invariant-loop-i l = next_in l.offset (drop l.i l.offsets) ≡ next_in l.offset l.offsets

abbrev pub decreases-loop-i : goal.decreases-loop-i
decreases-loop-i l = length l.offsets - l.i
