-- No byte from `next` on is a break.
use Rattle.std.proofs.Common.{◌≡◌, ◌<◌, ◌≤◌, ℕ, false, get_or}
use Rattle.bx_rows.specs.Wrapping.{is_blank}
use Rattle.bx_rows.proofs.ascii_part.break_behind.Given as goal

abbrev pub invariant-loop-next : goal.invariant-loop-next
invariant-loop-next g l = record {
  from : l.at ≤ l.next;
  to : l.next ≤ l.stop;
  none : (i : ℕ) → l.next ≤ i → i < l.stop → is_blank ((g.D.BidiData.data l.tables).class (get_or l.bytes i 0)) ≡ false;
}

abbrev pub decreases-loop-next : goal.decreases-loop-next
decreases-loop-next g l = l.next
