use Rattle.std.proofs.Common.{◌+◌, ◌-◌, ◌≤◌, length}
use Rattle.bx_paragraph.proofs.row_edit.meeting.Given as goal

abbrev pub invariant-loop-i : goal.invariant-loop-i
invariant-loop-i l = l.k ≤ length l.starts

abbrev pub decreases-loop-i : goal.decreases-loop-i
decreases-loop-i l = (l.last + 1 - l.i) + (length l.starts - l.k)
