-- No separator begins before the byte.
use Rattle.std.proofs.Common.{◌-◌, length}
use Rattle.bx_text.proofs.index_lemmas.Scans.{NoneBefore}
use Rattle.bx_text.proofs.index.scan.separator_in.Given as goal

abbrev pub invariant-loop-at : goal.invariant-loop-at
invariant-loop-at g l = NoneBefore (g.D.BidiData.data l.tables) l.piece l.at

abbrev pub decreases-loop-at : goal.decreases-loop-at
decreases-loop-at g l = length l.piece - l.at
