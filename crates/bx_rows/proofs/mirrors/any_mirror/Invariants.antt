use Rattle.std.proofs.Common.{length, chars}
use Rattle.bx_rows.proofs.Unmirrored.{AreSame}
use Rattle.bx_rows.proofs.mirrors.any_mirror.Given as goal

abbrev pub invariant-loop-c : goal.invariant-loop-c
invariant-loop-c g l = AreSame (g.D.BidiData.data l.tables) (chars l.text) (length l.yielded)
