-- None of the letters read has a form.
use Rattle.bx_rows.specs.joining.JoinedText.{AreFormless}
use Rattle.bx_rows.proofs.joining.forms.has_forms.Given as goal

abbrev pub invariant-loop-c : goal.invariant-loop-c
invariant-loop-c g l = AreFormless (g.D.BidiData.data l.tables) l.yielded
