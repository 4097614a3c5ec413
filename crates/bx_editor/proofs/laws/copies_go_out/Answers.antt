use Rattle.bx_editor.proofs.SentOut.{copies-go-out}
use Rattle.bx_editor.proofs.laws.copies_go_out.Goals as goal

pub returns : goal.returns
returns c = copies-go-out
