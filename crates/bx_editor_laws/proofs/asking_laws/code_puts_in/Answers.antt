use Rattle.bx_editor_laws.proofs.CodePut.{code-puts-in}
use Rattle.bx_editor_laws.proofs.asking_laws.code_puts_in.Goals as goal

pub returns : goal.returns
returns c = code-puts-in
