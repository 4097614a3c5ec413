use Rattle.bx_editor_laws.proofs.PutBack.{copy-puts-twice}
use Rattle.bx_editor_laws.proofs.laws.copy_puts_twice.Goals as goal

pub returns : goal.returns
returns c = copy-puts-twice
