use Rattle.bx_editor.proofs.questions_lemmas.Printable.{told-printable}
use Rattle.bx_editor.proofs.questions.laws.told_is_printable.Goals as goal

pub returns : goal.returns
returns c = told-printable
