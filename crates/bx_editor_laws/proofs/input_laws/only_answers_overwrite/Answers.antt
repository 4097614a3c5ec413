use Rattle.bx_editor_laws.proofs.OverwriteAnswer.{only-answers-overwrite}
use Rattle.bx_editor_laws.proofs.input_laws.only_answers_overwrite.Goals as goal

pub returns : goal.returns
returns c = only-answers-overwrite
