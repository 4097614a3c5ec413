use Rattle.bx_editor_laws.proofs.QuestionKeys.{questions-change-themselves}
use Rattle.bx_editor_laws.proofs.asking_laws.questions_change_themselves.Goals as goal

pub returns : goal.returns
returns c = questions-change-themselves
