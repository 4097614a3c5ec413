use Rattle.bx_editor_laws.proofs.AnswersStay.{prompts-are-shown}
use Rattle.bx_editor_laws.proofs.asking_laws.prompts_are_shown.Goals as goal

pub returns : goal.returns
returns c = prompts-are-shown
