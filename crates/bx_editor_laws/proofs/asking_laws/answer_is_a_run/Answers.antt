use Rattle.bx_editor_laws.proofs.AnswerRun.{answer-is-a-run}
use Rattle.bx_editor_laws.proofs.asking_laws.answer_is_a_run.Goals as goal

pub returns : goal.returns
returns c = answer-is-a-run
