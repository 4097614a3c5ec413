use Rattle.bx_editor_laws.proofs.OneRun.{word-is-a-run}
use Rattle.bx_editor_laws.proofs.run_laws.word_is_a_run.Goals as goal

pub returns : goal.returns
returns c = word-is-a-run
