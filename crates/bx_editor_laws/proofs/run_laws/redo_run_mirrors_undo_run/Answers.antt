use Rattle.bx_editor_laws.proofs.MirroredRuns.{redo-run-mirrors-undo-run}
use Rattle.bx_editor_laws.proofs.run_laws.redo_run_mirrors_undo_run.Goals as goal

pub returns : goal.returns
returns c = redo-run-mirrors-undo-run
