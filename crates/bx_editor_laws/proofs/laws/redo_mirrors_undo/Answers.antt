use Rattle.bx_editor_laws.proofs.TakenBack.{redo_mirrors_undo}
use Rattle.bx_editor_laws.proofs.laws.redo_mirrors_undo.Goals as goal

pub returns : goal.returns
returns c = redo_mirrors_undo
