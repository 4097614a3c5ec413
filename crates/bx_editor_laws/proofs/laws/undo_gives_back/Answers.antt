use Rattle.bx_editor_laws.proofs.TakenBack.{undo_gives_back}
use Rattle.bx_editor_laws.proofs.laws.undo_gives_back.Goals as goal

pub returns : goal.returns
returns c = undo_gives_back
