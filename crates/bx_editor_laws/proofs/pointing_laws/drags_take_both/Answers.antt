use Rattle.bx_editor_laws.proofs.DragTaken.{drags-take-both}
use Rattle.bx_editor_laws.proofs.pointing_laws.drags_take_both.Goals as goal

pub returns : goal.returns
returns c = drags-take-both
