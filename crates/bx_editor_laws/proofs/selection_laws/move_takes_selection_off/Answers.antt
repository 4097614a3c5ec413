use Rattle.bx_editor_laws.proofs.MovedMarks.{move-takes-selection-off}
use Rattle.bx_editor_laws.proofs.selection_laws.move_takes_selection_off.Goals as goal

pub returns : goal.returns
returns c = move-takes-selection-off
