use Rattle.bx_editor_laws.proofs.MovedMarks.{seeking-takes-selection-off}
use Rattle.bx_editor_laws.proofs.selection_laws.seeking_takes_selection_off.Goals as goal

pub returns : goal.returns
returns c = seeking-takes-selection-off
