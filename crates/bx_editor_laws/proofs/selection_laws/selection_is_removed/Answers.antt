use Rattle.bx_editor_laws.proofs.GivenWay.{selection-is-removed}
use Rattle.bx_editor_laws.proofs.selection_laws.selection_is_removed.Goals as goal

pub returns : goal.returns
returns c = selection-is-removed
