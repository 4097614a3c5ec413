use Rattle.bx_editor_laws.proofs.ViewTold.{view-only-is-told}
use Rattle.bx_editor_laws.proofs.view_laws.view_only_is_told.Goals as goal

pub returns : goal.returns
returns c = view-only-is-told
