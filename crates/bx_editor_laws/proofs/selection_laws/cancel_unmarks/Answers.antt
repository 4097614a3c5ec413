use Rattle.bx_editor_laws.proofs.Cancelled.{cancel-unmarks}
use Rattle.bx_editor_laws.proofs.selection_laws.cancel_unmarks.Goals as goal

pub returns : goal.returns
returns c = cancel-unmarks
