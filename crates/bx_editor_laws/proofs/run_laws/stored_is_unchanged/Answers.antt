use Rattle.bx_editor_laws.proofs.StoredUnchanged.{stored-is-unchanged}
use Rattle.bx_editor_laws.proofs.run_laws.stored_is_unchanged.Goals as goal

pub returns : goal.returns
returns c = stored-is-unchanged
