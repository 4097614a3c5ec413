use Rattle.bx_editor_laws.proofs.StoredKeys.{unchanged-is-stored}
use Rattle.bx_editor_laws.proofs.run_laws.unchanged_is_stored.Goals as goal

pub returns : goal.returns
returns c = unchanged-is-stored
