use Rattle.bx_editor_laws.proofs.PasteOver.{pastes-end-by-keys}
use Rattle.bx_editor_laws.proofs.pasting_laws.pastes_end_by_keys.Goals as goal

pub returns : goal.returns
returns c = pastes-end-by-keys
