use Rattle.bx_editor_laws.proofs.PasteEnded.{keys-end-pastes}
use Rattle.bx_editor_laws.proofs.pasting_laws.keys_end_pastes.Goals as goal

pub returns : goal.returns
returns c = keys-end-pastes
