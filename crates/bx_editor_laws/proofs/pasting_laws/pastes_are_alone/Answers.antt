use Rattle.bx_editor_laws.proofs.PasteAlone.{pastes-are-alone}
use Rattle.bx_editor_laws.proofs.pasting_laws.pastes_are_alone.Goals as goal

pub returns : goal.returns
returns c = pastes-are-alone
