use Rattle.bx_input_laws.proofs.Pastes.{pastes_text}
use Rattle.bx_input_laws.proofs.laws.pastes_become_text.Goals as goal

pub returns : goal.returns
returns c = pastes_text
