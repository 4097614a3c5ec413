use Rattle.bx_input_laws.proofs.Clean.{pastes_clean}
use Rattle.bx_input_laws.proofs.laws.pastes_are_clean.Goals as goal

pub returns : goal.returns
returns c = pastes_clean
