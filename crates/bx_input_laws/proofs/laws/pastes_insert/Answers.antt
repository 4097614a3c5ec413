use Rattle.bx_input_laws.proofs.PasteKeys as proved
use Rattle.bx_input_laws.proofs.laws.pastes_insert.Goals as goal

pub returns : goal.returns
returns c = proved.pastes_insert
