use Rattle.bx_input_laws.proofs.PastedCharacters as characters
use Rattle.bx_input_laws.proofs.laws.pastes_keep_characters.Goals as goal

pub returns : goal.returns
returns c = characters.pastes_keep_characters
