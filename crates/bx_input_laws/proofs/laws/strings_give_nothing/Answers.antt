use Rattle.bx_input_laws.proofs.ControlStrings as proved
use Rattle.bx_input_laws.proofs.laws.strings_give_nothing.Goals as goal

pub returns : goal.returns
returns c = proved.strings_give_nothing
