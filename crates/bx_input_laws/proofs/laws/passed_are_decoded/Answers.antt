use Rattle.bx_input_laws.proofs.ReadParts as proved
use Rattle.bx_input_laws.proofs.laws.passed_are_decoded.Goals as goal

pub returns : goal.returns
returns c = proved.passed_are_decoded
