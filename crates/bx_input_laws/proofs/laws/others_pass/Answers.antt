use Rattle.bx_input_laws.proofs.Passing as passing
use Rattle.bx_input_laws.proofs.laws.others_pass.Goals as goal

pub returns : goal.returns
returns c = passing.others_pass
