use Rattle.bx_input_laws.proofs.States as states
use Rattle.bx_input_laws.proofs.laws.waits_for_fifteen.Goals as goal

pub returns : goal.returns
returns c = states.waits_for_fifteen
