use Rattle.bx_session.proofs.Input.{keys_of_input}
use Rattle.bx_session_laws.proofs.laws.keys_are_those_of_input.Goals as goal

pub returns : goal.returns
returns c = keys_of_input
