use Rattle.bx_input_laws.proofs.Events.{in_pieces}
use Rattle.bx_input_laws.proofs.laws.events_in_any_pieces.Goals as goal

pub returns : goal.returns
returns c = in_pieces
