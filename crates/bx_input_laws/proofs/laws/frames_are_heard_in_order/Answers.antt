use Rattle.bx_input_laws.proofs.FramesHeard.{in_order}
use Rattle.bx_input_laws.proofs.laws.frames_are_heard_in_order.Goals as goal

pub returns : goal.returns
returns c = in_order
