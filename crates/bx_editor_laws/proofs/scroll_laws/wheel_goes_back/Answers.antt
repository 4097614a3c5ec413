use Rattle.bx_editor_laws.proofs.WheelTurned.{wheel-goes-back}
use Rattle.bx_editor_laws.proofs.scroll_laws.wheel_goes_back.Goals as goal

pub returns : goal.returns
returns c = wheel-goes-back
