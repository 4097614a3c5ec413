use Rattle.bx_editor_laws.proofs.WheelTurned.{wheel-moves-view}
use Rattle.bx_editor_laws.proofs.scroll_laws.wheel_moves_view.Goals as goal

pub returns : goal.returns
returns c = wheel-moves-view
