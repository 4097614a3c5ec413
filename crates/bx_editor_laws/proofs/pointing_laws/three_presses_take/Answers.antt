use Rattle.bx_editor_laws.proofs.PointedKeys.{three-presses}
use Rattle.bx_editor_laws.proofs.pointing_laws.three_presses_take.Goals as goal

pub returns : goal.returns
returns c = three-presses
