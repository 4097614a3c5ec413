use Rattle.bx_editor_laws.proofs.PointedKeys.{point-takes-units}
use Rattle.bx_editor_laws.proofs.pointing_laws.point_takes_units.Goals as goal

pub returns : goal.returns
returns c = point-takes-units
