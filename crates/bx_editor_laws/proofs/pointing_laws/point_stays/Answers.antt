use Rattle.bx_editor_laws.proofs.PointedKeys.{point-stays}
use Rattle.bx_editor_laws.proofs.pointing_laws.point_stays.Goals as goal

pub returns : goal.returns
returns c = point-stays
