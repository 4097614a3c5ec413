use Rattle.bx_view_laws.proofs.PointedUnits.{units-are-taken}
use Rattle.bx_paragraph.proofs.Starts.{side-some}
use Rattle.bx_view_laws.proofs.laws.pointing_takes_units.Goals as goal

pub returns : goal.returns
returns c = λ ucd base w text side utf8. units-are-taken ucd base w (side-some w side) text utf8
