use Rattle.bx_view_laws.proofs.PointedUnits.{own-cells-stay}
use Rattle.bx_paragraph.proofs.Starts.{side-some}
use Rattle.bx_view_laws.proofs.laws.pointing_at_own_cell_stays.Goals as goal

pub returns : goal.returns
returns c = λ ucd base w text side utf8. own-cells-stay ucd base w (side-some w side) text utf8
