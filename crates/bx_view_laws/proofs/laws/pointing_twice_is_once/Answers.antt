use Rattle.bx_view_laws.proofs.PointedTop.{top-stays}
use Rattle.bx_paragraph.proofs.Starts.{side-some}
use Rattle.bx_view_laws.proofs.laws.pointing_twice_is_once.Goals as goal

pub returns : goal.returns
returns c = λ ucd base w text side utf8 t some. top-stays ucd base w (side-some w side) text utf8 t some
