use Rattle.bx_view.proofs.LeastMove.{text-moves-least}
use Rattle.bx_paragraph.proofs.Starts.{side-some}
use Rattle.bx_view_laws.proofs.laws.follow_is_least.Goals as goal

pub returns : goal.returns
returns c = λ ucd base w text side utf8. text-moves-least ucd base w text (side-some w side) utf8
