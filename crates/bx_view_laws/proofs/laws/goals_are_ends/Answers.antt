use Rattle.bx_paragraph.proofs.Starts.{side-some}
use Rattle.bx_view_laws.proofs.ViewRows.{goals-are-ends}
use Rattle.bx_view_laws.proofs.laws.goals_are_ends.Goals as goal

pub returns : goal.returns
returns c = λ ucd base w text side utf8. goals-are-ends ucd base w (side-some w side) text utf8
