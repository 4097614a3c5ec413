use Rattle.bx_view.proofs.PlacesOn.{places-go-on}
use Rattle.bx_paragraph.proofs.Starts.{side-some}
use Rattle.bx_view_laws.proofs.laws.steps_go_on.Goals as goal

pub returns : goal.returns
returns c = λ ucd base w text side utf8. places-go-on ucd base w (side-some w side) text utf8
