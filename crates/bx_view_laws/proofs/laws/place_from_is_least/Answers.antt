use Rattle.bx_view.proofs.PlacesOn.{finds-least}
use Rattle.bx_paragraph.proofs.Starts.{side-some}
use Rattle.bx_view_laws.proofs.laws.place_from_is_least.Goals as goal

pub returns : goal.returns
returns c = λ ucd base w text side utf8. finds-least ucd base w (side-some w side) text utf8
