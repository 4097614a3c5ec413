use Rattle.bx_paragraph.proofs.Starts.{side-some}
use Rattle.bx_view_laws.proofs.ViewRows.{places-return}
use Rattle.bx_view_laws.proofs.laws.places_return.Goals as goal

pub returns : goal.returns
returns c = λ ucd base w text side utf8. places-return ucd base w (side-some w side) text utf8
