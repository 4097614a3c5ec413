use Rattle.bx_paragraph.proofs.Starts.{side-some}
use Rattle.bx_view_laws.proofs.ViewRows.{keeps-shown}
use Rattle.bx_view_laws.proofs.laws.scrolling_keeps_places_visible.Goals as goal

pub returns : goal.returns
returns c = λ ucd base w text side utf8 t some. keeps-shown ucd base w (side-some w side) text utf8 t some
