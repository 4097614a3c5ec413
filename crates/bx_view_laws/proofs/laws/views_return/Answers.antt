use Rattle.bx_paragraph.proofs.Starts.{side-some}
use Rattle.bx_view_laws.proofs.ViewRows.{views-return}
use Rattle.bx_view_laws.proofs.laws.views_return.Goals as goal

pub returns : goal.returns
returns c = λ ucd base w text side utf8 t some. views-return ucd base w (side-some w side) text utf8 t some
