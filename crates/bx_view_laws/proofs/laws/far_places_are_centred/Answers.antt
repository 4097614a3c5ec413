use Rattle.bx_paragraph.proofs.Starts.{side-some}
use Rattle.bx_view_laws.proofs.ViewRows.{centres}
use Rattle.bx_view_laws.proofs.laws.far_places_are_centred.Goals as goal

pub returns : goal.returns
returns c = λ ucd base w text side utf8 t some. centres ucd base w (side-some w side) text utf8 t some
