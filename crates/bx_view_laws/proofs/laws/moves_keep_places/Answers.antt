use Rattle.bx_view.proofs.KeptPlaces.{text-places-kept}
use Rattle.bx_paragraph.proofs.Starts.{side-some}
use Rattle.bx_view_laws.proofs.laws.moves_keep_places.Goals as goal

pub returns : goal.returns
returns c = λ ucd base w text side utf8. text-places-kept ucd base w (side-some w side) text utf8
