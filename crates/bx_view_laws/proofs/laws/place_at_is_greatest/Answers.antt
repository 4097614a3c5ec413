use Rattle.bx_view_laws.proofs.GreatestPlace.{greatest-place}
use Rattle.bx_paragraph.proofs.Starts.{side-some}
use Rattle.bx_view_laws.proofs.laws.place_at_is_greatest.Goals as goal

pub returns : goal.returns
returns c = λ ucd base w text side utf8 offset. greatest-place ucd base w (side-some w side) text utf8 offset
