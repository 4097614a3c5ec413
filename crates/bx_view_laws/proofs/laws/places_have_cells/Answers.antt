use Rattle.bx_view.proofs.GlyphCells.{has-cells}
use Rattle.bx_paragraph.proofs.Starts.{side-some}
use Rattle.bx_view_laws.proofs.laws.places_have_cells.Goals as goal

pub returns : goal.returns
returns c = λ ucd base w text side utf8. has-cells ucd base w (side-some w side) text utf8
