use Rattle.bx_view.proofs.TextPlaces.{places-are, places-span}
use Rattle.bx_paragraph.proofs.Starts.{side-some}
use Rattle.bx_view_laws.proofs.laws.places_are_boundaries.Goals as goal

pub returns-clause-rows : goal.returns-clause-rows
returns-clause-rows c = λ ucd base w text side utf8. places-are ucd base w (side-some w side) text utf8

pub returns-clause-span : goal.returns-clause-span
returns-clause-span c = places-span
