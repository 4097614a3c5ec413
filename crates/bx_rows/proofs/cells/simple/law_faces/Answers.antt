use Rattle.bx_rows.proofs.cells_lemmas.SimpleUnits.{most-unit}
use Rattle.bx_rows.proofs.cells.simple.law_faces.Goals as goal

pub returns : goal.returns
returns c = most-unit
