use Rattle.bx_rows.proofs.cells_lemmas.SimpleBreaks.{breaks-simple}
use Rattle.bx_rows.proofs.cells.simple.law_breaks.Goals as goal

pub returns : goal.returns
returns c = breaks-simple
