use Rattle.bx_rows.proofs.cells_lemmas.SimpleColumns.{width-unit}
use Rattle.bx_rows.proofs.cells.simple.law_columns.Goals as goal

pub returns : goal.returns
returns c = width-unit
