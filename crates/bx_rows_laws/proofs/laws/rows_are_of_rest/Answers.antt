use Rattle.bx_rows.proofs.RowsLeft.{rows-are-of-rest}
use Rattle.bx_rows_laws.proofs.laws.rows_are_of_rest.Goals as goal

pub returns : goal.returns
returns c = rows-are-of-rest
