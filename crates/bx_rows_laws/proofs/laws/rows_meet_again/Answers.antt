use Rattle.bx_rows.proofs.RowsLeft.{rows-meet-again}
use Rattle.bx_rows_laws.proofs.laws.rows_meet_again.Goals as goal

pub returns : goal.returns
returns c = rows-meet-again
