use Rattle.bx_rows_laws.proofs.Joined.{rows-cut}
use Rattle.bx_rows_laws.proofs.RowEnds.{rows-end-well}
use Rattle.bx_rows_laws.proofs.laws.rows_cut_units.Goals as goal

pub returns-clause-cut : goal.returns-clause-cut
returns-clause-cut c = rows-cut

pub returns-clause-ends : goal.returns-clause-ends
returns-clause-ends c = rows-end-well
