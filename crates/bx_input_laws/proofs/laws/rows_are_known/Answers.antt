use Rattle.bx_input_laws.proofs.Passing.{rows_given}
use Rattle.bx_input_laws.proofs.laws.rows_are_known.Goals as goal

pub returns : goal.returns
returns c = rows_given
