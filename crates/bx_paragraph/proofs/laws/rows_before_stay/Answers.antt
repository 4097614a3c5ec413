use Rattle.bx_paragraph.proofs.SharedRows.{rows-before-stay}
use Rattle.bx_paragraph.proofs.laws.rows_before_stay.Goals as goal

pub returns : goal.returns
returns c = rows-before-stay
