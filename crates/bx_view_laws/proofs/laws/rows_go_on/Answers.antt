use Rattle.bx_view_laws.proofs.RowsOn.{rows-go-on}
use Rattle.bx_paragraph.proofs.Starts.{side-some}
use Rattle.bx_view_laws.proofs.laws.rows_go_on.Goals as goal

pub returns : goal.returns
returns c = λ ucd base w text side utf8. rows-go-on ucd base w (side-some w side) text utf8
