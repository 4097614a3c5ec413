use Rattle.bx_rows_laws.proofs.FormsShown.{letters-go-by-joining}
use Rattle.bx_rows_laws.proofs.laws.letters_go_by_joining.Goals as goal

pub returns : goal.returns
returns c = letters-go-by-joining
