use Rattle.bx_rows.proofs.joining_lemmas.JoinedNeighbours.{symmetric}
use Rattle.bx_rows.proofs.joining.laws.joining_is_symmetric.Goals as goal

pub returns : goal.returns
returns c = symmetric
