use Rattle.bx_find.proofs.Nearest.{first_is}
use Rattle.bx_find_laws.proofs.laws.first_from_is_first.Goals as goal

pub returns : goal.returns
returns c = first_is
