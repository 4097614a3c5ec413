use Rattle.bx_find.proofs.Nearest.{last_is}
use Rattle.bx_find_laws.proofs.laws.last_before_is_last.Goals as goal

pub returns : goal.returns
returns c = last_is
