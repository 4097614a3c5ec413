use Rattle.bx_find_laws.proofs.FirstBetween.{between_is}
use Rattle.bx_find_laws.proofs.laws.first_between_is_first.Goals as goal

pub returns : goal.returns
returns c = between_is
