use Rattle.bx_editor_laws.proofs.GivenUp.{giving-up-goes-back}
use Rattle.bx_editor_laws.proofs.laws.giving_up_goes_back.Goals as goal

pub returns : goal.returns
returns c = giving-up-goes-back
