use Rattle.bx_editor_laws.proofs.Nearest.{find-back-goes-to-previous}
use Rattle.bx_editor_laws.proofs.laws.find_back_goes_to_previous.Goals as goal

pub returns : goal.returns
returns c = find-back-goes-to-previous
