use Rattle.bx_editor_laws.proofs.Nearest.{find-goes-to-next}
use Rattle.bx_editor_laws.proofs.laws.find_goes_to_next.Goals as goal

pub returns : goal.returns
returns c = find-goes-to-next
