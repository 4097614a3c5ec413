use Rattle.bx_editor_laws.proofs.GivenWay.{selection-comes-back}
use Rattle.bx_editor_laws.proofs.selection_laws.selection_comes_back.Goals as goal

pub returns : goal.returns
returns c = selection-comes-back
