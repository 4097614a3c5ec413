use Rattle.bx_editor_laws.proofs.GivenWay.{selection-gives-way}
use Rattle.bx_editor_laws.proofs.selection_laws.selection_gives_way.Goals as goal

pub returns : goal.returns
returns c = selection-gives-way
