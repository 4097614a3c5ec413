use Rattle.bx_editor.proofs.TopOnce.{top-stays}
use Rattle.bx_editor_laws.proofs.laws.top_stays.Goals as goal

pub returns : goal.returns
returns c = top-stays
