use Rattle.bx_editor_laws.proofs.LineAbove.{line-goes-above}
use Rattle.bx_editor_laws.proofs.line_laws.line_goes_above.Goals as goal

pub returns : goal.returns
returns c = line-goes-above
