use Rattle.bx_editor_laws.proofs.LineCopied.{copied-line-goes-above}
use Rattle.bx_editor_laws.proofs.line_laws.copied_line_goes_above.Goals as goal

pub returns : goal.returns
returns c = copied-line-goes-above
