use Rattle.bx_editor_laws.proofs.ViewKept.{view-keeps-text}
use Rattle.bx_editor_laws.proofs.view_laws.view_keeps_text.Goals as goal

pub returns : goal.returns
returns c = view-keeps-text
