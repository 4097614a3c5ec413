use Rattle.bx_editor.proofs.Unseen.{paste-is-unseen}
use Rattle.bx_editor.proofs.laws.paste_is_unseen.Goals as goal

pub returns : goal.returns
returns c = paste-is-unseen
