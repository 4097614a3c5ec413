use Rattle.bx_editor.proofs.OnePaste.{paste-is-one-edit}
use Rattle.bx_editor.proofs.laws.paste_is_one_edit.Goals as goal

pub returns : goal.returns
returns c = paste-is-one-edit
