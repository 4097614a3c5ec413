use Rattle.bx_editor_laws.proofs.PasteTyped.{paste-is-typing}
use Rattle.bx_editor_laws.proofs.pasting_laws.paste_is_typing.Goals as goal

pub returns : goal.returns
returns c = paste-is-typing
