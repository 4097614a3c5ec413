use Rattle.bx_editor_laws.proofs.PasteTyped.{paste-comes-back}
use Rattle.bx_editor_laws.proofs.pasting_laws.paste_comes_back.Goals as goal

pub returns : goal.returns
returns c = paste-comes-back
