use Rattle.bx_editor_laws.proofs.TextsKept.{unrefused-keep-texts}
use Rattle.bx_editor_laws.proofs.refusal_laws.unrefused_keys_keep_texts.Goals as goal

pub returns : goal.returns
returns c = unrefused-keep-texts
