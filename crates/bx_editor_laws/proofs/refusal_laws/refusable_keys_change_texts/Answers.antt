use Rattle.bx_editor_laws.proofs.TextsChanged.{refusable-change-texts}
use Rattle.bx_editor_laws.proofs.refusal_laws.refusable_keys_change_texts.Goals as goal

pub returns : goal.returns
returns c = refusable-change-texts
