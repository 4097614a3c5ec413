use Rattle.bx_editor_laws.proofs.NextMatch.{find-previous-is-find-back}
use Rattle.bx_editor_laws.proofs.work_laws.find_previous_is_find_back.Goals as goal

pub returns : goal.returns
returns c = find-previous-is-find-back
