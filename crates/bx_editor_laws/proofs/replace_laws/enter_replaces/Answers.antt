use Rattle.bx_editor_laws.proofs.MatchReplaced.{enter-replaces}
use Rattle.bx_editor_laws.proofs.replace_laws.enter_replaces.Goals as goal

pub returns : goal.returns
returns c = enter-replaces
