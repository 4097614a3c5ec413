use Rattle.bx_editor_laws.proofs.MatchReplaced.{replace-replaces-all}
use Rattle.bx_editor_laws.proofs.replace_laws.replace_replaces_all.Goals as goal

pub returns : goal.returns
returns c = replace-replaces-all
