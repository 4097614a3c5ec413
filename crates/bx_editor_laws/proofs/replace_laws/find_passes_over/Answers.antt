use Rattle.bx_editor_laws.proofs.MatchReplaced.{find-passes-over}
use Rattle.bx_editor_laws.proofs.replace_laws.find_passes_over.Goals as goal

pub returns : goal.returns
returns c = find-passes-over
