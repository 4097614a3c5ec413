use Rattle.bx_editor_laws.proofs.NextMatch.{find-next-is-find-twice}
use Rattle.bx_editor_laws.proofs.work_laws.find_next_is_find_twice.Goals as goal

pub returns : goal.returns
returns c = find-next-is-find-twice
