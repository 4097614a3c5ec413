use Rattle.bx_editor.proofs.undo_groups_lemmas.RunLaws.{undo-ends}
use Rattle.bx_editor.proofs.undo_groups.laws.undo_ends_with_a_run.Goals as goal

pub returns : goal.returns
returns c = undo-ends
