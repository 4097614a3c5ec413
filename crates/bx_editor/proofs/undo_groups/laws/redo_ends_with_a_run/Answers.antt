use Rattle.bx_editor.proofs.undo_groups_lemmas.RunLaws.{redo-ends}
use Rattle.bx_editor.proofs.undo_groups.laws.redo_ends_with_a_run.Goals as goal

pub returns : goal.returns
returns c = redo-ends
