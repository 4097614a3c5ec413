use Rattle.bx_editor.proofs.undo_groups_lemmas.RunLaws.{edit-is-of-its-run}
use Rattle.bx_editor.proofs.undo_groups.laws.edit_is_of_its_run.Goals as goal

pub returns : goal.returns
returns c = edit-is-of-its-run
