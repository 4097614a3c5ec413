use Rattle.bx_editor.proofs.undo_groups_lemmas.RunLaws.{undo-then-redo}
use Rattle.bx_editor.proofs.undo_groups.laws.undo_then_redo.Goals as goal

pub returns : goal.returns
returns c = undo-then-redo
