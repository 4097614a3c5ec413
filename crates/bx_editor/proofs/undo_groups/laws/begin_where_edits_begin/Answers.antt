use Rattle.bx_editor.proofs.undo_groups_lemmas.RunLaws.{begin-where-edits-begin}
use Rattle.bx_editor.proofs.undo_groups.laws.begin_where_edits_begin.Goals as goal

pub returns : goal.returns
returns c = begin-where-edits-begin
