use Rattle.std.proofs.Common.{arith}
use Rattle.bx_editor.proofs.undo_groups_lemmas.Steps.{start-bound}
use Rattle.bx_editor.proofs.editor.Editor.group_length.Goals as goal

pub overflow_sub-result : goal.overflow_sub-result
overflow_sub-result g c =
    let bound = start-bound c.self.inside.past.undo_groups.numbers c.past_len-n.result in
    omega (arith, bound, c.start_before.ensures)
