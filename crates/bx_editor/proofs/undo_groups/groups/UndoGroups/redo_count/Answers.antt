use Rattle.std.proofs.Common.{◌≡◌, ◌+◌, ◌<◌, ◌∙◌, ℕ, List, min, ap, sym, arith, length, drop}
use Rattle.bx_editor.specs.undo_groups.Groups.{least, run_end}
use Rattle.bx_editor.proofs.undo_groups_lemmas.Bisected.{least-first}
use Rattle.bx_editor.proofs.undo_groups.groups.UndoGroups.redo_count.Goals as goal

pub returns : goal.returns
returns c =
    let xs = c.self.inside.numbers.items in
    let k = c.count_up_to-count.result in
    let last = c.args.n + c.args.left in
    let value = c.deref.ensures.value in
    let few = c.count_up_to-count.ensures.bound in
    let within : k < length xs = omega (arith, few, ap length value, c.len.ensures, c.if-count-len.false) in
    let end = ap (min last) c.index.ensures
    ∙ sym (least-first last xs k c.index.result.now c.self.invariant.rise within)
    ∙ ap (λ (ys : List ℕ). least last (drop k ys)) (sym value)
    ∙ ap (least last) c.count_up_to-count.ensures.above
    ∙ ap (λ (ys : List ℕ). run_end ys c.args.n last) (value ∙ ap (λ s. s.numbers) c.self.view_is) in
    omega (arith, end, c.min.ensures, c.saturating_sub.ensures)
