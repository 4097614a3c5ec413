use Rattle.std.proofs.Common.{◌≡◌, ◌-◌, ◌<◌, ◌∙◌, ℕ, List, suc, ap, sym, arith, length, take}
use Rattle.bx_editor.specs.undo_groups.Groups.{greatest, run_start}
use Rattle.bx_editor.proofs.undo_groups_lemmas.Bisected.{greatest-last}
use Rattle.bx_editor.proofs.undo_groups.groups.UndoGroups.start_before.Goals as goal

pub returns : goal.returns
returns c =
    let xs = c.self.inside.numbers.items in
    let k = c.count_below-count.result in
    let n = c.args.n in
    let few = c.count_below-count.ensures.bound in
    let some : suc (k - 1) ≡ k = omega (arith, c.if-count-eq0.false) in
    let value = c.deref.ensures.value in
    let within : k - 1 < length xs = omega (arith, some, few, ap length value) in
    c.index.ensures ∙ sym (greatest-last xs (k - 1) c.index.result.now c.self.invariant.rise within)
    ∙ ap (λ m. greatest (take m xs)) some
    ∙ ap (λ (ys : List ℕ). greatest (take k ys)) (sym value)
    ∙ ap greatest c.count_below-count.ensures.below
    ∙ ap (λ (ys : List ℕ). run_start ys n) (value ∙ ap (λ s. s.numbers) c.self.view_is)
