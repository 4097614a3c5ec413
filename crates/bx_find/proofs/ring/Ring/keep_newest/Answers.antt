use Rattle.std.specs.Prelude.{Option}
use Rattle.std.proofs.Common.{◌≡◌, ◌+◌, ◌-◌, ℕ, List, length, drop, sym, ap, ap₂, ◌∙◌, arith}
use Rattle.bx_find.proofs.Windows.{length-window, drop-window, window-around}
use Rattle.bx_find.proofs.ring.Ring.keep_newest.Goals as goal

pub overflow_sub-self : goal.overflow_sub-self
overflow_sub-self c =
    let r = c.self.inside in
    omega (arith, length-window r.first r.count r.slots, ap length c.self.view_is, c.requires)

pub invariant_of-self : goal.invariant_of-self
invariant_of-self c =
    let r = c.self.inside in
    (omega arith, omega (arith, length-window r.first r.count r.slots, ap length c.self.view_is, c.requires, c.self.invariant.1))

pub returns : goal.returns
returns c =
    let r = c.self.inside in
    let same : r.count ≡ length c.args.self.now = sym (length-window r.first r.count r.slots) ∙ ap length c.self.view_is in
    let n = r.count - c.args.count in
    window-around _ (r.first + n) c.args.count r.slots (omega arith)
    ∙ sym (drop-window n r.first r.count c.args.count r.slots (omega (arith, same, c.requires)))
    ∙ ap₂ (λ i (os : List (Option ℕ)). drop i os) (ap (λ i. i - c.args.count) same) c.self.view_is
