use Rattle.std.proofs.Common.{◌≡◌, ◌∙◌, ap, drop, sym, subst, true, false, IfOk}
use Rattle.bx_input.specs.Models.{Goes}
use Rattle.bx_input.specs.Scan.{has_two_escapes}
use Rattle.bx_input.proofs.Steps.{two_so, one_so}
use Rattle.bx_input.proofs.scan.break_off.Goals as goal

pub returns-then-has_two_escapes : goal.returns-then-has_two_escapes
returns-then-has_two_escapes c =
    let a = c.args in
    let two : has_two_escapes a.waiting.items ≡ true = ap has_two_escapes (sym c.deref.ensures.value) ∙ sym c.has_two_escapes.ensures ∙ c.if-has_two_escapes.true in
    subst (λ s. IfOk c.behind_escape.result (λ went. Goes went s))
    (two_so a.erases_by_delete a.waiting.items c.behind.result.now a.byte two (c.behind.ensures ∙ ap (drop 1) c.deref-then-has_two_escapes.ensures.value))
    c.behind_escape.ensures

pub returns-else-has_two_escapes : goal.returns-else-has_two_escapes
returns-else-has_two_escapes c =
    let a = c.args in
    let one : has_two_escapes a.waiting.items ≡ false = ap has_two_escapes (sym c.deref.ensures.value) ∙ sym c.has_two_escapes.ensures ∙ c.if-has_two_escapes.false in
    subst (λ s. IfOk c.pass_on.result (λ went. Goes went s)) (one_so a.erases_by_delete a.waiting.items a.byte one) c.pass_on.ensures
