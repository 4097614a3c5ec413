use Rattle.std.proofs.Common.{◌∙◌, ap, subst, IfOk}
use Rattle.bx_input.specs.Known.{known_keys}
use Rattle.bx_input.specs.Models.{Goes}
use Rattle.bx_input.proofs.Steps.{ends_so, breaks_so}
use Rattle.bx_input.proofs.scan.read_on.Goals as goal

pub returns-in-Ends : goal.returns-in-Ends
returns-in-Ends c =
    let a = c.args in
    subst (Goes c.ended.result)
    (ends_so a.erases_by_delete a.fate c.new.result.items a.waiting.items a.read.items a.byte _ c.in-Ends.is c.new.ensures.items c.requires
    (c.known_keys.ensures ∙ ap (known_keys a.erases_by_delete) c.deref.ensures.value))
    c.ended.ensures

pub returns-in-Breaks : goal.returns-in-Breaks
returns-in-Breaks c =
    let a = c.args in
    subst (λ s. IfOk c.break_off.result (λ went. Goes went s)) (breaks_so a.erases_by_delete a.fate a.waiting.items a.byte c.in-Breaks.is) c.break_off.ensures
