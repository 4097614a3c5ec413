use Rattle.std.proofs.Common.{◌∙◌, ap, subst}
use Rattle.bx_input.specs.Known.{known_keys}
use Rattle.bx_input.specs.Models.{Goes}
use Rattle.bx_input.proofs.Steps.{ends_behind}
use Rattle.bx_input.proofs.scan.read_behind.Goals as goal

pub returns-in-Ends : goal.returns-in-Ends
returns-in-Ends c =
    let a = c.args in
    subst (Goes c.ended.result)
    (ends_behind a.erases_by_delete a.fate a.escape.items a.rest.now a.read.items a.byte _ c.in-Ends.is c.requires.escape c.requires.read
    (c.known_keys.ensures ∙ ap (known_keys a.erases_by_delete) c.deref.ensures.value))
    c.ended.ensures
