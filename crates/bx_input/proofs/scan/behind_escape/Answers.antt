use Rattle.std.proofs.Common.{◌≡◌, ◌∙◌, ◌∷◌, [], ◌++◌, subst, IfOk}
use Rattle.bx_input.specs.Models.{Goes}
use Rattle.bx_input.proofs.Steps.{behind_so}
use Rattle.bx_input.proofs.scan.behind_escape.Goals as goal

pub returns : goal.returns
returns c =
    let a = c.args in
    let whole : c.deref.result.now ≡ a.rest.now ++ a.byte ∷ [] = c.deref.ensures.value ∙ c.in_ok-read.ensures in
    subst (λ s. IfOk c.read_behind.result (λ went. Goes went s)) (behind_so a.erases_by_delete c.fate-fate.result a.rest.now c.deref.result.now a.byte whole c.fate-fate.ensures)
    c.read_behind.ensures
