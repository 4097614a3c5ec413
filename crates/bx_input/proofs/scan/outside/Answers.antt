use Rattle.std.proofs.Common.{◌≡◌, ◌∙◌, ◌∷◌, [], ◌++◌, ap, sym, subst, IfOk}
use Rattle.bx_input.specs.Models.{Goes}
use Rattle.bx_input.proofs.Steps.{plain_so, goes_so}
use Rattle.bx_input.proofs.scan.outside.Goals as goal

pub returns-then-is_plain : goal.returns-then-is_plain
returns-then-is_plain c =
    let a = c.args in
    let none : a.waiting.items ≡ [] = sym c.deref.ensures.value ∙ c.is_plain.ensures.none c.if-is_plain.true in
    subst (Goes c.passes.result) (plain_so a.erases_by_delete a.waiting.items a.byte none (c.is_plain.ensures.fate c.if-is_plain.true)) c.passes.ensures

pub read_on-requires : goal.read_on-requires
read_on-requires c = c.in_ok-read.ensures ∙ ap (λ bs. bs ++ c.args.byte ∷ []) c.deref-2.ensures.value

pub returns : goal.returns
returns c =
    let a = c.args in
    let whole : c.deref-3.result.now ≡ a.waiting.items ++ a.byte ∷ [] =
    c.deref-3.ensures.value ∙ c.in_ok-read.ensures ∙ ap (λ bs. bs ++ a.byte ∷ []) c.deref-2.ensures.value in
    subst (λ s. IfOk c.read_on.result (λ went. Goes went s)) (goes_so a.erases_by_delete c.fate-fate.result a.waiting.items c.deref-3.result.now a.byte whole c.fate-fate.ensures)
    c.read_on.ensures
