use Rattle.std.proofs.Common.{ap, ◌∙◌}
use Rattle.std.proofs.lemmas.Result.{IfOk-weaker}
use Rattle.bx_command.specs.shared.Rules.{bound}
use Rattle.bx_command.proofs.shared_lemmas.Commands.{excluding_is_bound}
use Rattle.bx_command.proofs.words.check.Goals as goal

pub returns : goal.returns
returns c =
    let first = c.in_ok-conflicts_with.field-0 in
    let second = c.in_ok-conflicts_with-2.field-0 in
    let third = c.in_ok-conflicts_with-3.field-0 in
    let fourth = c.in_ok-conflicts_with-4.field-0 in
    let one = excluding_is_bound c.flag.result first _ c.in_ok-conflicts_with.ensures ∙ ap bound c.flag.ensures in
    let two = excluding_is_bound first second _ c.in_ok-conflicts_with-2.ensures ∙ ap bound one in
    let three = excluding_is_bound second third _ c.in_ok-conflicts_with-3.ensures ∙ ap bound two in
    let four = excluding_is_bound third fourth _ c.in_ok-conflicts_with-4.ensures ∙ ap bound three in
    IfOk-weaker c.conflicts_with-5.result _ _ (λ arg adds. excluding_is_bound fourth arg _ adds ∙ ap bound four) c.conflicts_with-5.ensures
