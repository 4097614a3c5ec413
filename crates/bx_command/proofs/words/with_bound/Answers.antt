use Rattle.std.proofs.Common.{refl}
use Rattle.std.proofs.lemmas.Result.{IfOk-weaker}
use Rattle.bx_command.proofs.shared_lemmas.Commands.{one_more}
use Rattle.bx_command.proofs.words.with_bound.Goals as goal

pub returns : goal.returns
returns c =
    let at_one = c.in_ok-arg.field-0 in
    let at_two = c.in_ok-arg-2.field-0 in
    let at_three = c.in_ok-arg-3.field-0 in
    let at_four = c.in_ok-arg-4.field-0 in
    let at_five = c.in_ok-arg-5.field-0 in
    let one = one_more _ c.args.command at_one c.in_ok-check.field-0 _ refl c.in_ok-arg.ensures c.in_ok-check.ensures refl in
    let two = one_more _ at_one at_two c.in_ok-new.field-0 _ one c.in_ok-arg-2.ensures c.in_ok-new.ensures refl in
    let three = one_more _ at_two at_three c.in_ok-saves.field-0 _ two c.in_ok-arg-3.ensures c.in_ok-saves.ensures refl in
    let four = one_more _ at_three at_four c.in_ok-erase.field-0 _ three c.in_ok-arg-4.ensures c.in_ok-erase.ensures refl in
    let five = one_more _ at_four at_five c.in_ok-further_path.field-0 _ four c.in_ok-arg-5.ensures c.in_ok-further_path.ensures refl in
    IfOk-weaker c.arg-6.result _ _ (λ more adds. one_more _ at_five more c.in_ok-further_path-2.field-0 _ five adds c.in_ok-further_path-2.ensures refl) c.arg-6.ensures
