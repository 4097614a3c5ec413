use Rattle.std.proofs.Common.{refl}
use Rattle.std.proofs.lemmas.Result.{IfOk-weaker}
use Rattle.bx_command.proofs.shared_lemmas.Commands.{one_more}
use Rattle.bidi_print.proofs.words.with_own.Goals as goal

pub returns : goal.returns
returns c =
    let at_one = c.in_ok-arg.field-0 in
    let at_two = c.in_ok-arg-2.field-0 in
    let at_three = c.in_ok-arg-3.field-0 in
    let one = one_more _ c.args.command at_one c.side.result _ refl c.in_ok-arg.ensures c.side.ensures refl in
    let two = one_more _ at_one at_two c.direction.result _ one c.in_ok-arg-2.ensures c.direction.ensures.1 refl in
    let three = one_more _ at_two at_three c.flag.result _ two c.in_ok-arg-3.ensures c.flag.ensures refl in
    IfOk-weaker c.arg-4.result _ _ (λ more adds. (c.direction.ensures.0, one_more _ at_three more c.file.result _ three adds c.file.ensures refl)) c.arg-4.ensures
