use Rattle.std.proofs.Common.{refl}
use Rattle.std.proofs.lemmas.Result.{IfOk-weaker}
use Rattle.bx_command.proofs.shared_lemmas.Commands.{one_more}
use Rattle.bx_command.proofs.words.with_plain.Goals as goal

pub returns : goal.returns
returns c =
    let at_one = c.in_ok-arg.field-0 in
    let at_two = c.in_ok-arg-2.field-0 in
    let at_three = c.in_ok-arg-3.field-0 in
    let at_four = c.in_ok-arg-4.field-0 in
    let at_five = c.in_ok-arg-5.field-0 in
    let at_six = c.in_ok-arg-6.field-0 in
    let at_seven = c.in_ok-arg-7.field-0 in
    let at_eight = c.in_ok-arg-8.field-0 in
    let at_nine = c.in_ok-arg-9.field-0 in
    let at_ten = c.in_ok-arg-10.field-0 in
    let at_eleven = c.in_ok-arg-11.field-0 in
    let at_twelve = c.in_ok-arg-12.field-0 in
    let at_thirteen = c.in_ok-arg-13.field-0 in
    let at_fourteen = c.in_ok-arg-14.field-0 in
    let at_fifteen = c.in_ok-arg-15.field-0 in
    let one = one_more _ c.args.command at_one c.side.result _ refl c.in_ok-arg.ensures c.side.ensures refl in
    let two = one_more _ at_one at_two c.side-2.result _ one c.in_ok-arg-2.ensures c.side-2.ensures refl in
    let three = one_more _ at_two at_three c.path.result _ two c.in_ok-arg-3.ensures c.path.ensures refl in
    let four = one_more _ at_three at_four c.path-2.result _ three c.in_ok-arg-4.ensures c.path-2.ensures refl in
    let five = one_more _ at_four at_five c.path-3.result _ four c.in_ok-arg-5.ensures c.path-3.ensures refl in
    let six = one_more _ at_five at_six c.flag.result _ five c.in_ok-arg-6.ensures c.flag.ensures refl in
    let seven = one_more _ at_six at_seven c.flag-2.result _ six c.in_ok-arg-7.ensures c.flag-2.ensures refl in
    let eight = one_more _ at_seven at_eight c.flag-3.result _ seven c.in_ok-arg-8.ensures c.flag-3.ensures refl in
    let nine = one_more _ at_eight at_nine c.flag-4.result _ eight c.in_ok-arg-9.ensures c.flag-4.ensures refl in
    let ten = one_more _ at_nine at_ten c.flag-5.result _ nine c.in_ok-arg-10.ensures c.flag-5.ensures refl in
    let eleven = one_more _ at_ten at_eleven c.spaces.result _ ten c.in_ok-arg-11.ensures c.spaces.ensures refl in
    let twelve = one_more _ at_eleven at_twelve c.option.result _ eleven c.in_ok-arg-12.ensures c.option.ensures refl in
    let thirteen = one_more _ at_twelve at_thirteen c.direction.result _ twelve c.in_ok-arg-13.ensures c.direction.ensures.1 refl in
    let fourteen = one_more _ at_thirteen at_fourteen c.line.result _ thirteen c.in_ok-arg-14.ensures c.line.ensures refl in
    let fifteen = one_more _ at_fourteen at_fifteen c.before-2.result _ fourteen c.in_ok-arg-15.ensures c.before-2.ensures refl in
    IfOk-weaker c.arg-16.result _ _ (λ more adds. (c.direction.ensures.0, one_more _ at_fifteen more c.file.result _ fifteen adds c.file.ensures refl)) c.arg-16.ensures
