use Rattle.std.proofs.Common.{refl}
use Rattle.std.proofs.lemmas.Result.{IfOk-weaker}
use Rattle.bx_command.proofs.shared_lemmas.Commands.{one_more}
use Rattle.bx_command.proofs.shared.unicode.with_tables.Goals as goal

pub returns : goal.returns
returns c =
    let start = c.args.command in
    let first = c.in_ok-arg.field-0 in
    let second = c.in_ok-arg-2.field-0 in
    let third = c.in_ok-arg-3.field-0 in
    let fourth = c.in_ok-arg-4.field-0 in
    let one = one_more _ start first c.table.result _ refl c.in_ok-arg.ensures c.table.ensures refl in
    let two = one_more _ first second c.table-2.result _ one c.in_ok-arg-2.ensures c.table-2.ensures refl in
    let three = one_more _ second third c.table-3.result _ two c.in_ok-arg-3.ensures c.table-3.ensures refl in
    let four = one_more _ third fourth c.in_ok-half.field-0 _ three c.in_ok-arg-4.ensures c.in_ok-half.ensures refl in
    IfOk-weaker c.arg-5.result _ _ (λ more adds. one_more _ fourth more c.in_ok-half-2.field-0 _ four adds c.in_ok-half-2.ensures refl) c.arg-5.ensures
