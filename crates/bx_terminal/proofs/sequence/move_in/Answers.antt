use Rattle.std.proofs.Common.{◌+◌, arith}
use Rattle.std.proofs.lemmas.List.{take_rest}
use Rattle.bx_terminal.proofs.AtOnce.{move_told}
use Rattle.bx_terminal.proofs.sequence.move_in.Goals as goal

pub returns : goal.returns
returns c =
    let line = c.first_digits-line in
    let column = c.first_digits-column in
    move_told c.args.body.now _ line.result.len column.result.len line.result.number column.result.number
    (omega (arith, c.if-line-eq0.false)) (omega (arith, line.ensures.within, c.if-line-body.false)) c.if-body-line-ne59.false line.ensures.digits
    line.ensures.number (take_rest c.args.body.now (line.result.len + 1))
    (omega (arith, c.if-column-eq0.false)) (omega (arith, column.ensures.within, c.if-column-rest.false)) c.if-rest-column-ne72.false
    column.ensures.digits column.ensures.number
