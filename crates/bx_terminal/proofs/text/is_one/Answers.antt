use Rattle.std.proofs.Common.{◌≤◌, arith}
use Rattle.std.proofs.lemmas.Bool.Decides.{nat_tests}
use Rattle.bx_terminal.proofs.Printed.{one_printable}
use Rattle.bx_terminal.proofs.text.is_one.Goals as goal

pub returns : goal.returns
returns c test =
    let high : c.args.byte ≤ 0x7E = grind (arith, nat_tests, test) in
    one_printable c.args.byte (omega (arith, c.if-byte-lt32.false)) high
