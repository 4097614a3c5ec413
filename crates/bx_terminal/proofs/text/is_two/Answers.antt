use Rattle.std.proofs.Common.{◌≤◌, arith}
use Rattle.std.proofs.lemmas.Bool.Decides.{nat_tests}
use Rattle.bx_terminal.proofs.Printed.{latin_printable, two_printable}
use Rattle.bx_terminal.proofs.text.is_two.Goals as goal

pub returns-then-lead-eq194 : goal.returns-then-lead-eq194
returns-then-lead-eq194 c test =
    let low : 0xA0 ≤ c.args.last = grind (arith, nat_tests, test) in
    latin_printable c.args.lead c.args.last c.if-lead-eq194.true low (omega (arith, c.if-last-gt191.false))

pub returns : goal.returns
returns c test =
    let low : 0x80 ≤ c.args.last = grind (arith, nat_tests, test) in
    two_printable c.args.lead c.args.last (omega (arith, c.if-lead-lt194.false, c.if-lead-eq194.false)) (omega (arith, c.if-lead-gt223.false)) low
    (omega (arith, c.if-last-gt191.false))
