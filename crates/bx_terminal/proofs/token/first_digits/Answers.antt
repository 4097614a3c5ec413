use Rattle.std.proofs.Common.{sym, ◌∙◌, arith}
use Rattle.bx_terminal.proofs.Pushed.{number_none, number_more}
use Rattle.bx_terminal.proofs.token.first_digits.Goals as goal

pub returns-then-not-is_ascii_digit-clause-end : goal.returns-then-not-is_ascii_digit-clause-end
returns-then-not-is_ascii_digit-clause-end c =
    λ low. number_none c.args.bytes.now c.loop-digit.digit-index c.loop-digit-test.true (sym c.is_ascii_digit.ensures.value ∙ c.if-not-is_ascii_digit.true)

pub loop-digit-preserved : goal.loop-digit-preserved
loop-digit-preserved c =
    let so_far = c.loop-digit.invariant in
    let more = number_more c.args.bytes.now c.loop-digit.digit-index c.loop-digit.number c.min-number.result c.loop-digit-test.true so_far.number
    so_far.digits (sym c.is_ascii_digit.ensures.value ∙ c.if-not-is_ascii_digit.false) (omega (arith, c.min-number.ensures, c.from.ensures)) in
    record { count = omega (arith, so_far.count); number = more.0; digits = more.1 }
