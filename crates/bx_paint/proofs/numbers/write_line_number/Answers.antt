use Rattle.std.proofs.Common.{ℕ, List, ◌++◌, ◌∷◌, [], ap, ◌∙◌, arith}
use Rattle.std.proofs.lemmas.Result.{on_ok_weaker}
use Rattle.bx_paint.proofs.Decimals.{one_digit, two_digits, three_digits}
use Rattle.bx_paint.proofs.numbers.write_line_number.Goals as goal

-- the bytes sent around the digits
abbrev sent : List ℕ → List ℕ → List ℕ
sent out digits = out ++ (0x1B ∷ 0x5B ∷ (digits ++ 0x3B ∷ []))

pub returns-then-line-lt10-clause-bytes : goal.returns-then-line-lt10-clause-bytes
returns-then-line-lt10-clause-bytes c =
    let digits = one_digit c.args.line c.digit.result c.if-line-lt10.true c.digit.ensures in
    on_ok_weaker c.append.result (λ e. e ∙ ap (sent c.args.out.now.painting) digits) c.append.ensures.bytes

pub returns-then-line-lt100-clause-bytes : goal.returns-then-line-lt100-clause-bytes
returns-then-line-lt100-clause-bytes c =
    let digits = two_digits c.args.line c.digit-then-line-lt100.result c.digit-then-line-lt100-2.result
    (omega (arith, c.if-line-lt10.false)) c.if-line-lt100.true
    c.digit-then-line-lt100.ensures c.digit-then-line-lt100-2.ensures in
    on_ok_weaker c.append-then-line-lt100.result (λ e. e ∙ ap (sent c.args.out.now.painting) digits) c.append-then-line-lt100.ensures.bytes

pub returns-then-line-lt1000-clause-bytes : goal.returns-then-line-lt1000-clause-bytes
returns-then-line-lt1000-clause-bytes c =
    let digits = three_digits c.args.line c.digit-then-line-lt1000.result c.digit-then-line-lt1000-2.result c.digit-then-line-lt1000-3.result
    (omega (arith, c.if-line-lt100.false)) c.if-line-lt1000.true
    c.digit-then-line-lt1000.ensures c.digit-then-line-lt1000-2.ensures c.digit-then-line-lt1000-3.ensures in
    on_ok_weaker c.append-then-line-lt1000.result (λ e. e ∙ ap (sent c.args.out.now.painting) digits) c.append-then-line-lt1000.ensures.bytes
