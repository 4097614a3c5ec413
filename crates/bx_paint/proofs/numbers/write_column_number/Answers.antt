use Rattle.std.proofs.Common.{ℕ, List, ◌++◌, ◌∷◌, [], ap, ◌∙◌, arith}
use Rattle.std.proofs.lemmas.Result.{on_ok_weaker}
use Rattle.bx_paint.proofs.Decimals.{one_digit, two_digits, three_digits}
use Rattle.bx_paint.proofs.numbers.write_column_number.Goals as goal

-- the bytes sent around the digits
abbrev sent : List ℕ → List ℕ → List ℕ
sent out digits = out ++ (digits ++ 0x48 ∷ [])

pub returns-then-column-lt10-clause-bytes : goal.returns-then-column-lt10-clause-bytes
returns-then-column-lt10-clause-bytes c =
    let digits = one_digit c.args.column c.digit.result c.if-column-lt10.true c.digit.ensures in
    on_ok_weaker c.append.result (λ e. e ∙ ap (sent c.args.out.now.painting) digits) c.append.ensures.bytes

pub returns-then-column-lt100-clause-bytes : goal.returns-then-column-lt100-clause-bytes
returns-then-column-lt100-clause-bytes c =
    let digits = two_digits c.args.column c.digit-then-column-lt100.result c.digit-then-column-lt100-2.result
    (omega (arith, c.if-column-lt10.false)) c.if-column-lt100.true
    c.digit-then-column-lt100.ensures c.digit-then-column-lt100-2.ensures in
    on_ok_weaker c.append-then-column-lt100.result (λ e. e ∙ ap (sent c.args.out.now.painting) digits) c.append-then-column-lt100.ensures.bytes

pub returns-then-column-lt1000-clause-bytes : goal.returns-then-column-lt1000-clause-bytes
returns-then-column-lt1000-clause-bytes c =
    let digits = three_digits c.args.column c.digit-then-column-lt1000.result c.digit-then-column-lt1000-2.result c.digit-then-column-lt1000-3.result
    (omega (arith, c.if-column-lt100.false)) c.if-column-lt1000.true
    c.digit-then-column-lt1000.ensures c.digit-then-column-lt1000-2.ensures c.digit-then-column-lt1000-3.ensures in
    on_ok_weaker c.append-then-column-lt1000.result (λ e. e ∙ ap (sent c.args.out.now.painting) digits) c.append-then-column-lt1000.ensures.bytes
