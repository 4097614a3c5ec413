use Rattle.std.proofs.Common.{◌*◌, ◌∙◌, arith}
use Rattle.bx_rows.proofs.FormTexts.{part, part-end, part-start, part-text}
use Rattle.bx_rows.proofs.form_texts.text_in.Goals as goal

pub range-requires-clause-start_boundary : goal.range-requires-clause-start_boundary
range-requires-clause-start_boundary c _ =
    part-start (part c.args.texts.now c.args.first c.args.count c.args.c (c.in_ok-number.number * 3) c.requires.texts c.requires.low c.requires.high
    (omega (arith, c.in_ok-number.ensures)) (omega (arith, c.in_ok-number.ensures, c.if-number-count.false)) (omega (arith, c.in_ok-number.ensures)))

pub range-requires-clause-end_boundary : goal.range-requires-clause-end_boundary
range-requires-clause-end_boundary c =
    part-end (part c.args.texts.now c.args.first c.args.count c.args.c (c.in_ok-number.number * 3) c.requires.texts c.requires.low c.requires.high
    (omega (arith, c.in_ok-number.ensures)) (omega (arith, c.in_ok-number.ensures, c.if-number-count.false)) (omega (arith, c.in_ok-number.ensures)))

pub returns : goal.returns
returns c =
    c.range.ensures.value
    ∙ part-text (part c.args.texts.now c.args.first c.args.count c.args.c (c.in_ok-number.number * 3) c.requires.texts c.requires.low c.requires.high
    (omega (arith, c.in_ok-number.ensures)) (omega (arith, c.in_ok-number.ensures, c.if-number-count.false)) (omega (arith, c.in_ok-number.ensures)))
