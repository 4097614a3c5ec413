use Rattle.std.proofs.Common.{◌+◌, ◌∙◌, ap, chars, length, arith}
use Rattle.bx_rows.proofs.RowPlaces.{number-back, number-on}
use Rattle.bx_rows.proofs.RowUnits.{chars-within}
use Rattle.bx_rows.proofs.place.number_at.Goals as goal

pub returns-then-near-offset : goal.returns-then-near-offset
returns-then-near-offset c =
    ap (λ n. c.args.number + n) (c.char_count.ensures ∙ ap (λ t. length (chars t)) c.range.ensures.value)
    ∙ number-on c.args.text.now c.args.near c.args.number c.args.offset c.utf8.text c.requires.near c.requires.number c.if-near-offset.true

pub overflow_add-result : goal.overflow_add-result
overflow_add-result c =
    let counted = c.char_count.ensures ∙ ap (λ t. length (chars t)) c.range.ensures.value in
    omega (
      arith,
      counted,
      number-on c.args.text.now c.args.near c.args.number c.args.offset c.utf8.text c.requires.near c.requires.number c.if-near-offset.true,
      chars-within c.args.text.now c.args.offset c.utf8.text c.requires.offset,
      c.ranges.offset,
    )

pub overflow_sub-result : goal.overflow_sub-result
overflow_sub-result c =
    let counted = c.char_count-2.ensures ∙ ap (λ t. length (chars t)) c.range-2.ensures.value in
    omega (
      arith,
      counted,
      number-back c.args.text.now c.args.near c.args.number c.args.offset c.utf8.text c.requires.offset c.requires.number (omega (arith, c.if-near-offset.false)),
    )

pub returns : goal.returns
returns c =
    let counted = c.char_count-2.ensures ∙ ap (λ t. length (chars t)) c.range-2.ensures.value in
    omega (
      arith,
      counted,
      number-back c.args.text.now c.args.near c.args.number c.args.offset c.utf8.text c.requires.offset c.requires.number (omega (arith, c.if-near-offset.false)),
    )
