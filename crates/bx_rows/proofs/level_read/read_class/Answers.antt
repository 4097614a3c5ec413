use Rattle.std.proofs.Common.{sym, ◌∙◌, arith}
use Rattle.bx_rows.proofs.LevelSteps.{at_separator, at_trailing, at_other}
use Rattle.bx_rows.proofs.level_read.read_class.Goals as goal

pub returns-then-is_segment_separator-clause-levels : goal.returns-then-is_segment_separator-clause-levels
returns-then-is_segment_separator-clause-levels c =
    let count = c.len.ensures in
    at_separator c.args.paragraph c.args.waiting c.len.result c.args.class c.args.found.now.items c.settle.new.found.items
    (sym c.is_segment_separator.ensures ∙ c.if-is_segment_separator.true) c.settle.ensures.levels
    (omega (arith, count))

pub returns-then-is_trailing-clause-levels : goal.returns-then-is_trailing-clause-levels
returns-then-is_trailing-clause-levels c =
    at_trailing c.args.paragraph c.args.waiting c.args.class c.args.found.now.items
    (sym c.is_segment_separator.ensures ∙ c.if-is_segment_separator.false) (sym c.is_trailing.ensures ∙ c.if-is_trailing.true)

pub returns-clause-levels : goal.returns-clause-levels
returns-clause-levels c =
    let count = c.len-2.ensures in
    at_other c.args.paragraph c.args.waiting c.len-2.result c.args.class c.args.found.now.items
    (sym c.is_segment_separator.ensures ∙ c.if-is_segment_separator.false) (sym c.is_trailing.ensures ∙ c.if-is_trailing.false)
    (omega (arith, count))
