use Rattle.std.proofs.Common.{◌∙◌}
use Rattle.bx_paint.proofs.Sent.{row_more}
use Rattle.bx_paint.proofs.writing.write_rows.Goals as goal

pub loop-row-preserved : goal.loop-row-preserved
loop-row-preserved c = record {
  bytes = row_more c.args.new.now.height c.loop-row.row c.args.new.now.width c.loop-row.negative c.in_ok-negative.negative c.args.old.now.columns
      c.args.new.now.columns c.row.result c.row-in-loop-row.result
      c.loop-row.out.painting c.write_row.new.out.painting (rw (← c.height-row-end.ensures.height) c.loop-row-test.true)
      (rw (← c.requires.width) c.row.ensures.row)
      c.row-in-loop-row.ensures.row c.in_ok-negative.ensures.bytes c.in_ok-negative.ensures.rendition
      ∙ c.loop-row.invariant.bytes;
  before = c.write_row.ensures.before ∙ c.loop-row.invariant.before;
}
