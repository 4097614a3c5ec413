use Rattle.std.proofs.Common.{◌*◌, ◌<◌, replicate, sym, ◌∙◌}
use Rattle.bx_grid.specs.Columns.{blank}
use Rattle.bx_paint.proofs.Sent.{row_more, blank_row}
use Rattle.bx_paint.proofs.writing.write_over_blanks.Goals as goal

pub loop-row-preserved : goal.loop-row-preserved
loop-row-preserved c =
    let h = c.args.new.now.height in
    let w = c.args.new.now.width in
    let row = c.loop-row.row in
    let low : row < h = rw (← c.height-row-end.ensures.height) c.loop-row-test.true in
    record {
      bytes = row_more h row w c.loop-row.negative c.in_ok-negative.negative (replicate (h * w) blank) c.args.new.now.columns c.args.blanks.now c.row.result
          c.loop-row.out.painting c.write_row.new.out.painting low (c.requires ∙ sym (blank_row h row w low)) c.row.ensures.row c.in_ok-negative.ensures.bytes
          c.in_ok-negative.ensures.rendition
          ∙ c.loop-row.invariant.bytes;
      before = c.write_row.ensures.before ∙ c.loop-row.invariant.before;
    }
