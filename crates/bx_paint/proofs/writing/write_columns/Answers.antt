use Rattle.std.proofs.Common.{length, refl, ap, ◌∙◌, arith}
use Rattle.std.proofs.lemmas.List.{length-map}
use Rattle.bx_grid.specs.Seen.{seen}
use Rattle.bx_paint.proofs.Sent.{column_more}
use Rattle.bx_paint.proofs.writing.write_columns.Goals as goal

pub loop-i-preserved : goal.loop-i-preserved
loop-i-preserved c = record {
  bytes = column_more c.args.row c.loop-i.i c.loop-i.pen.near c.loop-i.pen.negative c.in_ok-pen.pen.near c.in_ok-pen.pen.negative
      c.args.old.now c.args.new.now _ _
      c.loop-i.out.painting c.write_at.new.out.painting
      (omega (arith, c.loop-i-test.true, ap length c.columns-count.ensures, length-map c.columns-count.result.now seen)) refl refl
      c.in_ok-pen.ensures.bytes c.in_ok-pen.ensures.near c.in_ok-pen.ensures.rendition
      ∙ c.loop-i.invariant.bytes;
  before = c.write_at.ensures.before ∙ c.loop-i.invariant.before;
}
