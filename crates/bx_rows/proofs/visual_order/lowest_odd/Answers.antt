use Rattle.std.proofs.Common.{◌-◌, ◌∙◌, arith}
use Rattle.bx_rows.proofs.LevelBounds.{lowest_more}
use Rattle.bx_rows.proofs.visual_order.lowest_odd.Goals as goal

pub loop-i-preserved : goal.loop-i-preserved
loop-i-preserved c = record {
  within = omega (arith, c.loop-i.invariant.within);
  fits = omega (arith, c.min-lowest.ensures, c.loop-i.invariant.fits);
  lowest =
      c.min-lowest.ensures
      ∙ lowest_more c.args.levels.now c.loop-i.i c.odd_or_last.result c.loop-i.lowest c.loop-i-test.true c.loop-i.invariant.within
      (omega (arith, c.type_inv.levels (c.loop-i.i - 1))) c.loop-i.invariant.fits c.odd_or_last.ensures c.loop-i.invariant.lowest;
}
