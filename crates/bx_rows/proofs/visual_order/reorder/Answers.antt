use Rattle.std.proofs.Common.{◌<◌, refl, sym, subst, ◌∙◌, arith}
use Rattle.bx_rows.proofs.LevelBounds.{lowest_some}
use Rattle.bx_rows.proofs.ReversedItems.{highest_level, lowest_level, next_level}
use Rattle.bx_rows.proofs.visual_order.reorder.Goals as goal

pub loop-level-init : goal.loop-level-init
loop-level-init g c = record {
  some = subst (λ n. 0 < n) (sym c.lowest_odd-low.ensures) (lowest_some c.args.levels.now);
  count = refl;
  order = λ d.
      highest_level c.args.items.now d c.args.levels.now c.lowest_odd-low.result c.highest-level.result c.requires c.lowest_odd-low.ensures
      c.highest-level.ensures (omega (arith, c.highest-level.type_inv));
}

pub loop-level-preserved : goal.loop-level-preserved
loop-level-preserved g c = record {
  some = c.loop-level.invariant.some;
  count = c.reverse_runs.ensures.count ∙ c.loop-level.invariant.count;
  order = λ d.
      next_level _ c.loop-level.items _ c.args.levels.now c.lowest_odd-low.result c.loop-level.level _ c.loop-level-test.true c.loop-level.invariant.some
      (λ us. c.reverse_runs.ensures.runs _ us) (c.loop-level.invariant.order d);
}

pub returns-clause-order : goal.returns-clause-order
returns-clause-order g c = λ d.
    lowest_level _ c.loop-level.items c.args.levels.now c.lowest_odd-low.result c.loop-level.level (omega (arith, c.loop-level-test.false))
    (c.loop-level.invariant.order d)
