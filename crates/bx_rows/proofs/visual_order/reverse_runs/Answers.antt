use Rattle.std.proofs.Common.{◌∙◌, arith}
use Rattle.bx_rows.proofs.ReversedItems.{all_runs, in_run, run_ends}
use Rattle.bx_rows.proofs.visual_order.reverse_runs.Goals as goal

pub loop-i-preserved-then-levels-i : goal.loop-i-preserved-then-levels-i
loop-i-preserved-then-levels-i g c = record {
  order = omega (arith, c.loop-i.invariant.order);
  count = c.loop-i.invariant.count;
  runs = λ f us agree e.
      in_run (λ u. f u.0) c.loop-i.items c.args.levels.now c.args.level c.loop-i.start c.loop-i.i us agree c.loop-i.invariant.order c.loop-i-test.true
      c.if-levels-i.true (c.loop-i.invariant.runs f us agree e);
}

pub loop-i-preserved : goal.loop-i-preserved
loop-i-preserved g c = record {
  order = omega arith;
  count = c.turn_run.ensures.count ∙ c.loop-i.invariant.count;
  runs = λ f us agree e.
      run_ends (λ u. f u.0) c.loop-i.items _ c.args.levels.now c.args.level c.loop-i.start c.loop-i.i us agree c.loop-i.invariant.order c.loop-i-test.true
      (omega (arith, c.if-levels-i.false)) c.turn_run.ensures.turned (c.loop-i.invariant.runs f us agree e);
}

pub returns-clause-runs : goal.returns-clause-runs
returns-clause-runs g c = λ f us agree e.
    all_runs (λ u. f u.0) c.loop-i.items _ c.args.levels.now c.args.level c.loop-i.start c.loop-i.i us agree c.loop-i.invariant.order
    (omega (arith, c.loop-i-test.false, c.loop-i.auto.i-end)) c.turn_run-2.ensures.turned (c.loop-i.invariant.runs f us agree e)
