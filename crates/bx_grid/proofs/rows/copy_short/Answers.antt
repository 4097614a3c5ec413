use Rattle.std.proofs.Common.{refl}
use Rattle.bx_grid.proofs.Copied.{copied_over}
use Rattle.bx_grid.proofs.rows.copy_short.Goals as goal

pub loop-i-preserved : goal.loop-i-preserved
loop-i-preserved c = λ start fits before.
    copied_over c.loop-i.columns start c.args.from c.loop-i.i c.args.others.now c.set_short.new.self c.index-others-i.result fits c.loop-i-test.true
    (c.loop-i.invariant start fits before) c.index-others-i.is (c.if-not-set_short.ensures.set refl)
