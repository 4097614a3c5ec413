use Rattle.std.proofs.Common.{length-set, ◌∙◌, arith}
use Rattle.bx_rows.proofs.LevelSteps.{settled_set}
use Rattle.bx_rows.proofs.level_read.settle.Goals as goal

pub loop-i-preserved : goal.loop-i-preserved
loop-i-preserved c =
    let i = c.loop-i.invariant in
    let test = c.loop-i-test.true in
    record {
      levels = settled_set c.args.paragraph c.loop-i.i c.loop-i.found.items (omega (arith, test)) ∙ i.levels;
      count = length-set c.loop-i.found.items c.loop-i.i c.args.paragraph ∙ i.count;
    }
