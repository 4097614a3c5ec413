use Rattle.std.proofs.Common.{arith}
use Rattle.std.proofs.lemmas.List.{length-map}
use Rattle.bx_grid.specs.Seen.{seen, all_seen}
use Rattle.bx_grid.proofs.Puts.{run_more}
use Rattle.bx_grid.proofs.columns.put_run.Goals as goal

pub loop-i-preserved : goal.loop-i-preserved
loop-i-preserved c =
    run_more c.loop-i.columns (all_seen c.args.columns.now) c.args.from c.loop-i.i c.args.run.now c.args.negative c.of_byte.result
    (omega (arith, length-map c.args.columns.now seen)) (omega arith) c.loop-i.invariant c.of_byte.ensures
