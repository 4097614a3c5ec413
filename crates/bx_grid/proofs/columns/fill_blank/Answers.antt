use Rattle.std.proofs.Common.{◌+◌, ◌-◌, arith}
use Rattle.std.proofs.lemmas.List.{length-map}
use Rattle.bx_grid.specs.Columns.{blank}
use Rattle.bx_grid.specs.Seen.{seen, all_seen}
use Rattle.bx_grid.proofs.Puts.{filled_more}
use Rattle.bx_grid.proofs.columns.fill_blank.Goals as goal

pub loop-index-preserved : goal.loop-index-preserved
loop-index-preserved c =
    filled_more c.loop-index.columns (all_seen c.args.columns.now) c.args.from (c.loop-index.index - c.args.from) c.loop-index.index
    (c.loop-index.index + 1 - c.args.from) blank c.blank_column.result
    (omega (arith, c.loop-index.auto.index)) (omega (arith, c.loop-index.auto.index))
    (omega (arith, length-map c.args.columns.now seen)) c.loop-index.invariant c.blank_column.ensures
