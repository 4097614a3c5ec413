use Rattle.std.proofs.Common.{◌-◌, arith}
use Rattle.bx_grid.proofs.TurnedWhole.{part-turned}
use Rattle.bx_grid.proofs.turning.turn_columns.Goals as goal

pub returns : goal.returns
returns c =
    part-turned c.args.columns.now c.turn_all.new.columns c.args.from (c.args.to - c.args.from) (omega (arith, c.requires.order, c.requires.inside))
    c.turn_all.ensures
