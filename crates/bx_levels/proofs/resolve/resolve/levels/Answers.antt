-- Properties of the levels of every text.
use Rattle.std.proofs.Common.{chars}
use Rattle.bx_levels.proofs.resolve_lemmas.KeptLevels.{levels_kept, levels_stay_low}
use Rattle.bx_levels.proofs.resolve.resolve.levels.Goals as goal

pub returns-clause-kept : goal.returns-clause-kept
returns-clause-kept g c = levels_kept (g.D.BidiData.data c.args.tables.now) c.args.base
    (chars c.args.body.now) c.in_ok-levels.levels.each.items c.in_ok-levels.ensures.each

pub returns-clause-low : goal.returns-clause-low
returns-clause-low g c = levels_stay_low (g.D.BidiData.data c.args.tables.now) c.args.base
    (chars c.args.body.now) c.in_ok-levels.levels.each.items c.in_ok-levels.ensures.each
