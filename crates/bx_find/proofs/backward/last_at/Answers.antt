use Rattle.std.proofs.Common.{refl, ap}
use Rattle.bx_find.specs.Matches.{last_below}
use Rattle.bx_find.proofs.Offsets.{begins_none}
use Rattle.bx_find.proofs.backward.last_at.Goals as goal

-- whatever its class, the character begins nothing
pub returns-then-begins_nothing-clause-found : goal.returns-then-begins_nothing-clause-found
returns-then-begins_nothing-clause-found g c cs =
    ap (last_below c.args.latest.now.before c.args.latest.now.found)
    (begins_none (g.D.BidiData.data c.args.sought.now.tables.now) c.args.sought.now.reading c.args.sought.now.query.now c.args.prefix.now c.args.at c.args.c cs
    (c.if-begins_nothing.ensures.none refl) c.requires (c.if-begins_nothing.ensures.simple refl) (c.if-begins_nothing.ensures.other refl))
