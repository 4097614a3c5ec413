use Rattle.std.proofs.Common.{refl}
use Rattle.bx_find.proofs.Offsets.{begins_none}
use Rattle.bx_find.proofs.forward.first_at.Goals as goal

-- whatever its class, the character begins nothing
pub returns-then-begins_nothing-clause-found : goal.returns-then-begins_nothing-clause-found
returns-then-begins_nothing-clause-found g c cs =
    begins_none (g.D.BidiData.data c.args.sought.now.tables.now) c.args.sought.now.reading c.args.sought.now.query.now c.args.prefix.now c.args.at c.args.c cs
    (c.if-begins_nothing.ensures.none refl) c.requires (c.if-begins_nothing.ensures.simple refl) (c.if-begins_nothing.ensures.other refl)
