use Rattle.std.proofs.Common.{refl}
use Rattle.bx_ucd.specs.Data.{Data}
use Rattle.bx_world.proofs.Calls.{opened_is, opened_world}
use Rattle.bx_world.proofs.world.World.open.Goals as goal

pub invariant_of-result : goal.invariant_of-result
invariant_of-result g c =
    let ucd : g.row.D.Denot → Data = g.D.BidiData.data in
    opened_is ucd c.in_ok-session.session c.set.new.self c.args.tables c.args.bytes.items c.args.height c.args.width c.args.base c.args.settings
    c.new-2.result c.new-3.result.items c.in-Ok-new.screen c.in_ok-session.ensures.ok c.set.ensures.tables c.in-Ok.ensures.ok c.in-Ok.ensures.paints
    c.new-2.ensures.is_head c.new-3.ensures.items c.in-Ok-new.ensures.ok

pub returns-clause-ok : goal.returns-clause-ok
returns-clause-ok g c =
    let ucd : g.row.D.Denot → Data = g.D.BidiData.data in
    opened_world ucd c.in_ok-session.session c.set.new.self c.args.tables c.args.bytes.items c.args.height c.args.width c.args.base c.args.settings
    c.new-2.result c.new-3.result.items c.in-Ok-new.screen _ refl c.in_ok-session.ensures.ok c.set.ensures.tables c.in-Ok.ensures.ok
    c.new-2.ensures.is_head c.new-3.ensures.items c.in-Ok-new.ensures.ok
