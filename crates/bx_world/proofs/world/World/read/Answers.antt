use Rattle.bx_ucd.specs.Data.{Data}
use Rattle.std.proofs.Common.{subst}
use Rattle.bx_world.specs.World.{World, AfterReadStep}
use Rattle.bx_world.specs.Showing.{WorldState}
use Rattle.bx_world.proofs.Calls.{read_call, read_steps, value_of}
use Rattle.bx_world.proofs.world.World.read.Goals as goal

pub invariant_of-self : goal.invariant_of-self
invariant_of-self g c =
    let ucd : g.row.D.Denot → Data = g.D.BidiData.data in
    let w : World = value_of c.self.inside in
    read_call (ucd c.self.inside.session.tables) w c.args.count c.read_some.new.line.items c.read_some.new.screen c.read_some.result c.self.invariant
    c.read_some.ensures.line c.read_some.ensures.ok c.read_some.ensures.err

pub returns-clause-step : goal.returns-clause-step
returns-clause-step g c =
    let w : World = value_of c.self.inside in
    subst (λ (x : WorldState g.row.D.Denot). AfterReadStep x.world c.args.count c.read_some.result
    (record w { line = c.read_some.new.line.items; screen = c.read_some.new.screen })) c.self.view_is
    (read_steps w c.args.count c.read_some.new.line.items c.read_some.new.screen c.read_some.result c.read_some.ensures.line
    c.read_some.ensures.ok c.read_some.ensures.live c.read_some.ensures.err c.read_some.ensures.some c.read_some.ensures.fault)
