use Rattle.bx_ucd.specs.Data.{Data}
use Rattle.bx_world.specs.World.{World}
use Rattle.bx_world.proofs.Calls.{window_call, value_of}
use Rattle.bx_world.proofs.world.World.resize.Goals as goal

pub invariant_of-self : goal.invariant_of-self
invariant_of-self g c =
    let ucd : g.row.D.Denot → Data = g.D.BidiData.data in
    let w : World = value_of c.self.inside in
    window_call (ucd c.self.inside.session.tables) w c.args.height c.args.width c.window.new.self c.self.invariant c.in-Ok.ensures.ok
