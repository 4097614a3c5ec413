use Rattle.std.proofs.Common.{refl}
use Rattle.bx_ucd.specs.Data.{Data}
use Rattle.bx_world.proofs.Calls.{clipboard_call, value_of}
use Rattle.bx_world.proofs.world.World.use_clipboard.Goals as goal

pub invariant_of-self : goal.invariant_of-self
invariant_of-self g c =
    let ucd : g.row.D.Denot → Data = g.D.BidiData.data in
    clipboard_call ucd c.self.inside.session c.use_clipboard.new.self (value_of c.self.inside) refl c.use_clipboard.ensures c.self.invariant
