use Rattle.std.proofs.Common.{◌≡◌, [], length, Ok}
use Rattle.bx_session.specs.declared.end.End.TheVariants.{Quit}
use Rattle.bx_session.specs.Log.{HasLogged}
use Rattle.bx_session.proofs.running.run_device.Given as goal

abbrev pub invariant-reads : goal.invariant-reads
invariant-reads g l =
    let device = g.V.Device in
    (logged : HasLogged device.did device.obeyed device.stored (g.D.BidiData.data l.fn.session.tables) l.fn.limit (Ok Quit) l.fn.decoder
    l.decoder l.fn.session.session l.session.session l.fn.device l.device)
    × (length logged.turns ≡ l.read)
    × (l.session.session.pending ≡ [])
    × (l.session.tables ≡ l.fn.session.tables)
