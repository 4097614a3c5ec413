use Rattle.std.proofs.Common.{◌≡◌, List, map}
use Rattle.bx_session.specs.Log.{AreTaken, Obeys}
use Rattle.bx_session.specs.Running.{PressAnswer}
use Rattle.bx_session.proofs.Turns.{Pressed}
use Rattle.bx_session.proofs.keeping.obey_all.Given as goal

abbrev pub invariant-loop-key : goal.invariant-loop-key
invariant-loop-key g l =
    let device = g.V.Device in
    let d = g.D.BidiData.data l.initial.session.tables in
    ((answered : List PressAnswer)
    × Pressed d l.initial.session.session (device.stored l.initial.device) l.presses l.key-index l.session.session (device.stored l.device) answered
    × AreTaken device.did device.obeyed device.stored d l.initial.device l.initial.session.session (map Obeys answered) l.device l.session.session)
    × (l.session.tables ≡ l.initial.session.tables)
