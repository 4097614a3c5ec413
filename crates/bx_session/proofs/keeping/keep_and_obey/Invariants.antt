use Rattle.std.proofs.Common.{◌≡◌, ◌++◌, ℕ, List, length}
use Rattle.bx_session.specs.Inputs.{presses_from, rest_from}
use Rattle.bx_session.specs.Log.{AreTaken, ArePartsFrom, Part, part_steps, pressed_in_parts, typed_in_parts}
use Rattle.bx_session.specs.Running.{PressAnswer, PressesAll, presses_in}
use Rattle.bx_session.proofs.keeping.keep_and_obey.Given as goal

abbrev pub invariant-parts : goal.invariant-parts
invariant-parts g l =
    let device = g.V.Device in
    let d = g.D.BidiData.data l.fn.session.tables in
    ((typed : List ℕ) × (answered : List PressAnswer) × (parts : List Part)
    × PressesAll d l.fn.session.session (device.stored l.fn.device) answered l.session.session (device.stored l.device)
    × (presses_in answered ≡ presses_from l.fn.decoder typed)
    × (l.decoder ≡ rest_from l.fn.decoder typed)
    × (l.fn.bytes ≡ typed ++ l.rest)
    × AreTaken device.did device.obeyed device.stored d l.fn.device l.fn.session.session (part_steps parts) l.device l.session.session
    × ArePartsFrom l.fn.decoder parts × (typed_in_parts parts ≡ typed) × (pressed_in_parts parts ≡ answered))
    × (l.session.tables ≡ l.fn.session.tables)

abbrev pub decreases-parts : goal.decreases-parts
decreases-parts g l = length l.rest
