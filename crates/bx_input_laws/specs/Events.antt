-- The law of events in pieces. `es` are events, `m` is the machine's state.
use Rattle.std.specs.Prelude.{◌≡◌, List, ◌++◌}
use Rattle.bx_input.specs.Machine.{Event, Machine, after_all, and_then}

-- events cut in two give the keys of the first piece, and then of the second
abbrev pub EventsComeInPieces : Type 0
EventsComeInPieces = (es more : List Event) (m : Machine) → after_all (es ++ more) m ≡ and_then (after_all es m) (after_all more)
