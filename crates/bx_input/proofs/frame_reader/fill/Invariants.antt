use Rattle.std.proofs.Common.{option_map}
use Rattle.std.specs.Io.KnownBytes.{Keeps}
use Rattle.bx_input.specs.Heard.{left}
use Rattle.bx_input.proofs.frame_reader.fill.Given as goal

abbrev pub invariant-loop : goal.invariant-loop
invariant-loop g l = Keeps (option_map (left l.fn.inbox) (g.R.Read.remaining l.fn.reader)) (option_map (left l.inbox) (g.R.Read.remaining l.reader))
