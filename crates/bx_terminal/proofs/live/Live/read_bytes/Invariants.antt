use Rattle.std.proofs.Common.{◌≡◌, drop}
use Rattle.bx_grid.specs.Terminal.{reads}
use Rattle.bx_terminal.proofs.live.Live.read_bytes.Given as goal

abbrev pub invariant-loop-byte : goal.invariant-loop-byte
invariant-loop-byte l = reads l.self (drop l.byte-index l.bytes) ≡ reads l.initial.self l.bytes
