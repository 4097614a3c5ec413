use Rattle.std.proofs.Common.{◌≡◌}
use Rattle.bx_terminal.proofs.sequence.text_len.Given as goal

abbrev pub invariant-loop-byte : goal.invariant-loop-byte
invariant-loop-byte l = l.len ≡ l.byte-index
