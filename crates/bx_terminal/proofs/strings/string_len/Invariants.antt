use Rattle.std.proofs.Common.{◌≡◌, take, drop, ◌++◌}
use Rattle.bx_grid.specs.Tokens.{string_text}
use Rattle.bx_terminal.proofs.strings.string_len.Given as goal

abbrev pub invariant-loop-byte : goal.invariant-loop-byte
invariant-loop-byte l = (l.len ≡ l.byte-index) × (take l.byte-index l.body ++ string_text (drop l.byte-index l.body) ≡ string_text l.body)
