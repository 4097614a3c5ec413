use Rattle.std.proofs.Common.{◌≡◌, take, drop, ◌++◌}
use Rattle.bx_grid.specs.Tokens.{before_semicolon, after_semicolon}
use Rattle.bx_terminal.proofs.token.semicolon.Given as goal

abbrev pub invariant-loop-byte : goal.invariant-loop-byte
invariant-loop-byte l = (l.len ≡ l.byte-index) × (take l.byte-index l.params ++ before_semicolon (drop l.byte-index l.params) ≡ before_semicolon l.params)
    × (after_semicolon (drop l.byte-index l.params) ≡ after_semicolon l.params)
