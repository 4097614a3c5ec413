use Rattle.std.proofs.Common.{◌≡◌, take, drop, ◌++◌}
use Rattle.bx_grid.specs.Tokens.{params, after_params}
use Rattle.bx_terminal.proofs.token.params_len.Given as goal

abbrev pub invariant-loop-byte : goal.invariant-loop-byte
invariant-loop-byte l = (l.len ≡ l.byte-index) × (take l.byte-index l.body ++ params (drop l.byte-index l.body) ≡ params l.body)
    × (after_params (drop l.byte-index l.body) ≡ after_params l.body)
