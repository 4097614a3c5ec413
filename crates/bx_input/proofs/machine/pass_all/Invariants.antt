use Rattle.std.proofs.Common.{◌≡◌, ◌++◌, drop}
use Rattle.bx_input.specs.Machine.{read}
use Rattle.bx_input.specs.Scan.{passed}
use Rattle.bx_input.proofs.machine.pass_all.Given as goal

-- the rest of the bytes leads where all of them lead from the first decoder
abbrev pub invariant-loop-byte : goal.invariant-loop-byte
invariant-loop-byte l =
    ((read l.items (passed (drop l.byte-index l.bytes))).rest ≡ (read l.fn.items (passed l.fn.bytes)).rest)
    × (l.out.items ++ (read l.items (passed (drop l.byte-index l.bytes))).keys ≡ l.fn.out.items ++ (read l.fn.items (passed l.fn.bytes)).keys)
