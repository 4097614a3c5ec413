use Rattle.std.proofs.Common.{◌≡◌, ◌++◌, drop}
use Rattle.bx_input.specs.Machine.{after_all_scanned}
use Rattle.bx_input.proofs.machine.Machine.scan_all.Given as goal

-- the rest of the bytes leads where all of them lead from the first state
abbrev pub invariant-loop-byte : goal.invariant-loop-byte
invariant-loop-byte l =
    ((after_all_scanned (drop l.byte-index l.bytes) l.self).machine ≡ (after_all_scanned l.fn.bytes l.fn.self).machine)
    × (l.out.items ++ (after_all_scanned (drop l.byte-index l.bytes) l.self).keys ≡ l.fn.out.items ++ (after_all_scanned l.fn.bytes l.fn.self).keys)
