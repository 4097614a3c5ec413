use Rattle.std.proofs.Common.{◌≡◌, ◌++◌, drop, map}
use Rattle.bx_input.specs.Machine.{Typed, after_all}
use Rattle.bx_input.proofs.translate.obey_typed.Given as goal

-- the rest of the bytes leads where all of them lead from the first state
abbrev pub invariant-loop-byte : goal.invariant-loop-byte
invariant-loop-byte l =
    ((after_all (map Typed (drop l.byte-index l.bytes)) l.machine).machine ≡ (after_all (map Typed l.fn.bytes) l.fn.machine).machine)
    × (l.out.items ++ (after_all (map Typed (drop l.byte-index l.bytes)) l.machine).keys ≡ l.fn.out.items ++ (after_all (map Typed l.fn.bytes) l.fn.machine).keys)
