-- The offsets so far, then the offsets of the remaining slots, are all offsets.
use Rattle.std.proofs.Common.{◌≡◌, ◌+◌, ◌++◌, drop, map}
use Rattle.bx_view_laws.proofs.library.in_text.Given as goal

abbrev pub invariant-loop-slot : goal.invariant-loop-slot
invariant-loop-slot l =
    l.offsets.items ++ map (λ o. l.start + o) (map (λ s. s.offset) (drop l.slot-index l.slots))
    ≡ map (λ o. l.start + o) (map (λ s. s.offset) l.slots)
