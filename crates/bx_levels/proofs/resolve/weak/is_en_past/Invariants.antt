-- All types so far are ET, so the rest has the same answer.
use Rattle.std.proofs.Common.{◌≡◌, drop}
use Rattle.bx_levels.specs.resolve.Weak.{is_en_past}
use Rattle.bx_levels.proofs.resolve.weak.is_en_past.Given as goal

abbrev pub invariant-loop-t : goal.invariant-loop-t
invariant-loop-t l = is_en_past l.types ≡ is_en_past (drop l.t-index l.types)
