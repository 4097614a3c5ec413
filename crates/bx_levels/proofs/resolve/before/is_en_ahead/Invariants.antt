-- All types so far are ET, so the rest has the same answer.
use Rattle.std.proofs.Common.{◌≡◌, drop}
use Rattle.bx_levels.specs.resolve.Weak.{is_en_past}
use Rattle.bx_levels.specs.resolve.Turns.{rest_after_w3}
use Rattle.bx_levels.proofs.resolve.before.is_en_ahead.Given as goal

abbrev pub invariant-loop-t : goal.invariant-loop-t
invariant-loop-t l = is_en_past (rest_after_w3 l.fn.nsm_class l.strong l.types) ≡ is_en_past (rest_after_w3 l.nsm_class l.strong (drop l.t-index l.types))
