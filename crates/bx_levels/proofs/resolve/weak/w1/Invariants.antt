-- The types done so far, and the result of the rule on the rest.
use Rattle.std.proofs.Common.{◌≡◌, ◌++◌, take, drop}
use Rattle.bx_levels.specs.resolve.Weak.{w1}
use Rattle.bx_levels.proofs.resolve_lemmas.Run.{run, next_nsm_class, out_nsm_class}
use Rattle.bx_levels.proofs.resolve.weak.w1.Given as goal

abbrev pub invariant-loop-t : goal.invariant-loop-t
invariant-loop-t l = w1 l.fn.sos l.fn.types ≡ take l.t-index l.types ++ run next_nsm_class out_nsm_class l.nsm_class (drop l.t-index l.types)
