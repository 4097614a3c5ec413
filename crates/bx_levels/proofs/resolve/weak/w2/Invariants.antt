-- The types done so far, and the result of the rule on the rest.
use Rattle.std.proofs.Common.{◌≡◌, ◌++◌, take, drop}
use Rattle.bx_levels.specs.resolve.Weak.{w2}
use Rattle.bx_levels.proofs.resolve_lemmas.Run.{run, next_strong, out_number}
use Rattle.bx_levels.proofs.resolve.weak.w2.Given as goal

abbrev pub invariant-loop-t : goal.invariant-loop-t
invariant-loop-t l = w2 l.fn.sos l.fn.types ≡ take l.t-index l.types ++ run next_strong out_number l.strong (drop l.t-index l.types)
