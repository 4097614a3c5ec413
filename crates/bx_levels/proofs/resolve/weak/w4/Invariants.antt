-- The types done so far, and the result of the rule on the rest.
use Rattle.std.proofs.Common.{◌≡◌, ◌++◌, take, drop}
use Rattle.bx_levels.specs.resolve.Weak.{w4}
use Rattle.bx_levels.proofs.resolve_lemmas.Run.{run, next_beside, out_separator}
use Rattle.bx_levels.proofs.resolve.weak.w4.Given as goal

abbrev pub invariant-loop-i : goal.invariant-loop-i
invariant-loop-i l = w4 l.fn.types ≡ take l.i l.types ++ run next_beside out_separator l.before (drop l.i l.types)
