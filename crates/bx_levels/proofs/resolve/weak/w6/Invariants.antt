-- The types done so far, and the result of the rule on the rest.
use Rattle.std.proofs.Common.{◌≡◌, ◌++◌, take, drop}
use Rattle.bx_levels.specs.resolve.Weak.{w6}
use Rattle.bx_levels.proofs.resolve.weak.w6.Given as goal

abbrev pub invariant-loop-t : goal.invariant-loop-t
invariant-loop-t l = w6 l.fn.types ≡ take l.t-index l.types ++ w6 (drop l.t-index l.types)
