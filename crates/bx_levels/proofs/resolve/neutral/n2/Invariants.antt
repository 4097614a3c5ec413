-- The types done so far, and the result of the rule on the rest.
use Rattle.std.proofs.Common.{◌≡◌, ◌++◌, take, drop}
use Rattle.bx_levels.specs.resolve.Neutral.{n2}
use Rattle.bx_levels.proofs.resolve.neutral.n2.Given as goal

abbrev pub invariant-loop-t : goal.invariant-loop-t
invariant-loop-t l = n2 l.embedding l.fn.types ≡ take l.t-index l.types ++ n2 l.embedding (drop l.t-index l.types)
