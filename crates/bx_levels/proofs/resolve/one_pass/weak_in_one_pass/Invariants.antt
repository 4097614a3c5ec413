-- The types done so far, and the result of the rules on the rest.
use Rattle.std.proofs.Common.{◌≡◌, ◌<◌, ◌⊎◌, ◌++◌, ◌-◌, length, take, drop}
use Rattle.bx_levels.specs.resolve.Weak.{weak}
use Rattle.bx_levels.specs.resolve.Turns.{next, written}
use Rattle.bx_levels.proofs.resolve_lemmas.Fused.{go}
use Rattle.bx_levels.proofs.resolve.one_pass.weak_in_one_pass.Given as goal

abbrev pub invariant-types : goal.invariant-types
invariant-types l = weak l.fn.sos l.fn.types ≡ take l.i l.types ++ go next written l.before (drop l.i l.types)

abbrev pub decreases-types : goal.decreases-types
decreases-types l = length l.types - l.i

abbrev pub invariant-settled : goal.invariant-settled
invariant-settled l = record {
  done : weak l.fn.sos l.fn.types ≡ take l.i l.types ++ go next written l.before (drop l.i l.types);
  begins : (l.i ≡ l.initial.i) ⊎ (l.initial.i < l.i);
}

abbrev pub decreases-settled : goal.decreases-settled
decreases-settled l = length l.types - l.i
