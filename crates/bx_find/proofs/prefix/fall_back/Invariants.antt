-- The shorter prefix finds the same.
use Rattle.std.proofs.Common.{◌≡◌, ◌<◌, ◌∷◌, ℕ, List, length, Option}
use Rattle.bx_find.specs.Prefix.{Placed, matches_after}
use Rattle.bx_find.proofs.prefix.fall_back.Given as goal

abbrev pub invariant-loop-prefix : goal.invariant-loop-prefix
invariant-loop-prefix l = record {
  fewer : length l.prefix < length l.query;
  found : (place : Option ℕ) (ps : List Placed)
      → matches_after l.query l.initial.prefix ((place, l.letter) ∷ ps) ≡ matches_after l.query l.prefix ((place, l.letter) ∷ ps);
}

abbrev pub decreases-loop-prefix : goal.decreases-loop-prefix
decreases-loop-prefix l = length l.prefix
