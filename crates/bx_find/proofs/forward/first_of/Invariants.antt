-- The matches from the next letter on are the same.
use Rattle.std.proofs.Common.{◌≡◌, ◌<◌, ◌++◌, List, length, drop}
use Rattle.bx_find.specs.Prefix.{Placed, placed_first, matches_after}
use Rattle.bx_find.proofs.forward.first_of.Given as goal

abbrev pub invariant-loop-letter : goal.invariant-loop-letter
invariant-loop-letter l = record {
  fewer : length l.prefix < length l.query;
  found : (ps : List Placed) → matches_after l.query l.initial.prefix (placed_first l.initial.place l.letters ++ ps)
      ≡ matches_after l.query l.prefix (placed_first l.place (drop l.letter-index l.letters) ++ ps);
}
