-- The last match is the same from the next letter on.
use Rattle.std.proofs.Common.{◌≡◌, ◌<◌, ◌++◌, List, length, drop}
use Rattle.bx_find.specs.Prefix.{Placed, placed_first, matches_after}
use Rattle.bx_find.specs.Matches.{last_below}
use Rattle.bx_find.proofs.backward.last_of.Given as goal

abbrev pub invariant-loop-letter : goal.invariant-loop-letter
invariant-loop-letter l = record {
  fewer : length l.prefix < length l.query;
  before : l.latest.before ≡ l.initial.latest.before;
  found : (ps : List Placed)
      → last_below l.initial.latest.before l.initial.latest.found
      (matches_after l.query l.initial.prefix (placed_first l.initial.place l.letters ++ ps))
      ≡ last_below l.initial.latest.before l.latest.found
      (matches_after l.query l.prefix (placed_first l.place (drop l.letter-index l.letters) ++ ps));
}
