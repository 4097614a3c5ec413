-- The unit from `at` to `stop` is reached, and begins at the offset or before it.
use Rattle.std.proofs.Common.{◌≡◌, ◌-◌, ◌≤◌, ◌<◌, ◌∷◌, true, drop, length}
use Rattle.std.specs.Str.{IsCharBoundary}
use Rattle.unicode_segmentation.specs.Grapheme.{graphemes}
use Rattle.bx_view.specs.Numbers.{boundaries}
use Rattle.bx_view.proofs.UnitsAround.{IsReached}
use Rattle.bx_view.proofs.moves.stretch.unit_around.Given as goal

abbrev pub invariant-loop-stop : goal.invariant-loop-stop
invariant-loop-stop g l = record {
  low : l.at ≤ l.fn.offset;
  later : l.at < l.stop;
  bound : IsCharBoundary l.paragraph.body l.stop;
  reached : IsReached l.paragraph.body l.at;
  next : boundaries l.at (graphemes true (drop l.at l.paragraph.body)) ≡ l.at ∷ boundaries l.stop (graphemes true (drop l.stop l.paragraph.body));
}

abbrev pub decreases-loop-stop : goal.decreases-loop-stop
decreases-loop-stop g l = length l.paragraph.body - l.stop
