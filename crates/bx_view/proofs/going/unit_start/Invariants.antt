-- The units that are left begin at the offset reached.
use Rattle.std.proofs.Common.{◌≡◌, ◌+◌, true, drop, get_or, length}
use Rattle.std.specs.Str.{IsCharBoundary}
use Rattle.unicode_segmentation.specs.Grapheme.{graphemes}
use Rattle.bx_view.specs.Numbers.{unit_place, boundaries}
use Rattle.bx_view.proofs.going.unit_start.Given as goal

abbrev pub invariant-loop-left : goal.invariant-loop-left
invariant-loop-left l = record {
  bound : IsCharBoundary l.body l.at;
  same : unit_place 0 l.body l.number ≡ get_or (boundaries l.at (graphemes true (drop l.at l.body))) l.left (0 + length l.body);
}

abbrev pub decreases-loop-left : goal.decreases-loop-left
decreases-loop-left l = l.left
