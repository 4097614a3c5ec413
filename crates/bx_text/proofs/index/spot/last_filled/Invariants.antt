-- The blocks between have no paragraph.
use Rattle.std.proofs.Common.{◌≡◌, ◌≤◌, take, length}
use Rattle.bx_text.specs.index.Flat.{flat}
use Rattle.bx_text.proofs.index.spot.last_filled.Given as goal

abbrev pub invariant-loop-at : goal.invariant-loop-at
invariant-loop-at l = record {
  inside : l.at ≤ length l.blocks.blocks;
  none_between : length (flat (take l.at l.blocks.blocks)) ≡ length (flat (take l.to l.blocks.blocks));
}

abbrev pub decreases-loop-at : goal.decreases-loop-at
decreases-loop-at l = l.at
