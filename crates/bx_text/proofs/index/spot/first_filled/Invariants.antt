-- The blocks between have no paragraph.
use Rattle.std.proofs.Common.{◌≡◌, ◌≤◌, ◌-◌, take, length}
use Rattle.bx_text.specs.index.Flat.{flat}
use Rattle.bx_text.proofs.index.spot.first_filled.Given as goal

abbrev pub invariant-loop-lengths : goal.invariant-loop-lengths
invariant-loop-lengths l = record {
  inside : l.at ≤ length l.blocks.blocks;
  none_between : length (flat (take l.at l.blocks.blocks)) ≡ length (flat (take l.from l.blocks.blocks));
}

abbrev pub decreases-loop-lengths : goal.decreases-loop-lengths
decreases-loop-lengths l = length l.blocks.blocks - l.at
