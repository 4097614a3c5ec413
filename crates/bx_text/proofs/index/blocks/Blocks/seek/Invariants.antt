-- The blocks before this one stand before the paragraph.
use Rattle.std.proofs.Common.{◌≡◌, ◌+◌, take, length}
use Rattle.bx_text.specs.index.Flat.{flat}
use Rattle.bx_text.proofs.index.blocks.Blocks.seek.Given as goal

abbrev pub invariant-loop-i : goal.invariant-loop-i
invariant-loop-i l = l.number ≡ length (flat (take l.i l.block-items)) + l.left
