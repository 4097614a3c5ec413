-- The blocks before this one, which end at the offset or before it.
use Rattle.std.proofs.Common.{◌≡◌, ◌≤◌, take, length}
use Rattle.bx_text.specs.index.Paragraphs.{total}
use Rattle.bx_text.specs.index.Flat.{flat}
use Rattle.bx_text.proofs.index.blocks.Blocks.find.Given as goal

abbrev pub invariant-loop-block : goal.invariant-loop-block
invariant-loop-block l = record {
  number : l.number ≡ length (flat (take l.block-index l.block-items));
  start : l.start ≡ total (flat (take l.block-index l.block-items));
  start_before : l.start ≤ l.offset;
}
