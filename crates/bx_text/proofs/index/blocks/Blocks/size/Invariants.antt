-- The blocks counted so far.
use Rattle.std.proofs.Common.{◌≡◌, take, length}
use Rattle.bx_text.specs.index.Paragraphs.{total}
use Rattle.bx_text.specs.index.Flat.{flat}
use Rattle.bx_text.proofs.index.blocks.Blocks.size.Given as goal

abbrev pub invariant-loop-block : goal.invariant-loop-block
invariant-loop-block l = record {
  count : l.count ≡ length (flat (take l.block-index l.block-items));
  bytes : l.bytes ≡ total (flat (take l.block-index l.block-items));
}
