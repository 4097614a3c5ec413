-- What always holds of a block of paragraphs.
use Rattle.std.specs.Prelude.{◌≡◌, ◌≤◌, vec_len, vec_capacity}
use Rattle.bx_text.specs.declared.index.block.Block.TheInside.{Inside}
use Rattle.bx_text.specs.index.Capacity.{block_capacity}
use Rattle.bx_text.specs.index.Paragraphs.{total}

-- a block stores its length in bytes, and has memory for all paragraphs that it may have
pub record IsBlock (b : Inside) : Type 0 where
  pub bytes : b.bytes ≡ total b.lengths.items
  pub few : vec_len b.lengths ≤ block_capacity
  pub room : block_capacity ≤ vec_capacity b.lengths
