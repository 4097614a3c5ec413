-- What always holds of a text's blocks.
use Rattle.std.specs.Prelude.{◌<◌, ◌≤◌, ◌^◌, ◌+◌, length, vec_len, vec_capacity}
use Rattle.bx_text.specs.declared.index.blocks.Blocks.TheInside.{Inside}
use Rattle.bx_text.specs.index.Paragraphs.{total}
use Rattle.bx_text.specs.index.Flat.{flat, BlocksState}

-- the value of a `Blocks` of the code
abbrev pub blocks_of : Inside → BlocksState
blocks_of b = record { blocks = b.blocks.items; spares = vec_len b.spares }

-- bytes and paragraphs are counted by `usize`, and the list of blocks has memory for all spare ones
pub record AreBlocks (b : Inside) : Type 0 where
  pub short : total (flat b.blocks.items) < 2 ^ 64
  pub few : length (flat b.blocks.items) < 2 ^ 64
  pub room : vec_len b.blocks + vec_len b.spares ≤ vec_capacity b.blocks
