-- Classes kept in blocks of 256 codes (`BLOCK_SIZE` of src/blocks.rt).
use Rattle.std.specs.Prelude.{ℕ, ◌/◌, ◌%◌, List, slice_index_or, [], Some, None}
use Rattle.bx_ucd.specs.declared.class.Class.{Class}
use Rattle.bx_ucd.specs.declared.class.Class.TheVariants.{L}
use Rattle.bx_ucd.specs.declared.blocks.Block.{Block}

-- the class at an index of a block
abbrev pub class_in : Block → ℕ → Class
class_in block index = elim block.whole [ None ↦ slice_index_or block.each index L | (Some class) ↦ class ]

-- what is read where no block has the number
abbrev pub empty_block : Block
empty_block = record { whole = None; each = [] }

-- the class of a code
abbrev pub class_at : List Block → ℕ → Class
class_at blocks code = class_in (slice_index_or blocks (code / 256) empty_block) (code % 256)
