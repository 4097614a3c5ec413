-- The capacity of a block, in paragraphs.
use Rattle.std.specs.Prelude.{ℕ}

-- an edit moves about one block, and a search for a paragraph reads the sums of all blocks: a text of 200,000 paragraphs has
-- some 400 blocks of 4 KB
abbrev pub block_capacity : ℕ
block_capacity = 512
