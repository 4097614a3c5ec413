-- Paragraphs in blocks, and positions among the blocks: a position is the number of blocks before it.
use Rattle.std.specs.Prelude.{◌≡◌, ◌<◌, ◌≤◌, ℕ, ◌+◌, ◌-◌, ◌*◌, ◌==◌, List, [], ◌∷◌, ◌++◌, length, take, get_or, if◌then◌else◌, MatchOption}
use Rattle.bx_text.specs.declared.index.lengths.Lengths.{Lengths}
use Rattle.bx_text.specs.declared.index.paragraph_span.ParagraphSpan.{ParagraphSpan}
use Rattle.bx_text.specs.index.Capacity.{block_capacity}
use Rattle.bx_text.specs.index.Paragraphs.{total}

-- the paragraphs of all blocks
abbrev pub flat : List (List Lengths) → List Lengths
flat [] = []
flat (b ∷ bs) = b ++ flat bs

-- blocks, and the number of spare blocks
pub record BlocksState : Type 0 where
  pub blocks : List (List Lengths)
  pub spares : ℕ

-- the number of paragraphs for which the block before a position has room
abbrev pub free_before : List (List Lengths) → ℕ → ℕ
free_before bs at = if at == 0 then 0 else block_capacity - length (get_or bs (at - 1) [])

-- the number of paragraphs that can be inserted at a position among the blocks without an allocation
abbrev pub room_at : BlocksState → ℕ → ℕ
room_at s at = free_before s.blocks at + block_capacity * s.spares

-- the length of a paragraph's separator in bytes, 0 if there are fewer paragraphs
abbrev pub separator_of : List Lengths → ℕ → ℕ
separator_of ps n = (get_or ps n (record { body = 0; separator = 0 })).separator

-- the span of the paragraph that an offset falls in: it is one of `ps`, those in blocks, and ends past the offset; or it is
-- the text's last, which is not in a block
pub record IsSpanAround (ps : List Lengths) (offset : ℕ) (p : ParagraphSpan) : Type 0 where
  pub number : p.number ≤ length ps
  pub start : p.start ≡ total (take p.number ps)
  pub start_before : p.start ≤ offset
  pub end_is : MatchOption p.end (p.number ≡ length ps) (λ e. (p.number < length ps) × (e ≡ total (take (p.number + 1) ps)) × (offset < e))
  pub separator_is : p.separator ≡ separator_of ps p.number
