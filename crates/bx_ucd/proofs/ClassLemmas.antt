-- Lemmas on lists of classes.
use Rattle.std.proofs.Common.{◌≡◌, ◌≢◌, ◌<◌, ◌≤◌, ◌+◌, ℕ, length, set, refl, None, ◌∙◌, arith, below_more, get_or-set_other, get_or-set_same}
use Rattle.bx_ucd.specs.Blocks.{class_in}
use Rattle.bx_ucd.specs.declared.class.Class.{Class}
use Rattle.bx_ucd.specs.declared.blocks.Block.{Block}

-- a block with one class per code has the written class at the written index
pub class_in_written : (block : Block) (i : ℕ) (class : Class) → block.whole ≡ None → i < length block.each
    → class_in (record block { each = set block.each i class }) i ≡ class
class_in_written block i class own lt = rw (own, get_or-set_same) refl

-- and keeps its classes at the other indexes
pub class_in_kept : (block : Block) (i k : ℕ) (class : Class) → block.whole ≡ None → k ≢ i
    → class_in (record block { each = set block.each i class }) k ≡ class_in block k
class_in_kept block i k class own ne = rw (own, get_or-set_other) refl

-- one more index has the class
pub class_in_more : (block : Block) (low i : ℕ) (class : Class) → block.whole ≡ None → i < length block.each
    → ((k : ℕ) → low ≤ k → k < i → class_in block k ≡ class) → (k : ℕ) → low ≤ k → k < i + 1
    → class_in (record block { each = set block.each i class }) k ≡ class
class_in_more block low i class own within before k ge lt =
    below_more (λ k. low ≤ k → class_in (record block { each = set block.each i class }) k ≡ class) i
    (λ k lt ge. class_in_kept block i k class own (omega arith) ∙ before k ge lt)
    (λ ge. class_in_written block i class own within)
    k lt ge
