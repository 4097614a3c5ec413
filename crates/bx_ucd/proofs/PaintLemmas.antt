-- Lemmas on one block written in a list of blocks.
use Rattle.std.proofs.Common.{◌≡◌, ◌≢◌, ◌<◌, ◌/◌, ◌%◌, ◌*◌, ℕ, List, length, set, replicate, take, ◌++◌, refl, ap, arith, get_or-set_other, get_or-set_same}
use Rattle.std.proofs.lemmas.List.{get_or-replicate, take_at}
use Rattle.bx_ucd.specs.Blocks.{class_in, class_at}
use Rattle.bx_ucd.specs.declared.class.Class.{Class}
use Rattle.bx_ucd.specs.declared.blocks.Block.{Block}

-- a code of the block that is written
pub class_at_written : (blocks : List Block) (b : ℕ) (new : Block) (code : ℕ) → b < length blocks → code / 256 ≡ b
    → class_at (set blocks b new) code ≡ class_in new (code % 256)
class_at_written blocks b new code within here = rw (here, get_or-set_same) refl

-- a code of another block
pub class_at_kept : (blocks : List Block) (b : ℕ) (new : Block) (code : ℕ) → code / 256 ≢ b → class_at (set blocks b new) code ≡ class_at blocks code
class_at_kept blocks b new code elsewhere = rw get_or-set_other refl

-- blocks that are all the same
pub class_at_same_blocks : (blocks : List Block) (n : ℕ) (block : Block) (class : Class) (code : ℕ) → blocks ≡ replicate n block → code < 256 * n
    → ((i : ℕ) → class_in block i ≡ class) → class_at blocks code ≡ class
class_at_same_blocks blocks n block class code same inside all =
    let within : code / 256 < n = omega arith in
    rw (same, get_or-replicate n (code / 256) block _ within) (all (code % 256))

-- blocks that were written whole
pub class_at_refilled : (blocks rest : List Block) (n : ℕ) (code : ℕ) → length blocks ≡ n → class_at (take n (blocks ++ rest)) code ≡ class_at blocks code
class_at_refilled blocks rest n code long = ap (λ bs. class_at bs code) (take_at blocks rest n long)
