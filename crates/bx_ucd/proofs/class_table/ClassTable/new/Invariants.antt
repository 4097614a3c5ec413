use Rattle.std.proofs.Common.{◌≡◌, ℕ, ◌<◌, ◌≤◌, [], slice_index_or}
use Rattle.std.specs.Prelude.{vec_len}
use Rattle.bx_ucd.specs.Blocks.{class_in, empty_block}
use Rattle.bx_ucd.specs.declared.class.Class.TheVariants.{L}
use Rattle.bx_ucd.proofs.class_table.ClassTable.new.Given as goal

abbrev pub invariant-loop-block : goal.invariant-loop-block
invariant-loop-block l = record {
  len : vec_len l.numbers ≡ l.block-index;
  few : vec_len l.stored ≤ l.block-index;
  in_range : (k : ℕ) → k < l.block-index → slice_index_or l.numbers.items k 0 < vec_len l.stored;
  same : (k i : ℕ) → k < l.block-index → i < 256 → slice_index_or (slice_index_or l.stored.items (slice_index_or l.numbers.items k 0) []) i L
      ≡ class_in (slice_index_or l.blocks k empty_block) i;
}
