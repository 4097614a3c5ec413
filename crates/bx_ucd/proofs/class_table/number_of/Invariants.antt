use Rattle.std.proofs.Common.{◌≢◌, ℕ, ◌<◌, [], slice_index_or}
use Rattle.bx_ucd.proofs.class_table.number_of.Given as goal

abbrev pub invariant-loop-number : goal.invariant-loop-number
invariant-loop-number l = (k : ℕ) → k < l.number → slice_index_or l.block-items k [] ≢ l.classes
