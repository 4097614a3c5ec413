-- The levels written so far, and those left to write.
use Rattle.std.proofs.Common.{◌≡◌, drop, length}
use Rattle.bx_levels.specs.resolve.Levels.{with_levels}
use Rattle.bx_levels.proofs.resolve.at_indexes.write_levels.Given as goal

abbrev pub invariant-loop-i : goal.invariant-loop-i
invariant-loop-i l = record {
  as_long : length l.each.items ≡ length l.fn.each.items;
  written : with_levels l.indexes l.levels l.fn.each.items ≡ with_levels (drop l.i l.indexes) (drop l.i l.levels) l.each.items;
}
