-- The units from `i` on are still to be set.
use Rattle.std.proofs.Common.{◌≡◌, ◌-◌, length}
use Rattle.bx_rows.specs.LevelReads.{settled}
use Rattle.bx_rows.proofs.level_read.settle.Given as goal

abbrev pub invariant-loop-i : goal.invariant-loop-i
invariant-loop-i l = record {
  levels : settled l.paragraph l.i l.found.items ≡ settled l.paragraph l.fn.waiting l.fn.found.items;
  count : length l.found.items ≡ length l.fn.found.items;
}

abbrev pub decreases-loop-i : goal.decreases-loop-i
decreases-loop-i l = length l.found.items - l.i
