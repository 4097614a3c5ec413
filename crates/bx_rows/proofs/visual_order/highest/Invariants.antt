use Rattle.std.proofs.Common.{◌≡◌, ◌≤◌, drop, length}
use Rattle.bx_rows.specs.RowLevels.{highest}
use Rattle.bx_rows.proofs.visual_order.highest.Given as goal

abbrev pub invariant-loop-i : goal.invariant-loop-i
invariant-loop-i l = record { within : l.i ≤ length l.levels; top : l.top ≡ highest (drop l.i l.levels) }

abbrev pub decreases-loop-i : goal.decreases-loop-i
decreases-loop-i l = l.i
