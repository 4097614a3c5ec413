use Rattle.std.proofs.Common.{◌≡◌, ◌≤◌, drop, length}
use Rattle.std.specs.Prelude.{unwrap_or}
use Rattle.bx_rows.specs.RowLevels.{lowest_odd}
use Rattle.bx_rows.proofs.visual_order.lowest_odd.Given as goal

abbrev pub invariant-loop-i : goal.invariant-loop-i
invariant-loop-i l = record { within : l.i ≤ length l.levels; fits : l.lowest ≤ 255; lowest : l.lowest ≡ unwrap_or (lowest_odd (drop l.i l.levels)) 255 }

abbrev pub decreases-loop-i : goal.decreases-loop-i
decreases-loop-i l = l.i
