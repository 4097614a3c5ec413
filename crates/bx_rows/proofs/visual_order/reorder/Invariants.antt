use Rattle.std.proofs.Common.{◌≡◌, ◌<◌, get_or, length}
use Rattle.std.specs.List.{enumerate_from}
use Rattle.bx_rows.specs.RowLevels.{highest, lowest_odd, reversals_from}
use Rattle.bx_rows.proofs.ReversedItems.{IsAtLevel}
use Rattle.bx_rows.proofs.visual_order.reorder.Given as goal

abbrev pub invariant-loop-level : goal.invariant-loop-level
invariant-loop-level g l = record {
  some : 0 < l.low;
  count : length l.items ≡ length l.initial.items;
  order : (d : g.row.T.Denot) → IsAtLevel (λ u. get_or l.initial.items u.0 d) l.items l.levels l.low l.level
      (reversals_from (lowest_odd l.levels) (highest l.levels) (enumerate_from 0 l.levels));
}

abbrev pub decreases-loop-level : goal.decreases-loop-level
decreases-loop-level g l = l.level
