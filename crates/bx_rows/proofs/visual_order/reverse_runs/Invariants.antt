use Rattle.std.proofs.Common.{◌≡◌, ◌≤◌, ℕ, List, length, map}
use Rattle.bx_rows.specs.ReversedRuns.{AgreeUpTo}
use Rattle.bx_rows.proofs.ReversedItems.{IsUnderWay}
use Rattle.bx_rows.proofs.visual_order.reverse_runs.Given as goal

abbrev pub invariant-loop-i : goal.invariant-loop-i
invariant-loop-i g l = record {
  order : l.start ≤ l.i;
  count : length l.items ≡ length l.initial.items;
  runs : (f : ℕ → g.row.T.Denot) (us : List (ℕ × ℕ)) → AgreeUpTo l.level l.levels us → l.initial.items ≡ map (λ u. f u.0) us
      → IsUnderWay (λ u. f u.0) l.items l.level l.start l.i us;
}
