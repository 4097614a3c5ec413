-- The row is `done` rows above `at`.
use Rattle.std.proofs.Common.{ℕ, ◌-◌, ◌≤◌}
use Rattle.bx_view.specs.TextRef.{IsAlong, Keeps, Stands, StandsOn}
use Rattle.bx_view.proofs.moves.by_rows.rows_up.Given as goal

abbrev pub invariant-loop-done : goal.invariant-loop-done
invariant-loop-done g l = record {
  keeps : Keeps l.text_ref l.initial.view l.view;
  within : l.done ≤ l.count;
  row : Stands l.text_ref l.view l.here;
  along : IsAlong l.text_ref l.walk l.here;
  stands : (n : ℕ) → StandsOn l.text_ref l.initial.view l.fn.at n → StandsOn l.text_ref l.view l.here (n - l.done);
}

abbrev pub decreases-loop-done : goal.decreases-loop-done
decreases-loop-done g l = l.count - l.done
