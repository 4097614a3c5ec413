-- The row is `above` rows above `at`, and not above the old top unless it is `at` itself.
use Rattle.std.proofs.Common.{ℕ, ◌-◌, ◌<◌, ◌≤◌}
use Rattle.bx_view.specs.TextRef.{BeginsAt, IsAlong, Keeps, Stands, StandsOn}
use Rattle.bx_view.proofs.view.View.top_above.Given as goal

abbrev pub invariant-loop-above : goal.invariant-loop-above
invariant-loop-above g l = record {
  keeps : Keeps l.text_ref l.initial.self l.self;
  few : l.above < l.t;
  row : Stands l.text_ref l.self l.here;
  along : IsAlong l.text_ref l.walk l.here;
  within : (n : ℕ) → StandsOn l.text_ref l.initial.self l.fn.at n → l.above ≤ n;
  stands : (n : ℕ) → StandsOn l.text_ref l.initial.self l.fn.at n → StandsOn l.text_ref l.self l.here (n - l.above);
  behind : (n k : ℕ) → StandsOn l.text_ref l.initial.self l.fn.at n → BeginsAt l.text_ref l.initial.self k l.fn.old → 0 < l.above → k ≤ n - l.above;
}

abbrev pub decreases-loop-above : goal.decreases-loop-above
decreases-loop-above g l = l.t - l.above
