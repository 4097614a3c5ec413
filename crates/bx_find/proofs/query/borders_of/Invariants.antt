-- The borders so far.
use Rattle.std.proofs.Common.{◌≡◌, ◌<◌, ℕ, get_or, length}
use Rattle.bx_find.specs.Borders.{IsBorder}
use Rattle.bx_find.proofs.query.borders_of.Given as goal

abbrev pub invariant-loop-end : goal.invariant-loop-end
invariant-loop-end l = record {
  count : length l.borders.items ≡ l.end;
  borders : (k : ℕ) → 0 < k → k < l.end → IsBorder l.letters k (get_or l.borders.items k 0);
}
