-- No opener from index `k` on waits for the closer.
use Rattle.std.proofs.Common.{◌≡◌, ◌≤◌, take, reverse, length}
use Rattle.std.specs.Prelude.{find}
use Rattle.bx_levels.specs.brackets.Search.{is_for, below_first}
use Rattle.bx_levels.proofs.brackets.open_stack.last_for.Given as goal

abbrev pub invariant-loop-k : goal.invariant-loop-k
invariant-loop-k l = record {
  within : l.k ≤ length l.openers;
  found : find (is_for l.closer) (reverse l.openers) ≡ find (is_for l.closer) (reverse (take l.k l.openers));
  left : below_first (is_for l.closer) (reverse l.openers) ≡ below_first (is_for l.closer) (reverse (take l.k l.openers));
}

abbrev pub decreases-loop-k : goal.decreases-loop-k
decreases-loop-k l = l.k
