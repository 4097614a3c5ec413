-- No closer is noted.
use Rattle.std.proofs.Common.{replicate, None}
use Rattle.bx_levels.proofs.brackets_lemmas.Missed.{missed_none, none_noted}
use Rattle.bx_levels.proofs.brackets.open_stack.OpenStack.new.Goals as goal

pub invariant_of-result : goal.invariant_of-result
invariant_of-result c = missed_none (replicate 31 None) _ (none_noted 31)
