-- The result on the rest of the stack, which shrinks.
use Rattle.std.proofs.Common.{◌≡◌, length}
use Rattle.bx_levels.specs.embedding.Stack.{after_isolate}
use Rattle.bx_levels.proofs.embedding.stack.EntryStack.end_isolate.Given as goal

abbrev pub invariant-loop-entry : goal.invariant-loop-entry
invariant-loop-entry l = after_isolate l.fn.self ≡ after_isolate l.self

abbrev pub decreases-loop-entry : goal.decreases-loop-entry
decreases-loop-entry l = length l.self
