use Rattle.std.proofs.Common.{◌≡◌, ◌++◌, drop}
use Rattle.bx_text.proofs.copying.copies.Given as goal

abbrev pub invariant-loop-step : goal.invariant-loop-step
invariant-loop-step l = l.steps ≡ l.copied.items ++ drop l.step-index l.steps
