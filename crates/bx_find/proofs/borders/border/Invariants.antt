-- No longer beginning is an end.
use Rattle.std.proofs.Common.{ℕ, ◌<◌}
use Rattle.bx_find.specs.Borders.{Ends}
use Rattle.bx_find.proofs.borders.border.Given as goal

abbrev pub invariant-loop-count : goal.invariant-loop-count
invariant-loop-count l = record { below : l.count < l.end; greatest : (i : ℕ) → l.count < i → i < l.end → ¬ (Ends l.letters l.end i) }

abbrev pub decreases-loop-count : goal.decreases-loop-count
decreases-loop-count l = l.count
