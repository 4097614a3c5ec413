use Rattle.std.proofs.Common.{◌≡◌, ◌≤◌}
use Rattle.bx_text.proofs.pieces.spares.Spares.fill.Given as goal

abbrev pub invariant-loop-made : goal.invariant-loop-made
invariant-loop-made l = (l.self ≡ l._made) × (l.initial.self ≤ l.self)
