use Rattle.std.proofs.Common.{◌+◌, ◌*◌, ◌≤◌, vec_len, vec_capacity}
use Rattle.bx_text.specs.Steps.{HaveTurned}
use Rattle.bx_text.proofs.turns.turn_times.Given as goal

abbrev pub invariant-loop-turn : goal.invariant-loop-turn
invariant-loop-turn l =
    HaveTurned l._turn
    (record { pieces = l.initial.pieces; from = l.initial.from.items; to = l.initial.to.items })
    (record { pieces = l.pieces; from = l.from.items; to = l.to.items })
    × (2 * l.n ≤ l.spares + 2 * l._turn) × (vec_len l.to + l.n ≤ vec_capacity l.to + l._turn)
