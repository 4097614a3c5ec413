use Rattle.std.proofs.Common.{arith}
use Rattle.bx_text.specs.Steps.{Turning}
use Rattle.bx_text.proofs.TurnedTimes.{IsReady, can_turn, one_turned}
use Rattle.bx_text.proofs.turns.turn_times.Goals as goal
use Rattle.bx_text.proofs.turns.turn_times.Goals.{In-loop-turn}

ready : (c : In-loop-turn) → IsReady (record { pieces = c.loop-turn.pieces; from = c.loop-turn.from.items; to = c.loop-turn.to.items })
ready c =
    let s = c.requires.sound in
    let now : Turning = record { pieces = c.loop-turn.pieces; from = c.loop-turn.from.items; to = c.loop-turn.to.items } in
    can_turn s.buffers now (c.loop-turn.invariant.0 s.buffers s.turning).sound s.opened_in_memory s.added_in_memory

pub turn-requires-clause-fits : goal.turn-requires-clause-fits
turn-requires-clause-fits c = (ready (goal.at.turn-requires-clause-fits c).In-loop-turn).fits

pub turn-requires-clause-small : goal.turn-requires-clause-small
turn-requires-clause-small c = (ready (goal.at.turn-requires-clause-small c).In-loop-turn).small

pub loop-turn-preserved : goal.loop-turn-preserved
loop-turn-preserved c =
    let l = c.loop-turn in
    let old : Turning = record { pieces = c.args.pieces.now; from = c.args.from.now.items; to = c.args.to.now.items } in
    let now : Turning = record { pieces = l.pieces; from = l.from.items; to = l.to.items } in
    let r = c.turn.new in
    let new : Turning = record { pieces = r.pieces; from = r.from.items; to = r.to.items } in (
      (λ b sound. one_turned b l._turn old now new (l.invariant.0 b sound) c.turn.ensures.turned),
      omega (arith, l.invariant.1, c.turn.ensures.spares),
      omega (arith, l.invariant.2, c.turn.ensures.one_more, c.turn.ensures.capacity),
    )
