use Rattle.std.proofs.Common.{◌≡◌}
use Rattle.std.specs.Prelude.{vec_capacity}
use Rattle.bx_session.specs.Session.{store_state}
use Rattle.bx_world.proofs.Schedules.{Played}
use Rattle.bx_world.proofs.world.World.play_into.Given as goal

abbrev pub invariant-loop-step : goal.invariant-loop-step
invariant-loop-step g l =
    Played (g.D.BidiData.data l.initial.self.tables) l.initial.self.world (store_state g.S.Store.contents g.S.Store.faults l.initial.store) l.steps l.step-index l.self.world
    (store_state g.S.Store.contents g.S.Store.faults l.store) l.answers.items
    × (l.self.tables ≡ l.initial.self.tables)
    × (vec_capacity l.answers ≡ vec_capacity l.initial.answers)
