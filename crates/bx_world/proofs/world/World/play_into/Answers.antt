use Rattle.std.proofs.Common.{◌∙◌}
use Rattle.std.proofs.lemmas.List.{take_more}
use Rattle.bx_ucd.specs.Data.{Data}
use Rattle.bx_session.specs.Session.{store_state}
use Rattle.bx_world.proofs.Schedules.{one_played}
use Rattle.bx_world.proofs.world.World.play_into.Goals as goal

pub loop-step-preserved : goal.loop-step-preserved
loop-step-preserved g c =
    let ucd : g.row.D.Denot → Data = g.D.BidiData.data in
    let h = c.loop-step.invariant in (
      one_played ucd c.args.self.now.tables c.loop-step.self.tables c.args.self.now.world c.loop-step.self.world c.step.new.self.world
          (store_state g.S.Store.contents g.S.Store.faults c.args.store.now) (store_state g.S.Store.contents g.S.Store.faults c.loop-step.store)
          (store_state g.S.Store.contents g.S.Store.faults c.step.new.store) c.args.steps.now c.loop-step.step-index _ c.loop-step.answers.items
          c.push_reserved.new.self.items c.step.result h.1 h.0 (take_more c.args.steps.now c.loop-step.step-index _ c.loop-step-test.true)
          c.step.ensures.steps c.push_reserved.ensures.items,
      c.step.ensures.tables ∙ h.1,
      c.push_reserved.ensures.capacity ∙ h.2,
    )
