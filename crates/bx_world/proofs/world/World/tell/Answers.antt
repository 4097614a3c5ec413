use Rattle.bx_ucd.specs.Data.{Data}
use Rattle.std.proofs.Common.{subst, ap, ◌∙◌}
use Rattle.bx_world.specs.Answers.{mark_after}
use Rattle.bx_world.specs.World.{AfterToldStep, World}
use Rattle.bx_world.specs.Showing.{WorldState}
use Rattle.bx_world.proofs.Calls.{told_call, told_steps, value_of}
use Rattle.bx_world.proofs.world.World.tell.Goals as goal

pub invariant_of-self : goal.invariant_of-self
invariant_of-self g c =
    let ucd : g.row.D.Denot → Data = g.D.BidiData.data in
    let w : World = value_of c.self.inside in
    told_call ucd c.self.inside.session.tables c.set_window_size-answer.new.self.tables w c.set_window_size-answer.new.self.session c.args.height c.args.width c.set_window_size-answer.result
    c.mark_after.new.told c.set_window_size-answer.ensures.tables
    (c.mark_after.ensures ∙ ap (λ after. mark_after c.self.inside.told after c.set_window_size-answer.result) c.is_window-told.ensures)
    c.self.invariant c.set_window_size-answer.ensures.resized c.set_window_size-answer.ensures.paints

pub returns-clause-step : goal.returns-clause-step
returns-clause-step g c =
    let ucd : g.row.D.Denot → Data = g.D.BidiData.data in
    let w : World = value_of c.self.inside in
    subst (λ (x : WorldState g.row.D.Denot). AfterToldStep (ucd x.tables) x.world c.args.height c.args.width c.answer_of.result
    (record w { session = c.set_window_size-answer.new.self.session; told = c.mark_after.new.told })) c.self.view_is
    (told_steps (ucd c.self.inside.session.tables) w c.set_window_size-answer.new.self.session c.args.height c.args.width c.set_window_size-answer.result c.answer_of.result
    c.mark_after.new.told c.answer_of.ensures
    (c.mark_after.ensures ∙ ap (λ after. mark_after c.self.inside.told after c.set_window_size-answer.result) c.is_window-told.ensures) c.set_window_size-answer.ensures.resized)
