use Rattle.std.proofs.Common.{◌≡◌, List, ℕ, Option, subst, ap, ◌∙◌}
use Rattle.std.specs.Prelude.{◌&&◌}
use Rattle.bx_keys.specs.Keys.{head_of, rest_after}
use Rattle.bx_store.specs.declared.store.StoreFault.{StoreFault}
use Rattle.bx_ucd.specs.Data.{Data}
use Rattle.bx_session.specs.Session.{StoreAfter, is_save_press, store_state, text_to_save}
use Rattle.bx_world.specs.Answers.{mark_after}
use Rattle.bx_world.specs.World.{is_applied, AfterByteStep, World, press_of}
use Rattle.bx_world.specs.Showing.{WorldState}
use Rattle.bx_world.proofs.Calls.{byte_call, byte_steps, value_of}
use Rattle.bx_world.proofs.world.World.type_byte.Goals as goal

pub invariant_of-self : goal.invariant_of-self
invariant_of-self g c =
    let ucd : g.row.D.Denot → Data = g.D.BidiData.data in
    let w : World = value_of c.self.inside in
    byte_call ucd c.self.inside.session.tables c.press-answer.new.self.tables w c.press-answer.new.self.session c.feed-key.new.self
    (store_state g.S.Store.contents g.S.Store.faults c.args.store.now) (store_state g.S.Store.contents g.S.Store.faults c.press-answer.new.store)
    c.feed-key.result c.press-answer.result c.mark_after.new.told c.press-answer.ensures.tables
    (c.mark_after.ensures ∙ ap (λ after. mark_after c.self.inside.told after c.press-answer.result) c.is_told_after-told.ensures)
    c.self.invariant c.press-answer.ensures.after_press c.press-answer.ensures.paints

pub returns-clause-step : goal.returns-clause-step
returns-clause-step g c =
    let ucd : g.row.D.Denot → Data = g.D.BidiData.data in
    let w : World = value_of c.self.inside in
    let waits : c.feed-key.new.self ≡ head_of (rest_after w.rest c.args.byte) =
    (c.feed-key.ensures.rest c.self.inside.decoder c.feed-key.ensures.own).is_head in
    subst (λ (x : WorldState g.row.D.Denot). (fault : Option StoreFault)
    × StoreAfter (is_applied c.answer_of.result && is_save_press x.world.session (press_of x.world c.args.byte)) fault
    (text_to_save (ucd x.tables) x.world.session.editor)
    (store_state g.S.Store.contents g.S.Store.faults c.args.store.now) (store_state g.S.Store.contents g.S.Store.faults c.press-answer.new.store)
    × AfterByteStep (ucd x.tables) fault x.world c.args.byte c.answer_of.result
    (record w { session = c.press-answer.new.self.session; rest = c.feed-key.new.self; told = c.mark_after.new.told })) c.self.view_is
    (byte_steps (ucd c.self.inside.session.tables) w c.press-answer.new.self.session c.feed-key.new.self
    (store_state g.S.Store.contents g.S.Store.faults c.args.store.now) (store_state g.S.Store.contents g.S.Store.faults c.press-answer.new.store)
    c.args.byte c.feed-key.result c.press-answer.result c.answer_of.result c.mark_after.new.told waits
    (c.feed-key.ensures.key c.self.inside.decoder c.feed-key.ensures.own) c.answer_of.ensures
    (c.mark_after.ensures ∙ ap (λ after. mark_after c.self.inside.told after c.press-answer.result) c.is_told_after-told.ensures)
    c.press-answer.ensures.after_press)
