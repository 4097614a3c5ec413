use Rattle.std.specs.List.{zip}
use Rattle.bx_ucd.specs.Data.{Data}
use Rattle.bx_session.specs.Session.{store_state}
use Rattle.bx_world.proofs.Brought.{follows}
use Rattle.bx_world.proofs.Opened.{headline}
use Rattle.bx_world.proofs.Schedules.{schedule_shows}
use Rattle.bx_world.proofs.Sights.{sees_promised}
use Rattle.bx_world.proofs.world.World.play.Goals as goal

pub returns-clause-headline : goal.returns-clause-headline
returns-clause-headline g c =
    let ucd : g.row.D.Denot → Data = g.D.BidiData.data in
    headline ucd c.args.self.now.tables c.play_into.new.self.tables c.args.self.now.world c.play_into.new.self.world
    (store_state g.S.Store.contents g.S.Store.faults c.args.store.now) (store_state g.S.Store.contents g.S.Store.faults c.play_into.new.store)
    (zip c.args.steps.now c.play_into.new.answers.items) c.play_into.ensures.tables c.play_into.ensures.plays c.keep_up-2.ensures.in_step

pub returns-clause-follows : goal.returns-clause-follows
returns-clause-follows g c = follows _ c.args.self.now.world c.play_into.new.self.world _ _ _ c.play_into.ensures.plays

pub returns-clause-seen : goal.returns-clause-seen
returns-clause-seen g c = sees_promised _ c.args.self.now.world c.play_into.new.self.world _ _ _ c.keep_up.ensures.in_step c.play_into.ensures.plays

pub returns-clause-shows : goal.returns-clause-shows
returns-clause-shows g c =
    let ucd : g.row.D.Denot → Data = g.D.BidiData.data in
    schedule_shows ucd c.args.self.now.tables c.play_into.new.self.tables c.args.self.now.world c.play_into.new.self.world
    (store_state g.S.Store.contents g.S.Store.faults c.args.store.now) (store_state g.S.Store.contents g.S.Store.faults c.play_into.new.store)
    (zip c.args.steps.now c.play_into.new.answers.items) c.play_into.ensures.tables c.play_into.ensures.plays c.keep_up-2.ensures.in_step
