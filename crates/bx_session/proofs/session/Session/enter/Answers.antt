use Rattle.bx_ucd.specs.Data.{Data}
use Rattle.bx_session.specs.Session.{StoreState, store_state}
use Rattle.bx_session.proofs.Bytes.{entered_is, entered_store, stores_none}
use Rattle.bx_session.proofs.session.Session.enter.Goals as goal

pub returns-in_err-store_and_apply-in-Some-clause-untouched : goal.returns-in_err-store_and_apply-in-Some-clause-untouched
returns-in_err-store_and_apply-in-Some-clause-untouched g c none =
    c.in_err-store_and_apply-in-Some.ensures.untouched
    (stores_none c.args.self.now.session c.args.key c.counted-counts.result c.in-Some.pressed c.counted-counts.ensures.key c.in-Some.is none)

pub returns-in_ok-store_and_apply-in-Some-clause-untouched : goal.returns-in_ok-store_and_apply-in-Some-clause-untouched
returns-in_ok-store_and_apply-in-Some-clause-untouched g c none =
    c.in_ok-store_and_apply-in-Some.ensures.untouched
    (stores_none c.args.self.now.session c.args.key c.counted-counts.result c.in-Some.pressed c.counted-counts.ensures.key c.in-Some.is none)

pub returns-in_ok-store_and_apply-in-Some-clause-after_press : goal.returns-in_ok-store_and_apply-in-Some-clause-after_press
returns-in_ok-store_and_apply-in-Some-clause-after_press g c =
    let ucd : g.row.D.Denot → Data = g.D.BidiData.data in
    let old = c.args.self.now in
    let before : StoreState = store_state g.S.Store.contents g.S.Store.faults c.args.store.now in
    let after : StoreState = store_state g.S.Store.contents g.S.Store.faults c.store_and_apply.new.store in
    let h = c.in_ok-store_and_apply-in-Some.ensures.pressed in (
      h.0,
      entered_store (ucd old.tables) h.0 old.session before after c.args.key c.counted-counts.result c.in-Some.pressed c.counted-counts.ensures.key
          c.in-Some.is h.1,
      entered_is ucd h.0 old c.store_and_apply.new.self c.args.key c.counted-counts.result c.in-Some.pressed c.counted-counts.ensures.key c.in-Some.is h.2,
    )
