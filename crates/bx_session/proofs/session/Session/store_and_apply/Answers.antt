use Rattle.std.proofs.Common.{◌∙◌}
use Rattle.std.proofs.lemmas.Result.{on_ok_weaker}
use Rattle.bx_ucd.specs.Data.{Data}
use Rattle.bx_session.specs.Session.{StoreState, store_state, text_to_save}
use Rattle.bx_session.specs.Feeding.{SessionState}
use Rattle.bx_session.proofs.Bytes.{press_stored}
use Rattle.bx_session.proofs.Ending.{both_refused, pressed_is, refused_is, same_stores, same_text, stores_ready}
use Rattle.bx_session.proofs.KeyKinds.{stores}
use Rattle.bx_session.proofs.session.Session.store_and_apply.Goals as goal

pub returns-clause-pressed : goal.returns-clause-pressed
returns-clause-pressed g c =
    let ucd : g.row.D.Denot → Data = g.D.BidiData.data in
    let old : SessionState g.row.D.Denot = c.args.self.now in
    let mid : SessionState g.row.D.Denot = c.get_ready_for.new.self in
    let before : StoreState = store_state g.S.Store.contents g.S.Store.faults c.args.store.now in
    let after : StoreState = store_state g.S.Store.contents g.S.Store.faults c.store_for-fault.new.store in
    let ready = c.in_ok-get_ready_for.ensures.ok in
    let fault = c.store_for-fault.result in
    let key = c.args.key in (
      fault,
      press_stored c.apply.result (stores mid.session.editor key) (stores old.session.editor key) fault mid.session.editor.content.text
          (text_to_save (ucd old.tables) old.session.editor) before after (same_stores ucd old mid key ready) (same_text ucd old mid key ready)
          (λ h. c.apply.ensures.stores h (stores_ready mid.session.editor key c.in_ok-get_ready_for.ensures.none h)) c.store_for-fault.ensures.stored,
      on_ok_weaker c.apply.result (λ pressed. pressed_is ucd fault old mid c.apply.new.self key ready pressed) c.apply.ensures.after_key,
    )

pub returns-clause-err : goal.returns-clause-err
returns-clause-err g c =
    let ucd : g.row.D.Denot → Data = g.D.BidiData.data in
    both_refused c.apply.result
    (λ may same. (refused_is ucd c.args.self.now c.get_ready_for.new.self c.apply.new.self c.args.key c.in_ok-get_ready_for.ensures.ok
    c.in_ok-get_ready_for.ensures.none may same).0) c.apply.ensures.edits c.apply.ensures.err

pub returns-clause-edits : goal.returns-clause-edits
returns-clause-edits g c =
    let ucd : g.row.D.Denot → Data = g.D.BidiData.data in
    both_refused c.apply.result
    (λ may same. (refused_is ucd c.args.self.now c.get_ready_for.new.self c.apply.new.self c.args.key c.in_ok-get_ready_for.ensures.ok
    c.in_ok-get_ready_for.ensures.none may same).1) c.apply.ensures.edits c.apply.ensures.err

pub returns-clause-untouched : goal.returns-clause-untouched
returns-clause-untouched g c none =
    let ucd : g.row.D.Denot → Data = g.D.BidiData.data in
    c.store_for-fault.ensures.untouched (same_stores ucd c.args.self.now c.get_ready_for.new.self c.args.key c.in_ok-get_ready_for.ensures.ok ∙ none)
