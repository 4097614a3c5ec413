use Rattle.std.proofs.Common.{rules, ◌≡◌, ◌∙◌, Err, Result, sym, ap, subst}
use Rattle.std.specs.Prelude.{◌&&◌}
use Rattle.bx_ucd.specs.Data.{Data}
use Rattle.bx_session.specs.declared.status.Refused.{Refused}
use Rattle.bx_session.specs.declared.status.Refused.TheVariants.{Paint}
use Rattle.bx_session.specs.declared.status.Status.{Status}
use Rattle.bx_session.specs.Session.{Session, StoreAfter, is_save_press, store_state, text_to_save}
use Rattle.bx_session.specs.Feeding.{is_applied, SessionState}
use Rattle.bx_session.proofs.Bytes.{after_press_is, press_appends, press_paints, not_idle, owing_is, quiet_is, refused_with, unpainted_pending}
use Rattle.bx_session.proofs.session.Session.press.Goals as goal

pub returns-clause-after_press : goal.returns-clause-after_press
returns-clause-after_press g c =
    let ucd : g.row.D.Denot → Data = g.D.BidiData.data in
    let h = c.in_ok-prompts.ensures.after_press in (
      h.0,
      h.1,
      (
        after_press_is ucd h.0 c.args.self.now c.enter.new.self c.paint_after.new.self c.in_ok-prompts.scroll c.args.key c.in_ok-prompts.counts
            (sym c.in_ok-prompts.ensures.prompts ∙ c.if-not-prompts.false) c.in_ok-prompts.ensures.scroll c.in_ok-prompts.ensures.key h.2
            c.in_ok-paint_after.ensures.ok,
        c.status-2.ensures,
      ),
    )

pub returns-then-not-prompts-clause-after_press : goal.returns-then-not-prompts-clause-after_press
returns-then-not-prompts-clause-after_press g c =
    let ucd : g.row.D.Denot → Data = g.D.BidiData.data in
    let h = c.in_ok-prompts.ensures.after_press in (
      h.0,
      h.1,
      (
        quiet_is ucd h.0 c.args.self.now c.enter.new.self c.args.key (sym c.in_ok-prompts.ensures.prompts ∙ c.if-not-prompts.true) h.2,
        c.status.ensures,
      ),
    )

pub returns-clause-paints : goal.returns-clause-paints
returns-clause-paints g c prompts =
    let ucd : g.row.D.Denot → Data = g.D.BidiData.data in
    let h = c.in_ok-prompts.ensures.after_press in
    press_paints ucd h.0 c.args.self.now c.enter.new.self c.paint_after.new.self.session c.args.key h.2 c.in_ok-paint_after.ensures.paints

pub returns-clause-appends : goal.returns-clause-appends
returns-clause-appends g c prompts =
    let ucd : g.row.D.Denot → Data = g.D.BidiData.data in
    let h = c.in_ok-prompts.ensures.after_press in
    press_appends ucd h.0 c.args.self.now c.enter.new.self c.paint_after.new.self.session c.args.key h.2 c.in_ok-paint_after.ensures.appends

pub returns-then-not-prompts-clause-quiet : goal.returns-then-not-prompts-clause-quiet
returns-then-not-prompts-clause-quiet g c none =
    let ucd : g.row.D.Denot → Data = g.D.BidiData.data in
    let h = c.in_ok-prompts.ensures.after_press in
    ap (λ (x : SessionState g.row.D.Denot). x.session.pending) h.2
    ∙ unpainted_pending (ucd c.args.self.now.tables) h.0 c.args.self.now.session c.args.key

pub returns-in_err-paint_after-clause-after_press : goal.returns-in_err-paint_after-clause-after_press
returns-in_err-paint_after-clause-after_press g c =
    let ucd : g.row.D.Denot → Data = g.D.BidiData.data in
    let h = c.in_ok-prompts.ensures.after_press in
    let s = c.args.self.now in
    let is : c.from_residual-in_err-paint_after.result ≡ Err Paint = search rules in (
      h.0,
      subst (λ (r : Result Status Refused). StoreAfter (is_applied r && is_save_press s.session c.args.key) h.0 (text_to_save (ucd s.tables) s.session.editor)
          (store_state g.S.Store.contents g.S.Store.faults c.args.store.now) (store_state g.S.Store.contents g.S.Store.faults c.enter.new.store)) (sym is) h.1,
      owing_is ucd h.0 s c.enter.new.self c.paint_after.new.self c.args.key c.from_residual-in_err-paint_after.result
          (sym c.in_ok-prompts.ensures.prompts ∙ c.if-not-prompts.false) h.2 c.in_err-paint_after.ensures.err is,
    )

pub returns-in_err-paint_after-clause-refused : goal.returns-in_err-paint_after-clause-refused
returns-in_err-paint_after-clause-refused g c =
    let ucd : g.row.D.Denot → Data = g.D.BidiData.data in
    let s = c.args.self.now in
    let h = c.in_ok-prompts.ensures.after_press in
    refused_with c.from_residual-in_err-paint_after.result
    (ap (λ (x : Session). x.pending) c.in_err-paint_after.ensures.err
    ∙ ap (λ (x : SessionState g.row.D.Denot). x.session.pending) h.2
    ∙ unpainted_pending (ucd s.tables) h.0 s.session c.args.key)

pub returns-in_err-paint_after-clause-idle : goal.returns-in_err-paint_after-clause-idle
returns-in_err-paint_after-clause-idle g c idle =
    absurd (not_idle c.args.self.now.session c.args.key (sym c.in_ok-prompts.ensures.prompts ∙ c.if-not-prompts.false) idle)

pub returns-in_err-paint_after-clause-unchanged : goal.returns-in_err-paint_after-clause-unchanged
returns-in_err-paint_after-clause-unchanged g c idle =
    absurd (not_idle c.args.self.now.session c.args.key (sym c.in_ok-prompts.ensures.prompts ∙ c.if-not-prompts.false) idle)

pub returns-clause-unchanged : goal.returns-clause-unchanged
returns-clause-unchanged g c idle =
    absurd (not_idle c.args.self.now.session c.args.key (sym c.in_ok-prompts.ensures.prompts ∙ c.if-not-prompts.false) idle)
