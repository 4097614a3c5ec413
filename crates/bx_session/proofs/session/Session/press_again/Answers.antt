use Rattle.std.proofs.Common.{rules, ◌≡◌, ◌∙◌, Err, IsErrOf, sym, ap, subst}
use Rattle.bx_ucd.specs.Data.{Data}
use Rattle.bx_session.specs.declared.status.Refused.{Refused}
use Rattle.bx_session.specs.declared.status.Refused.TheVariants.{Paint}
use Rattle.bx_session.specs.Session.{with_painting_owed}
use Rattle.bx_session.specs.Feeding.{SessionState}
use Rattle.bx_session.proofs.Ending.{again_is, unmoved_is}
use Rattle.bx_session.proofs.session.Session.press_again.Goals as goal

pub returns-in-Ok-clause-after_press : goal.returns-in-Ok-clause-after_press
returns-in-Ok-clause-after_press g c =
    let ucd : g.row.D.Denot → Data = g.D.BidiData.data in
    ap (λ (x : SessionState g.row.D.Denot). record x { session = with_painting_owed x.session }) c.self.view_is
    ∙ again_is ucd c.args.self.now c.apply_counted.new.self c.args.key c.counted-counts.result c.counted-counts.ensures.key c.in-Ok.ensures.after_key

pub returns-in-Err-Paint-clause-unmoved : goal.returns-in-Err-Paint-clause-unmoved
returns-in-Err-Paint-clause-unmoved g c h =
    let ucd : g.row.D.Denot → Data = g.D.BidiData.data in
    let is : c.in-Err-Paint.field-0 ≡ Paint = search rules in
    let same : IsErrOf {T = Unit {0}} (Err c.in-Err-Paint.field-0) Paint = subst (λ (r : Refused). IsErrOf {T = Unit {0}} (Err r) Paint) (sym is) h in
    ap (λ (x : SessionState g.row.D.Denot). record x { session = with_painting_owed x.session }) c.self.view_is
    ∙ unmoved_is ucd c.args.self.now c.apply_counted.new.self c.args.key c.counted-counts.result c.counted-counts.ensures.key (c.in-Err-Paint.ensures.unmoved same)
