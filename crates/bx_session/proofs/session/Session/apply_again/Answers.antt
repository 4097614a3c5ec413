use Rattle.std.proofs.Common.{◌≡◌, ◌∙◌, Option, true, false, sym, ap, subst}
use Rattle.std.specs.Prelude.{is_some}
use Rattle.std.proofs.lemmas.Result.{on_ok_weaker}
use Rattle.bx_ucd.specs.Data.{Data}
use Rattle.bx_editor.specs.Editor.{Editor}
use Rattle.bx_editor.specs.Saving.{Saving}
use Rattle.bx_session.specs.Feeding.{SessionState}
use Rattle.bx_session.proofs.Ending.{not_quit, other_is, some_of}
use Rattle.bx_session.proofs.KeyKinds.{stores}
use Rattle.bx_session.proofs.session.Session.apply_again.Goals.{in-Quit, in_default}
use Rattle.bx_session.proofs.session.Session.apply_again.Goals as goal

pub returns-clause-after_key : goal.returns-clause-after_key
returns-clause-after_key g c =
    let ucd : g.row.D.Denot → Data = g.D.BidiData.data in
    let same : c.self.inside.editor.editor ≡ c.args.self.now.session.editor = ap (λ (x : SessionState g.row.D.Denot). x.session.editor) c.self.view_is in
    let none : stores c.self.inside.editor.editor c.args.key ≡ false =
    sym (ap (λ (saving : Option Saving). is_some saving) c.saving_of.ensures)
    ∙ sym (some_of _ c.saving_of.result)
    ∙ sym c.is_some.ensures
    ∙ c.if-is_some.false in
    let stays : stores c.args.self.now.session.editor c.args.key ≡ false = subst (λ (e : Editor). stores e c.args.key ≡ false) same none in
    elim c.match-matches.branch [
      | in-Quit w ↦ let both : true ≡ false = sym w.matches-is ∙ c.if-matches.false in absurd (cc both)
      | in_default w ↦ on_ok_weaker c.apply.result
          (λ pressed. other_is ucd c.args.self.now c.apply.new.self c.args.key (not_quit c.args.key w.in_default.not-Quit) stays pressed) c.apply.ensures.after_key
    ]
