use Rattle.std.proofs.Common.{◌≡◌, ap, subst, ◌∙◌}
use Rattle.std.specs.Prelude.{OnOk}
use Rattle.std.proofs.lemmas.Result.{on_err_weaker}
use Rattle.bx_ucd.specs.Data.{Data}
use Rattle.bx_editor.specs.Functions.{EditorState, as_before}
use Rattle.bx_editor.specs.Keys.{after_user}
use Rattle.bx_editor.proofs.Pasted.{taken-back}
use Rattle.bx_editor.proofs.editor.Editor.put_and_press.Goals as goal

pub returns-clause-ok : goal.returns-clause-ok
returns-clause-ok g c =
    subst (λ (s : EditorState g.row.D.Denot). OnOk c.press_key.result
    (c.press_key.new.self.editor ≡ after_user (g.D.BidiData.data s.tables) c.args.fault s.editor c.args.key))
    c.in_ok-put_pasted.ensures.ok c.press_key.ensures.ok

pub returns-clause-err : goal.returns-clause-err
returns-clause-err g c =
    let now : EditorState g.row.D.Denot = c.args.self.now in
    let d : Data = g.D.BidiData.data now.tables in
    on_err_weaker c.press_key.result
    (λ same. ap (λ (s : EditorState g.row.D.Denot). as_before now.editor s.editor) (same ∙ c.in_ok-put_pasted.ensures.ok)
    ∙ taken-back d now.editor c.args.list.now) c.press_key.ensures.err
