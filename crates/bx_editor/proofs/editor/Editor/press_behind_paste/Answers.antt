use Rattle.std.proofs.Common.{◌≡◌, ℕ, List, None, Some, ap, sym, subst, string_bytes, ◌∙◌}
use Rattle.std.specs.Prelude.{OnOk, Option, option_map}
use Rattle.bx_ucd.specs.Data.{Data}
use Rattle.bx_document.specs.Document.{DocumentState}
use Rattle.bx_editor.specs.Editor.{Editor}
use Rattle.bx_editor.specs.Functions.{EditorState}
use Rattle.bx_editor.specs.Keys.{after_user}
use Rattle.bx_editor.specs.Status.{IsDrawn}
use Rattle.bx_editor.specs.Putting.{ended_with, paste_ended, with_pasted}
use Rattle.bx_editor.proofs.Pasted.{none-ended}
use Rattle.bx_editor.proofs.Refused.{all-restored, with_document}
use Rattle.bx_editor.proofs.Viewed.{holds_of, value}
use Rattle.bx_editor.proofs.editor.Editor.press_behind_paste.Goals as goal

pub invariant_of-self-in-Err : goal.invariant_of-self-in-Err
invariant_of-self-in-Err g c =
    let i = c.self.inside in
    let j = c.self-2.inside in
    let kept = c.self.invariant in
    let restored =
    all-restored g.D.BidiData i j _ _ _ _ c.restore.ensures c.in_ok-document.ensures.text c.self-2.view_is c.in-Err.ensures.err c.in-Err.ensures.tables in
    let tables : j.document.tables ≡ c.restore.new.self.tables = sym (ap (λ (t : DocumentState g.row.D.Denot). t.tables) c.restore.ensures) in
    let name = option_map string_bytes j.name in
    let drawn : IsDrawn (g.D.BidiData.data c.restore.new.self.tables) name j.drawn_name =
    subst (λ t. IsDrawn (g.D.BidiData.data t) name j.drawn_name) tables c.self-2.invariant.8 in
    let drawn_before = subst (λ (s : EditorState g.row.D.Denot). IsDrawn (g.D.BidiData.data s.tables) s.editor.name j.drawn_name) restored drawn in
    subst (holds_of g.D.BidiData j.drawn_name) (sym restored)
    (kept.0, kept.1, kept.2, kept.3, kept.4, kept.5, kept.6, kept.7, drawn_before, kept.9, kept.10)

pub returns-in-Err-clause-err : goal.returns-in-Err-clause-err
returns-in-Err-clause-err g c =
    let i = c.self.inside in
    let taken : i.pasted ≡ Some c.in-Some.list = sym c.take.ensures.value ∙ c.in-Some.is in
    let with : List ℕ → Option (List ℕ) → EditorState g.row.D.Denot = λ runs pasted. (let s = with_document g.D.BidiData i c.self-2.inside c.restore.new.self in
    record s { editor = record s.editor { undo_groups = runs; pasted = pasted } }) in
    ap (λ runs. with runs (Some (string_bytes c.in-Some.list))) c.in_ok-runs.ensures
    ∙ ap (λ pasted. with i.past.undo_groups.numbers (option_map string_bytes pasted)) (sym taken)
    ∙ all-restored g.D.BidiData i c.self-2.inside _ _ _ _ c.restore.ensures c.in_ok-document.ensures.text c.self-2.view_is c.in-Err.ensures.err
    c.in-Err.ensures.tables
    ∙ c.self.view_is

pub returns-in-Ok-clause-ok : goal.returns-in-Ok-clause-ok
returns-in-Ok-clause-ok g c =
    let was : EditorState g.row.D.Denot = value g.D.BidiData c.self.inside in
    let d : Data = g.D.BidiData.data was.tables in
    let e : Editor = was.editor in
    let taken = sym c.take.ensures.value ∙ c.in-Some.is in
    c.in-Ok.ensures.ok
    ∙ ap (λ list. after_user d c.args.fault (with_pasted d e list) c.args.key) c.as_str.ensures.value
    ∙ ap (λ pasted. after_user d c.args.fault (ended_with d e (option_map string_bytes pasted)) c.args.key) (sym taken)
    ∙ ap (λ (s : EditorState g.row.D.Denot). after_user (g.D.BidiData.data s.tables) c.args.fault (paste_ended (g.D.BidiData.data s.tables) s.editor) c.args.key)
    c.self.view_is

pub returns-in_default-clause-ok : goal.returns-in_default-clause-ok
returns-in_default-clause-ok g c =
    let i = c.self.inside in
    let was : EditorState g.row.D.Denot = value g.D.BidiData i in
    let none : was.editor.pasted ≡ None = ap (option_map string_bytes) (sym c.take.ensures.value ∙ c.in_default.is) in
    let left : option_map string_bytes c.take.new.self ≡ None = ap (option_map string_bytes) c.take.ensures.after in
    let ended : EditorState g.row.D.Denot → EditorState g.row.D.Denot = λ s. record s { editor = paste_ended (g.D.BidiData.data s.tables) s.editor } in
    subst (λ (s : EditorState g.row.D.Denot). OnOk c.press_key.result
    (c.press_key.new.self.editor ≡ after_user (g.D.BidiData.data s.tables) c.args.fault s.editor c.args.key))
    (ap (λ (x : Editor). (let s : EditorState g.row.D.Denot = record was { editor = x } in s))
    (none-ended (g.D.BidiData.data was.tables) was.editor (option_map string_bytes c.take.new.self) none left)
    ∙ ap ended c.self.view_is) c.press_key.ensures.ok
