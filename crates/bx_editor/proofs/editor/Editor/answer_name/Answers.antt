use Rattle.std.proofs.Common.{◌≡◌, ap, Some, sym, ◌∙◌}
use Rattle.bx_editor.specs.questions.Names.{closing, named}
use Rattle.bx_editor.specs.Asking.{after_name_letter, without_prompt}
use Rattle.bx_editor.specs.Editor.{Editor, cleared}
use Rattle.bx_editor.specs.Functions.{EditorState}
use Rattle.bx_editor.proofs.QuestionLeft.{named-left}
use Rattle.bx_editor.proofs.editor.Editor.answer_name.Goals as goal

pub returns-in-Some-clause-ok : goal.returns-in-Some-clause-ok
returns-in-Some-clause-ok g c =
    let now : EditorState g.row.D.Denot = c.args.self.now in
    let d = g.D.BidiData.data now.tables in
    let e : Editor = cleared now.editor in
    let letter = c.args.letter in
    let state : Editor → EditorState g.row.D.Denot = λ x. record { tables = now.tables; editor = x } in
    let is : named letter ≡ Some c.in-Some.c = sym c.named.ensures ∙ c.in-Some.is in
    c.leave_question.ensures
    ∙ ap (λ (s : EditorState g.row.D.Denot). (let left : EditorState g.row.D.Denot = record s { editor = without_prompt s.editor } in left)) c.in_ok-put_named.ensures.ok
    ∙ ap state (sym (named-left d e c.in-Some.c (closing letter)))
    ∙ ap (λ o. state (after_name_letter d e letter o)) (sym is)
