use Rattle.std.proofs.Common.{◌≡◌, ap, sym, ◌∙◌}
use Rattle.std.specs.Prelude.{if◌then◌else◌}
use Rattle.std.proofs.lemmas.Bool.{eq-eqb}
use Rattle.bx_editor.specs.questions.Names.{coded, is_code_letter}
use Rattle.bx_editor.specs.Asking.{after_code, answer_lengthened, longest_code, without_prompt}
use Rattle.bx_editor.specs.Editor.{Editor, cleared}
use Rattle.bx_editor.specs.Functions.{EditorState}
use Rattle.bx_editor.proofs.QuestionLeft.{code-left}
use Rattle.bx_editor.proofs.editor.Editor.answer_code.Goals as goal

pub returns-then-letter-eq10-clause-ok : goal.returns-then-letter-eq10-clause-ok
returns-then-letter-eq10-clause-ok g c =
    let now : EditorState g.row.D.Denot = c.args.self.now in
    let d = g.D.BidiData.data now.tables in
    let e : Editor = cleared now.editor in
    let state : Editor → EditorState g.row.D.Denot = λ x. record { tables = now.tables; editor = x } in
    let other : Editor = if is_code_letter c.args.letter then answer_lengthened d longest_code e c.args.letter else e in
    let ended = eq-eqb c.args.letter 0xA c.if-letter-eq10.true in
    c.leave_question.ensures
    ∙ ap (λ (s : EditorState g.row.D.Denot). (let left : EditorState g.row.D.Denot = record s { editor = without_prompt s.editor } in left)) c.in_ok-put_coded.ensures.ok
    ∙ ap state (sym (code-left d e (coded e.answer)))
    ∙ ap (λ b. state (if b then after_code d (without_prompt e) (coded e.answer) else other)) (sym ended)
