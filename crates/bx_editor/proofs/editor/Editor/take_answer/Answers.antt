use Rattle.std.proofs.Common.{◌≡◌, ◌≤◌, ◌∙◌, true, ap, chars, length, string_bytes, subst, sym}
use Rattle.bx_view.specs.Places.{IsTextPlace}
use Rattle.bx_editor.specs.Answers.{limit_of}
use Rattle.bx_editor.specs.Functions.{EditorState}
use Rattle.bx_editor.specs.InputLines.{takes_line}
use Rattle.bx_editor.specs.LineState.{LineState}
use Rattle.bx_editor.proofs.AnswersKept.{stands-in-answer}
use Rattle.bx_editor.proofs.editor.Editor.take_answer.Goals as goal

pub invariant_of-self : goal.invariant_of-self
invariant_of-self g c =
    let i = c.self.inside in
    let l = c.line.inside in
    let kept = c.self.invariant in
    let d = g.D.BidiData.data i.document.tables in
    let asked : takes_line i.prompt ≡ true = ap (λ (s : EditorState g.row.D.Denot). takes_line s.editor.prompt) c.self.view_is ∙ c.requires.asked in
    let few = subst (λ (s : EditorState g.row.D.Denot). length (chars (string_bytes l.text)) ≤ limit_of s.editor.prompt) (sym c.self.view_is)
    (subst (λ (x : LineState). length (chars x.text) ≤ limit_of c.args.self.now.editor.prompt) (sym c.line.view_is) c.requires.few) in
    let place = subst (λ (s : EditorState g.row.D.Denot). IsTextPlace (g.D.BidiData.data s.tables) (string_bytes l.text) l.cursor) (sym c.self.view_is)
    (subst (λ (x : LineState). IsTextPlace (g.D.BidiData.data c.args.self.now.tables) x.text x.cursor) (sym c.line.view_is) c.requires.place) in (
      kept.0,
      kept.1,
      kept.2,
      kept.3,
      kept.4,
      kept.5,
      few,
      stands-in-answer d i.prompt i.cursor.search_state (string_bytes i.query) (string_bytes i.replacement) (string_bytes l.text) l.cursor asked place,
      kept.8,
      kept.9,
      kept.10,
    )
