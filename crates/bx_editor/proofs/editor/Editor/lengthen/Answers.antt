use Rattle.std.proofs.Common.{◌≡◌, ◌∙◌, true, ap, string_bytes, subst, sym}
use Rattle.bx_view.specs.Places.{IsTextPlace}
use Rattle.bx_editor.specs.Functions.{EditorState}
use Rattle.bx_editor.specs.InputLines.{takes_line}
use Rattle.bx_editor.specs.LineState.{LineState}
use Rattle.bx_editor.proofs.AnswersKept.{place-in-answer}
use Rattle.bx_editor.proofs.editor.Editor.lengthen.Goals as goal

pub insert-requires-clause-place : goal.insert-requires-clause-place
insert-requires-clause-place g c =
    let i = c.self.inside in
    let d = g.D.BidiData.data i.document.tables in
    let asked : takes_line i.prompt ≡ true = ap (λ (s : EditorState g.row.D.Denot). takes_line s.editor.prompt) c.self.view_is ∙ c.requires.line in
    let place = place-in-answer d i.prompt i.cursor.search_state (string_bytes i.query) (string_bytes i.replacement) (string_bytes i.answer) i.input_cursor asked
    c.self.invariant.7 in
    subst (λ (x : LineState). IsTextPlace d x.text x.cursor) (sym c.in_ok-line.ensures)
    (subst (λ t. IsTextPlace d t i.input_cursor) (sym c.as_str.ensures.value) place)
