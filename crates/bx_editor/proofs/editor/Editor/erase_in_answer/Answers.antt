use Rattle.std.proofs.Common.{◌≡◌, ◌∙◌, true, ap, length, rules, string_bytes, subst, sym}
use Rattle.bx_view.specs.Places.{IsTextPlace}
use Rattle.bx_editor.specs.Functions.{EditorState}
use Rattle.bx_editor.specs.InputLines.{takes_line}
use Rattle.bx_editor.specs.LineState.{LineState}
use Rattle.bx_editor.proofs.AnswersKept.{empty-name, place-in-answer}
use Rattle.bx_editor.proofs.editor.Editor.erase_in_answer.Goals as goal

pub invariant_of-self : goal.invariant_of-self
invariant_of-self g c =
    let i = c.self.inside in
    let kept = c.self.invariant in
    let empty : length (string_bytes i.answer) ≡ 0 = search rules in
    (kept.0, kept.1, kept.2, kept.3, kept.4, kept.5, empty-name (string_bytes i.answer) empty, tt, kept.8, kept.9, kept.10)

pub erase-requires : goal.erase-requires
erase-requires g c =
    let i = c.self.inside in
    let d = g.D.BidiData.data i.document.tables in
    let asked : takes_line i.prompt ≡ true = ap (λ (s : EditorState g.row.D.Denot). takes_line s.editor.prompt) c.self.view_is ∙ c.requires.line in
    let place = place-in-answer d i.prompt i.cursor.search_state (string_bytes i.query) (string_bytes i.replacement) (string_bytes i.answer) i.input_cursor asked
    c.self.invariant.7 in
    record {
      place = subst (λ (x : LineState). IsTextPlace d x.text x.cursor) (sym c.in_ok-line.ensures)
          (subst (λ t. IsTextPlace d t i.input_cursor) (sym c.as_str.ensures.value) place);
    }
