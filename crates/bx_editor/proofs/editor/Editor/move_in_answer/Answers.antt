use Rattle.std.proofs.Common.{◌≡◌, ◌∙◌, true, ap, string_bytes, subst, sym}
use Rattle.bx_view.specs.Places.{IsTextPlace}
use Rattle.bx_editor.specs.Functions.{EditorState}
use Rattle.bx_editor.specs.InputLines.{takes_line}
use Rattle.bx_editor.specs.Origin.{BeganAt, StandsAt}
use Rattle.bx_editor.proofs.AnswersKept.{began-typed, place-in-answer, stands-in-answer, stands-typed}
use Rattle.bx_editor.proofs.editor.Editor.move_in_answer.Goals as goal

pub invariant_of-self : goal.invariant_of-self
invariant_of-self g c =
    let i = c.self.inside in
    let kept = c.self.invariant in
    let d = g.D.BidiData.data i.document.tables in
    let text = i.document.document.content.text in
    let query = string_bytes i.query in
    let other = string_bytes i.replacement in
    let answer = string_bytes i.answer in
    let search_state = i.cursor.search_state in
    let cursor = c.in_ok-cursor.cursor in
    let state = c.as_typed-search_state.ensures in
    let line = c.as_str.ensures.value in
    let asked : takes_line i.prompt ≡ true = ap (λ (s : EditorState g.row.D.Denot). takes_line s.editor.prompt) c.self.view_is ∙ c.requires.line in
    let before = place-in-answer d i.prompt search_state query other answer i.input_cursor asked kept.7 in
    let place = subst (λ t. IsTextPlace d t cursor) line (c.in_ok-cursor.ensures.text_place (subst (λ t. IsTextPlace d t i.input_cursor) (sym line) before)) in (
      kept.0,
      kept.1,
      kept.2,
      kept.3,
      kept.4,
      kept.5,
      kept.6,
      stands-in-answer d i.prompt c.as_typed-search_state.result query other answer cursor asked place,
      kept.8,
      subst (λ s. BeganAt d text s i.origin) (sym state) (began-typed d text search_state i.origin kept.9),
      subst (λ s. StandsAt d i.purpose query text s i.at i.count) (sym state) (stands-typed d i.purpose query text search_state i.at i.count kept.10),
    )
