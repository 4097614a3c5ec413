use Rattle.std.proofs.Common.{◌≡◌, ◌∙◌, true, ap, string_bytes, subst, sym}
use Rattle.bx_view.specs.Places.{IsTextPlace}
use Rattle.bx_editor.specs.declared.questions.answers.Prompt.TheVariants as prompts
use Rattle.bx_editor.specs.declared.search_state.SearchState.{SearchState}
use Rattle.bx_editor.specs.Functions.{EditorState}
use Rattle.bx_editor.specs.InputLines.{StandsInLine}
use Rattle.bx_editor.specs.Origin.{BeganAt, StandsAt, is_queried}
use Rattle.bx_editor.proofs.InLine.{place-in-query, stands-in-query}
use Rattle.bx_editor.proofs.ShownMatch.{began-moved, queried-moved}
use Rattle.bx_editor.proofs.editor.Editor.move_in_query.Goals as goal

pub invariant_of-self : goal.invariant_of-self
invariant_of-self g c =
    let i = c.self.inside in
    let d = g.D.BidiData.data i.document.tables in
    let text = i.document.document.content.text in
    let query = string_bytes i.query in
    let other = string_bytes i.replacement in
    let answer = string_bytes i.answer in
    let cursor = c.in_ok-cursor.cursor in
    let kept = c.self.invariant in
    let prompt : i.prompt ≡ prompts.Off = ap (λ (s : EditorState g.row.D.Denot). s.editor.prompt) c.self.view_is ∙ c.requires.prompt in
    let on : is_queried i.cursor.search_state ≡ true =
    ap (λ (s : EditorState g.row.D.Denot). is_queried s.editor.search_state) c.self.view_is ∙ c.requires.queried in
    let was = place-in-query d query other answer i.input_cursor i.prompt i.cursor.search_state prompt on kept.7 in
    let place = subst (λ q. IsTextPlace d q cursor) c.as_str.ensures.value
    (c.in_ok-cursor.ensures.text_place (subst (λ q. IsTextPlace d q i.input_cursor) (sym c.as_str.ensures.value) was)) in
    let all = subst (λ (s : SearchState). StandsInLine d i.prompt s query other answer cursor × BeganAt d text s i.origin
    × StandsAt d i.purpose query text s i.at i.count) (sym c.as_typed-self-inside.ensures) (
      stands-in-query d query other answer cursor i.prompt i.cursor.search_state prompt on place,
      began-moved d text i.cursor.search_state i.origin kept.9,
      queried-moved d i.purpose query text i.cursor.search_state i.at i.count on,
    ) in
    (kept.0, kept.1, kept.2, kept.3, kept.4, kept.5, kept.6, all.0, kept.8, all.1, all.2)
