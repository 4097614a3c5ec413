use Rattle.std.proofs.Common.{◌≡◌, ◌≤◌, ◌∙◌, true, ap, chars, length, string_bytes, subst, sym}
use Rattle.bx_view.specs.Places.{IsTextPlace}
use Rattle.bx_editor.specs.declared.questions.answers.Prompt.TheVariants as prompts
use Rattle.bx_editor.specs.declared.search_state.SearchState.TheVariants.{WithTyped}
use Rattle.bx_editor.specs.Functions.{EditorState}
use Rattle.bx_editor.specs.LineState.{LineState}
use Rattle.bx_editor.specs.Origin.{asks_replacement}
use Rattle.bx_editor.proofs.InLine.{stands-off}
use Rattle.bx_editor.proofs.ShownMatch.{asked, asked-began}
use Rattle.bx_editor.proofs.editor.Editor.take_replacement.Goals as goal

pub invariant_of-self : goal.invariant_of-self
invariant_of-self g c =
    let i = c.self.inside in
    let d = g.D.BidiData.data i.document.tables in
    let text = i.document.document.content.text in
    let query = string_bytes i.query in
    let line = c.line.inside in
    let kept = c.self.invariant in
    let prompt : i.prompt ≡ prompts.Off = ap (λ (s : EditorState g.row.D.Denot). s.editor.prompt) c.self.view_is ∙ c.requires.prompt in
    let on : asks_replacement i.cursor.search_state ≡ true =
    ap (λ (s : EditorState g.row.D.Denot). asks_replacement s.editor.search_state) c.self.view_is ∙ c.requires.asked in
    let few = subst (λ (l : LineState). length (chars l.text) ≤ 64) (sym c.line.view_is) c.requires.few in
    let place = subst (λ (l : LineState). IsTextPlace d l.text l.cursor) (sym c.line.view_is)
    (subst (λ (s : EditorState g.row.D.Denot). IsTextPlace (g.D.BidiData.data s.tables) c.args.line.text c.args.line.cursor) (sym c.self.view_is)
    c.requires.place) in (
      kept.0,
      kept.1,
      kept.2,
      kept.3,
      kept.4,
      few,
      kept.6,
      stands-off d query (string_bytes line.text) (string_bytes i.answer) line.cursor i.prompt WithTyped prompt place,
      kept.8,
      asked-began d text i.cursor.search_state i.origin on kept.9,
      asked d i.purpose query text i.cursor.search_state i.at i.count on kept.10,
    )
