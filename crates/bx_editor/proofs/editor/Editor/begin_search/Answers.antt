use Rattle.std.proofs.Common.{◌≡◌, ◌∙◌, ℕ, List, ap, length, string_bytes, subst, sym}
use Rattle.std.proofs.lemmas.Str.{IsUtf8-string_bytes}
use Rattle.bx_view.specs.Places.{IsTextPlace}
use Rattle.bx_editor.specs.declared.questions.answers.Prompt.TheVariants as prompts
use Rattle.bx_editor.specs.declared.search_state.SearchState.TheVariants.{Begun}
use Rattle.bx_editor.specs.Functions.{EditorState}
use Rattle.bx_editor.proofs.InLine.{end-is-text-place, stands-off}
use Rattle.bx_editor.proofs.editor.Editor.begin_search.Goals as goal

pub invariant_of-self : goal.invariant_of-self
invariant_of-self g c =
    let i = c.self.inside in
    let d = g.D.BidiData.data i.document.tables in
    let query = string_bytes i.query in
    let kept = c.self.invariant in
    let prompt : i.prompt ≡ prompts.Off = ap (λ (s : EditorState g.row.D.Denot). s.editor.prompt) (c.self.view_is ∙ c.unselect.ensures) ∙ c.requires.prompt in
    let end = subst (λ (q : List ℕ). IsTextPlace d query (length q)) (sym c.as_str.ensures.value) (end-is-text-place d query (IsUtf8-string_bytes i.query)) in
    let line = stands-off d query (string_bytes i.replacement) (string_bytes i.answer) (length c.as_str.result.now) i.prompt Begun prompt end in
    (kept.0, kept.1, kept.2, kept.3, kept.4, kept.5, kept.6, line, kept.8, kept.0, tt)
