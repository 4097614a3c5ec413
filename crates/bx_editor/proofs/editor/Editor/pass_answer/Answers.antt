use Rattle.std.proofs.Common.{◌≡◌, ◌∙◌, ap, subst, sym, string_bytes}
use Rattle.bx_ucd.specs.Data.{Data}
use Rattle.bx_editor.specs.declared.questions.answers.Prompt.TheVariants as prompts
use Rattle.bx_editor.specs.declared.search_state.SearchState.TheVariants as search_states
use Rattle.bx_editor.specs.Functions.{EditorState}
use Rattle.bx_editor.specs.InputLines.{StandsInLine}
use Rattle.bx_editor.proofs.AnswersKept.{empty-answer}
use Rattle.bx_editor.proofs.editor.Editor.pass_answer.Goals as goal

pub invariant_of-self : goal.invariant_of-self
invariant_of-self g c =
    let i = c.self.inside in
    let kept = c.self.invariant in
    let d : Data = g.D.BidiData.data i.document.tables in
    let left = c.self.view_is ∙ c.leave_question.ensures in
    let unasked : i.prompt ≡ prompts.Off = ap (λ (s : EditorState g.row.D.Denot). s.editor.prompt) left in
    let unsought : i.cursor.search_state ≡ search_states.Off = ap (λ (s : EditorState g.row.D.Denot). s.editor.search_state) left in
    let query = string_bytes i.query in
    let other = string_bytes i.replacement in
    let answer = string_bytes c.clear.new.self in
    let line : StandsInLine d i.prompt i.cursor.search_state query other answer i.input_cursor =
    subst (λ p. StandsInLine d p i.cursor.search_state query other answer i.input_cursor) (sym unasked)
    (subst (λ s. StandsInLine d prompts.Off s query other answer i.input_cursor) (sym unsought) tt) in
    (kept.0, kept.1, kept.2, kept.3, kept.4, kept.5, empty-answer i.prompt answer c.clear.ensures.bytes, line, kept.8, kept.9, kept.10)
