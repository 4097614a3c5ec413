use Rattle.std.proofs.Common.{◌≡◌, ◌≤◌, ◌∙◌, ap, arith, chars, length, string_bytes, subst, sym, true}
use Rattle.bx_view.specs.Places.{IsTextPlace}
use Rattle.bx_editor.specs.declared.questions.answers.Prompt.TheVariants as prompts
use Rattle.bx_editor.specs.Functions.{EditorState}
use Rattle.bx_editor.specs.InputLines.{line_with}
use Rattle.bx_editor.specs.LineState.{LineState}
use Rattle.bx_editor.specs.Origin.{asks_replacement}
use Rattle.bx_editor.proofs.InLine.{place-in-replacement}
use Rattle.bx_editor.proofs.editor.Editor.erase_in_replacement.Goals as goal

pub erase-requires : goal.erase-requires
erase-requires g c =
    let i = c.self.inside in
    let d = g.D.BidiData.data i.document.tables in
    let query = string_bytes i.query in
    let other = string_bytes i.replacement in
    let prompt : i.prompt ≡ prompts.Off = ap (λ (s : EditorState g.row.D.Denot). s.editor.prompt) c.self.view_is ∙ c.requires.prompt in
    let on : asks_replacement i.cursor.search_state ≡ true =
    ap (λ (s : EditorState g.row.D.Denot). asks_replacement s.editor.search_state) c.self.view_is ∙ c.requires.asked in
    let is : c.in_ok-line.line ≡ line_with other i.input_cursor =
    c.in_ok-line.ensures ∙ ap (λ q. line_with q i.input_cursor) c.as_str.ensures.value in record {
      place = subst (λ (l : LineState). IsTextPlace d l.text l.cursor) (sym is)
          (place-in-replacement d query other (string_bytes i.answer) i.input_cursor i.prompt i.cursor.search_state prompt on c.self.invariant.7);
    }
