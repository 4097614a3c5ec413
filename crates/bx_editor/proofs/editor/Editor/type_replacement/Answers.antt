use Rattle.std.proofs.Common.{◌≡◌, ◌≤◌, ◌∙◌, ◌||◌, ap, chars, false, length, string_bytes, subst, sym, true}
use Rattle.std.proofs.lemmas.Bool.{ne_eqb}
use Rattle.bx_text.specs.index.Paragraphs.{is_separator}
use Rattle.bx_view.specs.Places.{IsTextPlace}
use Rattle.bx_editor.specs.declared.questions.answers.Prompt.TheVariants as prompts
use Rattle.bx_editor.specs.Editor.{Editor, cleared}
use Rattle.bx_editor.specs.Functions.{EditorState}
use Rattle.bx_editor.specs.LineState.{LineState}
use Rattle.bx_editor.specs.Origin.{asks_replacement}
use Rattle.bx_editor.specs.InputLines.{is_no_letter, line_lengthened, line_with}
use Rattle.bx_editor.specs.Search.{kept, longest_query}
use Rattle.bx_editor.proofs.InLine.{kept-place, place-in-replacement}
use Rattle.bx_editor.proofs.editor.Editor.type_replacement.Goals as goal

pub insert-requires-clause-few : goal.insert-requires-clause-few
insert-requires-clause-few g c = subst (λ ls. length (chars ls) ≤ 64) (sym (ap (λ (l : LineState). l.text) c.in_ok-line.ensures)) c.kept-cursor.ensures.few

pub insert-requires-clause-place : goal.insert-requires-clause-place
insert-requires-clause-place g c =
    let i = c.self-2.inside in
    let d = g.D.BidiData.data i.document.tables in
    let query = string_bytes i.query in
    let other = string_bytes i.replacement in
    let prompt : i.prompt ≡ prompts.Off = ap (λ (s : EditorState g.row.D.Denot). s.editor.prompt) c.self-2.view_is ∙ c.requires.prompt in
    let on : asks_replacement i.cursor.search_state ≡ true =
    ap (λ (s : EditorState g.row.D.Denot). asks_replacement s.editor.search_state) c.self-2.view_is ∙ c.requires.asked in
    let is : c.in_ok-line.line ≡ kept i.cursor.search_state (line_with other i.input_cursor) =
    c.in_ok-line.ensures ∙ c.kept-cursor.ensures.kept ∙ ap (λ q. kept i.cursor.search_state (line_with q i.input_cursor)) c.as_str-replacement.ensures.value in
    subst (λ (l : LineState). IsTextPlace d l.text l.cursor) (sym is)
    (kept-place d i.cursor.search_state other i.input_cursor
    (place-in-replacement d query other (string_bytes i.answer) i.input_cursor i.prompt i.cursor.search_state prompt on c.self-2.invariant.7))
