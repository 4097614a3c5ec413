use Rattle.std.proofs.Common.{◌≡◌, ◌≤◌, ◌∙◌, ◌||◌, ap, chars, false, length, string_bytes, subst, sym, true}
use Rattle.std.proofs.lemmas.Bool.{ne_eqb}
use Rattle.std.specs.Prelude.{OnOk}
use Rattle.bx_text.specs.index.Paragraphs.{is_separator}
use Rattle.bx_view.specs.Places.{IsTextPlace}
use Rattle.bx_editor.specs.declared.questions.answers.Prompt.TheVariants as prompts
use Rattle.bx_editor.specs.Editor.{Editor, cleared}
use Rattle.bx_editor.specs.Functions.{EditorState}
use Rattle.bx_editor.specs.LineState.{LineState}
use Rattle.bx_editor.specs.Origin.{is_queried}
use Rattle.bx_editor.specs.InputLines.{is_at_end, is_no_letter, line_lengthened, line_with}
use Rattle.bx_editor.specs.Search.{after_letter, kept, longest_query, query_line, search_on, with_query}
use Rattle.bx_editor.proofs.InLine.{kept-place, place-in-query}
use Rattle.bx_editor.proofs.Sought.{letter-sought}
use Rattle.bx_editor.proofs.editor.Editor.type_letter.Goals as goal

pub insert-requires-clause-few : goal.insert-requires-clause-few
insert-requires-clause-few g c = subst (λ ls. length (chars ls) ≤ 64) (sym (ap (λ (l : LineState). l.text) c.in_ok-line.ensures)) c.kept-cursor.ensures.few

pub insert-requires-clause-place : goal.insert-requires-clause-place
insert-requires-clause-place g c =
    let i = c.self-2.inside in
    let d = g.D.BidiData.data i.document.tables in
    let query = string_bytes i.query in
    let other = string_bytes i.replacement in
    let prompt : i.prompt ≡ prompts.Off = ap (λ (s : EditorState g.row.D.Denot). s.editor.prompt) c.self-2.view_is ∙ c.requires.prompt in
    let on : is_queried i.cursor.search_state ≡ true =
    ap (λ (s : EditorState g.row.D.Denot). is_queried s.editor.search_state) c.self-2.view_is ∙ c.requires.queried in
    let is : c.in_ok-line.line ≡ kept i.cursor.search_state (line_with query i.input_cursor) =
    c.in_ok-line.ensures ∙ c.kept-cursor.ensures.kept ∙ ap (λ q. kept i.cursor.search_state (line_with q i.input_cursor)) c.as_str.ensures.value in
    subst (λ (l : LineState). IsTextPlace d l.text l.cursor) (sym is)
    (kept-place d i.cursor.search_state query i.input_cursor
    (place-in-query d query other (string_bytes i.answer) i.input_cursor i.prompt i.cursor.search_state prompt on c.self-2.invariant.7))

pub returns-clause-ok : goal.returns-clause-ok
returns-clause-ok g c =
    let now : EditorState g.row.D.Denot = c.args.self.now in
    let d = g.D.BidiData.data now.tables in
    let e : Editor = cleared now.editor in
    let i = c.self-2.inside in
    let letter = c.args.c in
    let plain : is_no_letter d letter ≡ false =
    ap (λ b. b || is_separator (d.class letter)) (ne_eqb letter 9 c.if-c-eq9.false)
    ∙ ap (λ (s : EditorState g.row.D.Denot). is_separator ((g.D.BidiData.data s.tables).class letter)) (sym c.self.view_is)
    ∙ sym c.separates.ensures ∙ c.if-separates.false in
    let chosen = c.kept-cursor.ensures.kept ∙ ap (λ q. kept i.cursor.search_state (line_with q i.input_cursor)) c.as_str.ensures.value in
    let was : LineState = kept e.search_state (query_line e) in
    let longer : c.insert.new.self ≡ line_lengthened d 64 was letter =
    c.in_ok-insert.ensures.line ∙ ap (λ (l : LineState). line_lengthened (g.D.BidiData.data i.document.tables) 64 l letter) (c.in_ok-line.ensures ∙ chosen)
    ∙ ap (λ (s : EditorState g.row.D.Denot). line_lengthened (g.D.BidiData.data s.tables) 64 (kept s.editor.search_state (query_line s.editor)) letter)
    c.self-2.view_is in
    let grows = ap is_at_end chosen ∙ ap (λ (s : EditorState g.row.D.Denot). is_at_end (kept s.editor.search_state (query_line s.editor))) c.self-2.view_is in
    let line : LineState = line_with c.kept-cursor.result.0.now c.kept-cursor.result.1 in
    let is : search_on d (is_at_end line) (with_query e c.insert.new.self) ≡ after_letter d e letter =
    ap (λ (l : LineState). search_on d (is_at_end line) (with_query e l)) longer
    ∙ ap (λ b. search_on d b (with_query e (line_lengthened d 64 was letter))) grows
    ∙ sym (letter-sought d e letter plain) in
    subst (λ (x : Editor). OnOk c.search_with.result (c.search_with.new.self ≡ record now { editor = x })) is c.search_with.ensures.ok
