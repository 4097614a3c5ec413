use Rattle.std.proofs.Common.{◌≡◌, ◌≤◌, ◌∙◌, ap, ap₂, chars, length, refl, string_bytes, subst, sym}
use Rattle.bx_find.specs.Letters.{letters}
use Rattle.bx_document.specs.Document.{DocumentState, rows as document_rows}
use Rattle.bx_ucd.specs.Data.{Data}
use Rattle.bx_editor.specs.declared.matches.Landing.{Landing}
use Rattle.bx_view.specs.Places.{IsTextPlace}
use Rattle.bx_editor.specs.declared.questions.answers.Prompt.TheVariants as prompts
use Rattle.bx_editor.specs.declared.search_state.SearchState.TheVariants.{Typed}
use Rattle.bx_editor.specs.Editor.{Editor, cleared, with_place}
use Rattle.bx_editor.specs.Functions.{EditorState}
use Rattle.bx_editor.specs.LineState.{LineState}
use Rattle.bx_editor.specs.Search.{forward, landed, landing_from, with_query}
use Rattle.bx_editor.proofs.InLine.{stands-off}
use Rattle.bx_editor.proofs.Sought.{sought-on}
use Rattle.bx_editor.proofs.Viewed.{holds_with, value, value_with}
use Rattle.bx_editor.proofs.editor.Editor.search_with.Goals as goal

pub invariant_of-self-2 : goal.invariant_of-self-2
invariant_of-self-2 g c =
    let i = c.self.inside in
    let d = g.D.BidiData.data i.document.tables in
    let kept = c.self.invariant in
    let line = c.line.inside in
    let text = string_bytes line.text in
    let from = c.search_start-from.result in
    let prompt : i.prompt ≡ prompts.Off = ap (λ (s : EditorState g.row.D.Denot). s.editor.prompt) c.self.view_is ∙ c.requires.prompt in
    let few = subst (λ (l : LineState). length (chars l.text) ≤ 64) (sym c.line.view_is) c.requires.few in
    let place = subst (λ (l : LineState). IsTextPlace d l.text l.cursor) (sym c.line.view_is)
    (subst (λ (s : EditorState g.row.D.Denot). IsTextPlace (g.D.BidiData.data s.tables) c.args.line.text c.args.line.cursor) (sym c.self.view_is)
    c.requires.place) in
    let start = subst (λ (s : EditorState g.row.D.Denot). IsTextPlace (g.D.BidiData.data s.tables) s.editor.content.text from) (sym c.self.view_is)
    c.search_start-from.ensures.text_place in
    let origin = subst (λ (s : EditorState g.row.D.Denot). IsTextPlace (g.D.BidiData.data s.tables) s.editor.content.text s.editor.origin)
    (sym c.self.view_is) c.requires.origin in
    let stands = stands-off d text (string_bytes i.replacement) (string_bytes i.answer) line.cursor i.prompt Typed prompt place in
    subst (holds_with g.D.BidiData
    (record i { cursor = record i.cursor { search_state = Typed; place = from }; query = line.text; input_cursor = line.cursor }))
    (sym c.in_ok-landing.ensures.same)
    (start, kept.1, kept.2, kept.3, few, kept.5, kept.6, stands, kept.8, origin, tt)

pub returns-clause-ok : goal.returns-clause-ok
returns-clause-ok g c =
    let now : EditorState g.row.D.Denot = c.args.self.now in
    let i = c.self.inside in
    let t : DocumentState g.row.D.Denot = i.document in
    let ucd : Data = g.D.BidiData.data t.tables in
    let l = c.line.inside in
    let line = c.args.line in
    let from = c.search_start-from.result in
    let landing = c.in_ok-landing.landing in
    let led : LineState → EditorState g.row.D.Denot → EditorState g.row.D.Denot = λ k s. record s {
      editor = landed (with_place (with_query (cleared s.editor) k) from) landing;
    } in
    let text = c.as_str.ensures.value ∙ ap (λ (k : LineState). k.text) c.line.view_is in
    let leads : EditorState g.row.D.Denot → Landing = λ s.
    landing_from (g.D.BidiData.data s.tables) from (with_place (with_query (cleared s.editor) line) from) in
    let is : landing ≡ leads (value g.D.BidiData i) = c.in_ok-landing.ensures.landing
    ∙ ap₂ (λ r ls. forward ucd r (document_rows ucd t.document) t.document.content.text from ls (letters ucd r (chars ls))) c.reading_of.ensures text in
    let sought : Landing → EditorState g.row.D.Denot → EditorState g.row.D.Denot = λ k s. record s {
      editor = landed (with_place (with_query (cleared s.editor) line) from) k;
    } in
    c.land.ensures
    ∙ ap (λ (x : DocumentState g.row.D.Denot). led (record { text = string_bytes l.text; cursor = l.cursor }) (value_with g.D.BidiData i x)) c.in_ok-landing.ensures.same
    ∙ ap (λ (k : LineState). led k (value g.D.BidiData i)) c.line.view_is
    ∙ ap (λ k. sought k (value g.D.BidiData i)) is
    ∙ ap (λ (s : EditorState g.row.D.Denot). sought (leads s) s) c.self.view_is
    ∙ ap (λ (x : Editor). (let s : EditorState g.row.D.Denot = record now { editor = x } in s))
    (sought-on (g.D.BidiData.data now.tables) (with_query (cleared now.editor) line) c.args.grows c.args.grows from refl c.search_start-from.ensures.start)
