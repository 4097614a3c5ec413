use Rattle.std.proofs.Common.{◌≡◌, ◌≢◌, ◌∙◌, ℕ, Bool, List, [], ap, chars, false, length, refl, string_bytes, subst, sym}
use Rattle.std.proofs.lemmas.Str.{IsUtf8-string_bytes}
use Rattle.std.specs.Prelude.{◌==◌, not}
use Rattle.bx_find.specs.Letters.{letters}
use Rattle.bx_find.specs.declared.letters.Reading.TheVariants.{Close}
use Rattle.bx_view.specs.Places.{IsTextPlace}
use Rattle.bx_editor.specs.declared.questions.answers.Prompt.TheVariants as prompts
use Rattle.bx_document.specs.Document.{DocumentState, rows as document_rows}
use Rattle.bx_editor.specs.declared.matches.Landing.{Landing}
use Rattle.bx_editor.specs.Editor.{Editor, cleared}
use Rattle.bx_editor.specs.Functions.{EditorState}
use Rattle.bx_editor.specs.Search.{forward, landed, landing_from, reading, sought}
use Rattle.bx_editor.specs.declared.search_state.SearchPurpose.TheVariants.{Replace}
use Rattle.bx_editor.specs.declared.search_state.SearchState.TheVariants.{Typed, WithBegun}
use Rattle.bx_editor.proofs.AskedReplacement.{asked-nowhere, is-false, not-empty}
use Rattle.bx_editor.proofs.InLine.{end-is-text-place, stands-off}
use Rattle.bx_editor.proofs.Viewed.{value, value_with}
use Rattle.bx_editor.proofs.editor.Editor.ask_replacement.Goals as goal

pub returns-in-None-clause-ok : goal.returns-in-None-clause-ok
returns-in-None-clause-ok g c =
    let i = c.self.inside in
    let t : DocumentState g.row.D.Denot = i.document in
    let now : EditorState g.row.D.Denot = c.args.self.now in
    let d = g.D.BidiData.data now.tables in
    let landing = c.in_ok-landing.landing in
    let typed : EditorState g.row.D.Denot → EditorState g.row.D.Denot = λ s. record s {
      editor = record (landed (record (cleared s.editor) { purpose = Replace }) landing) { search_state = Typed };
    } in
    let ucd = g.D.BidiData.data t.tables in
    let has : EditorState g.row.D.Denot → Bool = λ s.
    not (length (letters (g.D.BidiData.data s.tables) Close (chars s.editor.query)) == 0) in
    let some : (length (sought d (record now.editor { purpose = Replace })) == 0) ≡ false =
    is-false _ (sym (c.has_letters.ensures
    ∙ ap (λ ls. not (length (letters ucd Close (chars ls)) == 0)) c.as_str-query.ensures.value ∙ ap has c.self.view_is)
    ∙ c.if-not-has_letters.false) in
    let leads : EditorState g.row.D.Denot → Landing = λ s.
    landing_from (g.D.BidiData.data s.tables) s.editor.place (record s.editor { purpose = Replace }) in
    let is : landing ≡ landing_from d now.editor.place (record now.editor { purpose = Replace }) =
    c.in_ok-landing.ensures.landing
    ∙ ap (λ ls. forward ucd Close (document_rows ucd t.document) t.document.content.text i.cursor.place ls
    (letters ucd Close (chars ls)))
    c.as_str-query.ensures.value
    ∙ ap leads c.self.view_is in
    ap (λ (s : EditorState g.row.D.Denot). (let x : EditorState g.row.D.Denot = record s {
      editor = record s.editor { search_state = Typed };
    } in x)) (c.self-2.view_is ∙ c.settle_at-2.ensures)
    ∙ ap (λ (x : DocumentState g.row.D.Denot). typed (value_with g.D.BidiData i x)) c.in_ok-landing.ensures.same
    ∙ ap typed c.self.view_is
    ∙ ap (λ (x : Editor). (let s : EditorState g.row.D.Denot = record now { editor = x } in s))
    (asked-nowhere d (cleared now.editor) landing some is c.in-None.is)

pub invariant_of-self-in-Some : goal.invariant_of-self-in-Some
invariant_of-self-in-Some g c =
    let i = c.self.inside in
    let t : DocumentState g.row.D.Denot = i.document in
    let now : EditorState g.row.D.Denot = c.args.self.now in
    let j = c.self-2.inside in
    let d = g.D.BidiData.data j.document.tables in
    let other = string_bytes j.replacement in
    let kept = c.self-2.invariant in
    let landing = c.in_ok-landing.landing in
    let asked : EditorState g.row.D.Denot → EditorState g.row.D.Denot = λ s. record s {
      editor = landed (cleared (record s.editor { purpose = Replace })) landing;
    } in
    let is : value g.D.BidiData j ≡ asked now = c.self-2.view_is ∙ c.settle_at-2.ensures
    ∙ ap (λ (x : DocumentState g.row.D.Denot). asked (value_with g.D.BidiData i x)) c.in_ok-landing.ensures.same
    ∙ ap asked c.self.view_is in
    let ucd = g.D.BidiData.data t.tables in
    let has : EditorState g.row.D.Denot → Bool = λ s.
    not (length (letters (g.D.BidiData.data s.tables) Close (chars s.editor.query)) == 0) in
    let some : (length (sought (g.D.BidiData.data now.tables) (record now.editor { purpose = Replace })) == 0) ≡ false =
    is-false _ (sym (c.has_letters.ensures
    ∙ ap (λ ls. not (length (letters ucd Close (chars ls)) == 0)) c.as_str-query.ensures.value ∙ ap has c.self.view_is)
    ∙ c.if-not-has_letters.false) in
    let prompt : j.prompt ≡ prompts.Off = ap (λ (s : EditorState g.row.D.Denot). s.editor.prompt) is ∙ c.requires.prompt in
    let end = subst (λ (q : List ℕ). IsTextPlace d other (length q)) (sym c.as_str.ensures.value) (end-is-text-place d other (IsUtf8-string_bytes j.replacement)) in
    let line = stands-off d (string_bytes j.query) other (string_bytes j.answer) (length c.as_str.result.now) j.prompt WithBegun prompt end in
    let origin = subst (λ (s : EditorState g.row.D.Denot). IsTextPlace (g.D.BidiData.data s.tables) s.editor.content.text s.editor.origin)
    (sym is) c.requires.origin in
    let found = subst (λ (s : EditorState g.row.D.Denot). letters (g.D.BidiData.data s.tables) (reading s.editor.purpose) (chars s.editor.query) ≢ [])
    (sym is) (not-empty _ some) in
    (kept.0, kept.1, kept.2, kept.3, kept.4, kept.5, kept.6, line, kept.8, origin, record { some = found; none = refl })
