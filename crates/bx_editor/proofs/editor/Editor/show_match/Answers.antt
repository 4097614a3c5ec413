use Rattle.std.proofs.Common.{◌≡◌, ◌∙◌, IsUtf8, true, ap, ap₂, string_bytes, subst, sym}
use Rattle.std.specs.Prelude.{Some}
use Rattle.bx_find.specs.Matches.{first_from}
use Rattle.bx_view.proofs.TextPlaces.{place-between}
use Rattle.bx_editor.specs.Editor.{cleared}
use Rattle.bx_editor.specs.Functions.{EditorState}
use Rattle.bx_editor.specs.Origin.{asks_replacement}
use Rattle.bx_editor.specs.Replacing.{next_match, shown_at}
use Rattle.bx_editor.specs.Search.{reading, sought}
use Rattle.bx_editor.specs.declared.search_state.SearchState.TheVariants.{Replacing}
use Rattle.bx_editor.proofs.InLine.{line-of-match}
use Rattle.bx_editor.proofs.ShownMatch.{asked, asked-began, query-letters, shown}
use Rattle.bx_editor.proofs.editor.Editor.show_match.Goals as goal

pub first_from-requires : goal.first_from-requires
first_from-requires g c =
    let i = c.self.inside in
    let t = i.document in
    let d = g.D.BidiData.data t.tables in
    let utf8 = subst (λ (s : EditorState g.row.D.Denot). IsUtf8 s.editor.content.text) (sym c.self.view_is) c.sought.ensures.utf8 in
    record { bounds = place-between d t.document.content.text i.cursor.place utf8 c.self.invariant.0 }

pub invariant_of-self : goal.invariant_of-self
invariant_of-self g c =
    let i = c.self.inside in
    let d = g.D.BidiData.data i.document.tables in
    let text = i.document.document.content.text in
    let query = string_bytes i.query in
    let at = c.in-Some-first_from.at in
    let kept = c.self.invariant in
    let prompts : asks_replacement i.cursor.search_state ≡ true =
    ap (λ (s : EditorState g.row.D.Denot). asks_replacement s.editor.search_state) (c.self.view_is ∙ c.reset_after_key.ensures) ∙ c.requires.asked in
    let found : Some at ≡ first_from d (reading i.purpose) (query-letters d i.purpose query text) text i.cursor.place =
    sym c.in-Some-first_from.is ∙ c.first_from.ensures.found
    ∙ ap₂ (λ r q. first_from d r q text i.cursor.place) c.reading_of-reading.ensures
    (c.in-Some.ensures.letters
    ∙ sym (ap (λ (s : EditorState g.row.D.Denot). sought (g.D.BidiData.data s.tables) s.editor) c.self.view_is)) in (
      kept.0,
      kept.1,
      kept.2,
      kept.3,
      kept.4,
      kept.5,
      kept.6,
      line-of-match d query (string_bytes i.replacement) (string_bytes i.answer) i.input_cursor i.prompt i.cursor.search_state kept.7,
      kept.8,
      asked-began d text i.cursor.search_state i.origin prompts kept.9,
      shown d i.purpose query text at i.count i.cursor.place c.first_from.ensures.utf8 c.first_from.ensures.short
          (asked d i.purpose query text i.cursor.search_state i.at i.count prompts kept.10) found,
    )

pub returns-in-Some-first_from : goal.returns-in-Some-first_from
returns-in-Some-first_from g c =
    let i = c.self.inside in
    let now : EditorState g.row.D.Denot = c.args.self.now in
    let d = g.D.BidiData.data i.document.tables in
    let text = i.document.document.content.text in
    let at = c.in-Some-first_from.at in
    let was = c.self.view_is ∙ c.reset_after_key.ensures in
    let found : Some at ≡ first_from d (reading i.purpose) (query-letters d i.purpose (string_bytes i.query) text) text i.cursor.place =
    sym c.in-Some-first_from.is ∙ c.first_from.ensures.found
    ∙ ap₂ (λ r q. first_from d r q text i.cursor.place) c.reading_of-reading.ensures
    (c.in-Some.ensures.letters
    ∙ sym (ap (λ (s : EditorState g.row.D.Denot). sought (g.D.BidiData.data s.tables) s.editor) c.self.view_is)) in
    ap (λ (s : EditorState g.row.D.Denot). (let t : EditorState g.row.D.Denot = record s {
      editor = record s.editor { search_state = Replacing; at = at };
    } in t)) was
    ∙ ap (λ o. record now { editor = shown_at (cleared now.editor) o })
    (found ∙ ap (λ (s : EditorState g.row.D.Denot). next_match (g.D.BidiData.data s.tables) s.editor s.editor.place) was)
