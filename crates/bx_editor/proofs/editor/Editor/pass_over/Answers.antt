use Rattle.std.proofs.Common.{◌≡◌, ◌≤◌, ◌∙◌, true, ap, arith, chars, length, string_bytes, subst, sym, IfSome}
use Rattle.std.specs.Prelude.{Some}
use Rattle.bx_common.specs.Characters.{is_side}
use Rattle.bx_find.specs.Matches.{first_from}
use Rattle.bx_document.specs.Document.{DocumentState}
use Rattle.bx_view.specs.Places.{IsTextPlace}
use Rattle.bx_editor.specs.Answers.{IsAnswer}
use Rattle.bx_editor.specs.Functions.{EditorState}
use Rattle.bx_editor.specs.Origin.{BeganAt, StandsAt}
use Rattle.bx_editor.specs.Replacing.{next_match}
use Rattle.bx_editor.specs.Search.{reading}
use Rattle.bx_editor.specs.declared.search_state.SearchState.TheVariants.{Replacing}
use Rattle.bx_editor.proofs.ShownMatch.{at-match, query-letters, passed-over}
use Rattle.bx_editor.proofs.Viewed.{holds_with}
use Rattle.bx_editor.proofs.editor.Editor.pass_over.Goals as goal

pub invariant_of-self-2 : goal.invariant_of-self-2
invariant_of-self-2 g c =
    let i = c.self.inside in
    let t : DocumentState g.row.D.Denot = i.document in
    let d = g.D.BidiData.data t.tables in
    let text = t.document.content.text in
    let query = string_bytes i.query in
    let at = c.in-Some.at in
    let behind = c.behind_character-behind.result in
    let kept = c.self.invariant in
    let search_state : i.cursor.search_state ≡ Replacing = ap (λ (s : EditorState g.row.D.Denot). s.editor.search_state) c.self.view_is ∙ c.requires.shown in
    let shown = at-match d i.purpose query text i.cursor.search_state i.at i.count search_state kept.10 in
    let found : Some at ≡ first_from d (reading i.purpose) (query-letters d i.purpose query text) text behind =
    sym c.in-Some.is ∙ c.next_match.ensures.next
    ∙ sym (ap (λ (s : EditorState g.row.D.Denot). next_match (g.D.BidiData.data s.tables) s.editor behind) c.self.view_is) in
    let on : i.at ≤ behind = omega (arith, c.behind_character-behind.ensures.behind) in
    let next = passed-over d i.purpose query text i.at i.count behind at c.behind_character-behind.ensures.utf8 shown on found in
    let place = c.in_ok-self-inside.field-0 in
    subst (holds_with g.D.BidiData (record i { cursor = record i.cursor { place = place }; at = at }))
    (sym c.in_ok-self-inside.ensures.same) (
      c.in_ok-self-inside.ensures.text_place,
      kept.1,
      kept.2,
      kept.3,
      kept.4,
      kept.5,
      kept.6,
      kept.7,
      kept.8,
      kept.9,
      subst (λ s. StandsAt d i.purpose query text s at i.count) (sym search_state) next,
    )
