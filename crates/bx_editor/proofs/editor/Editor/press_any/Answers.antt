use Rattle.std.proofs.Common.{◌≡◌, true, rules, subst}
use Rattle.bx_view.specs.Places.{IsTextPlace}
use Rattle.bx_editor.specs.Functions.{EditorState}
use Rattle.bx_editor.specs.Origin.{asks_replacement, is_queried}
use Rattle.bx_editor.proofs.AnswersKept.{asked-origin, queried-origin}
use Rattle.bx_editor.proofs.editor.Editor.press_any.Goals as goal

pub press_in_search-requires-clause-origin : goal.press_in_search-requires-clause-origin
press_in_search-requires-clause-origin g c =
    let i = c.self.inside in
    let d = g.D.BidiData.data i.document.tables in
    let queried : is_queried i.cursor.search_state ≡ true = search rules in
    subst (λ (s : EditorState g.row.D.Denot). IsTextPlace (g.D.BidiData.data s.tables) s.editor.content.text s.editor.origin) c.self.view_is
    (queried-origin d i.document.document.content.text i.cursor.search_state i.origin queried c.self.invariant.9)

pub press_for_replacement-requires-clause-origin : goal.press_for_replacement-requires-clause-origin
press_for_replacement-requires-clause-origin g c =
    let i = c.self.inside in
    let d = g.D.BidiData.data i.document.tables in
    let asked : asks_replacement i.cursor.search_state ≡ true = search rules in
    subst (λ (s : EditorState g.row.D.Denot). IsTextPlace (g.D.BidiData.data s.tables) s.editor.content.text s.editor.origin) c.self.view_is
    (asked-origin d i.document.document.content.text i.cursor.search_state i.origin asked c.self.invariant.9)
