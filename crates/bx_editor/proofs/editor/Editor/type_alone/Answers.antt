use Rattle.std.proofs.Common.{◌≡◌, true, rules, subst}
use Rattle.bx_view.specs.Places.{IsTextPlace}
use Rattle.bx_editor.specs.Functions.{EditorState}
use Rattle.bx_editor.specs.Origin.{is_queried}
use Rattle.bx_editor.proofs.AnswersKept.{queried-origin}
use Rattle.bx_editor.proofs.editor.Editor.type_alone.Goals as goal

pub type_letter-requires-clause-origin : goal.type_letter-requires-clause-origin
type_letter-requires-clause-origin g c =
    let i = c.self.inside in
    let d = g.D.BidiData.data i.document.tables in
    let queried : is_queried i.cursor.search_state ≡ true = search rules in
    subst (λ (s : EditorState g.row.D.Denot). IsTextPlace (g.D.BidiData.data s.tables) s.editor.content.text s.editor.origin) c.self.view_is
    (queried-origin d i.document.document.content.text i.cursor.search_state i.origin queried c.self.invariant.9)
