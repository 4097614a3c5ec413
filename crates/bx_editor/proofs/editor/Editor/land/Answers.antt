use Rattle.std.proofs.Common.{◌≡◌, ◌∙◌, true, ap, string_bytes, subst, sym}
use Rattle.bx_view.specs.Places.{IsTextPlace}
use Rattle.bx_editor.specs.Functions.{EditorState}
use Rattle.bx_editor.specs.Origin.{is_queried}
use Rattle.bx_editor.proofs.InLine.{line-of-query}
use Rattle.bx_editor.proofs.editor.Editor.land.Goals as goal

pub invariant_of-self : goal.invariant_of-self
invariant_of-self g c =
    let i = c.self.inside in
    let d = g.D.BidiData.data i.document.tables in
    let kept = c.self.invariant in
    let settled = c.self.view_is ∙ c.settle_at.ensures in
    let on : is_queried i.cursor.search_state ≡ true = ap (λ (s : EditorState g.row.D.Denot). is_queried s.editor.search_state) settled ∙ c.requires.queried in
    let line = line-of-query d (string_bytes i.query) (string_bytes i.replacement) (string_bytes i.answer) i.input_cursor i.prompt
    i.cursor.search_state on kept.7 in
    let origin = subst (λ (s : EditorState g.row.D.Denot). IsTextPlace (g.D.BidiData.data s.tables) s.editor.content.text s.editor.origin)
    (sym settled) c.requires.origin in
    (kept.0, kept.1, kept.2, kept.3, kept.4, kept.5, kept.6, line, kept.8, origin, tt)
