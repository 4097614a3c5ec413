use Rattle.std.proofs.Common.{ℕ, IsCharBoundary, refl, subst}
use Rattle.bx_text.specs.Changes.{IsRange}
use Rattle.bx_view.specs.Places.{IsTextPlace}
use Rattle.bx_view.specs.TextRows.{text_rows}
use Rattle.bx_view.proofs.TextPlaces.{place-between}
use Rattle.bx_document.specs.Document.{DocumentState}
use Rattle.bx_editor.specs.Functions.{EditorState}
use Rattle.bx_editor.proofs.StepOrder.{between-back}
use Rattle.bx_editor.proofs.editor.Editor.back_by.Goals as goal

pub returns-clause-range : goal.returns-clause-range
returns-clause-range g c =
    let t : DocumentState g.row.D.Denot = c.self.inside.document in
    let ucd = g.D.BidiData.data t.tables in
    let rows = text_rows ucd t.document.base t.document.w t.document.content.text in
    let text = t.document.content.text in
    let between : (p : ℕ) → IsTextPlace ucd text p → IsCharBoundary text p = λ p is. place-between ucd text p c.moved.ensures.utf8 is in
    subst (λ (s : EditorState g.row.D.Denot). IsRange s.editor.content.text c.in_ok-place.place s.editor.place) c.self.view_is
    (between-back ucd rows t.document.w c.args.back text text c.in_ok-place.place c.self.inside.cursor.place refl c.requires.back
    (between c.in_ok-place.place (c.in_ok-place.ensures.text_place c.self.invariant.0)) (between c.self.inside.cursor.place c.self.invariant.0) c.in_ok-place.ensures.place)
