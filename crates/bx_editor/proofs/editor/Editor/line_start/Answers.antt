use Rattle.std.proofs.Common.{subst, sym}
use Rattle.bx_text.specs.Changes.{IsRange}
use Rattle.bx_editor.specs.Functions.{EditorState}
use Rattle.bx_editor.proofs.PlaceLine.{line-to-place}
use Rattle.bx_editor.proofs.editor.Editor.line_start.Goals as goal

pub returns-clause-range : goal.returns-clause-range
returns-clause-range g c =
    let i = c.self.inside in
    let t = i.document in
    let ucd = g.D.BidiData.data t.tables in
    let text = t.document.content.text in
    subst (λ (s : EditorState g.row.D.Denot). IsRange s.editor.content.text c.line_of.result.start s.editor.place) c.self.view_is
    (subst (λ o. IsRange text o i.cursor.place) (sym c.line_of.ensures.start)
    (line-to-place ucd text c.len-utf8.ensures.utf8 i.cursor.place c.self.invariant.0))
