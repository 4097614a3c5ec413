use Rattle.std.proofs.Common.{◌≡◌, ◌∙◌, ap, max, min, subst, sym}
use Rattle.std.specs.Prelude.{unwrap_or}
use Rattle.bx_text.specs.Changes.{IsRange}
use Rattle.bx_view.specs.Places.{IsTextPlace}
use Rattle.bx_editor.specs.Functions.{EditorState}
use Rattle.bx_editor.proofs.MarkPlaces.{region-place}
use Rattle.bx_editor.proofs.Parts.{region_range}
use Rattle.bx_editor.proofs.editor.Editor.region.Goals as goal

pub returns-clause-range : goal.returns-clause-range
returns-clause-range g c =
    let i = c.self.inside in
    let low : c.min.result ≡ min (unwrap_or i.cursor.mark i.cursor.place) i.cursor.place = c.min.ensures ∙ ap (λ m. min m i.cursor.place) c.unwrap_or-mark.ensures in
    let high : c.max.result ≡ max (unwrap_or i.cursor.mark i.cursor.place) i.cursor.place = c.max.ensures ∙ ap (λ m. max m i.cursor.place) c.unwrap_or-mark.ensures in
    subst (λ s. IsRange s.editor.content.text c.min.result c.max.result) c.self.view_is
    (region_range (g.D.BidiData.data i.document.tables) i.document.document.content.text i.cursor.mark i.cursor.place c.min.result c.max.result
    c.len-utf8.ensures.utf8 c.self.invariant.0 c.self.invariant.2 low high)

pub returns-clause-start_place : goal.returns-clause-start_place
returns-clause-start_place g c =
    let i = c.self.inside in
    let P = IsTextPlace (g.D.BidiData.data i.document.tables) i.document.document.content.text in
    let low : c.min.result ≡ min (unwrap_or i.cursor.mark i.cursor.place) i.cursor.place = c.min.ensures ∙ ap (λ m. min m i.cursor.place) c.unwrap_or-mark.ensures in
    subst (λ (s : EditorState g.row.D.Denot). IsTextPlace (g.D.BidiData.data s.tables) s.editor.content.text c.min.result) c.self.view_is
    (subst P (sym low) (region-place P i.cursor.place c.self.invariant.0 i.cursor.mark c.self.invariant.2))
