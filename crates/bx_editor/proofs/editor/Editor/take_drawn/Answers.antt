use Rattle.std.proofs.Common.{string_bytes, subst, sym}
use Rattle.std.specs.Prelude.{Option, List, option_map}
use Rattle.bx_rows.specs.RowPicture.{Glyph}
use Rattle.bx_editor.specs.Status.{IsDrawn}
use Rattle.bx_editor.proofs.editor.Editor.take_drawn.Goals as goal

pub invariant_of-self-2 : goal.invariant_of-self-2
invariant_of-self-2 g c =
    let i = c.self.inside in
    let d = g.D.BidiData.data i.document.tables in
    let kept = c.self.invariant in
    let none = subst (λ (o : Option (List Glyph)). IsDrawn d (option_map string_bytes i.name) o) (sym c.take.ensures.after) tt in
    (kept.0, kept.1, kept.2, kept.3, kept.4, kept.5, kept.6, kept.7, none, kept.9, kept.10)
