use Rattle.std.proofs.Common.{subst, sym}
use Rattle.bx_view.specs.Places.{IsTextPlace}
use Rattle.bx_view.proofs.TextPlaces.{place-between}
use Rattle.bx_document.proofs.SameState.{lent}
use Rattle.bx_document.proofs.document.Document.line_of.Goals as goal

pub line_at-requires : goal.line_at-requires
line_at-requires g c =
    let same = lent c.text_ref-text_ref.ensures.tables c.text_ref-text_ref.ensures.text c.self.view_is in
    let s = c.text_ref-text_ref.result in
    let place = subst (λ s. IsTextPlace (g.D.BidiData.data s.tables) s.document.content.text c.args.place) (sym same) c.requires.text_place in
    record { bounds = place-between (g.D.BidiData.data s.tables.now) s.text.now.edited.text c.args.place c.text_ref-text_ref.result.utf8 place }
