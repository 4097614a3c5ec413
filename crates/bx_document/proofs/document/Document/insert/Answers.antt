use Rattle.std.proofs.Common.{◌∙◌, IsUtf8, arith, subst, refl}
use Rattle.bx_view.proofs.TextPlaces.{place-between}
use Rattle.bx_document.proofs.PlacesKept.{keeps_edited}
use Rattle.bx_document.proofs.SameState.{edited}
use Rattle.bx_document.proofs.document.Document.insert.Goals as goal

pub place_after-requires-clause-range : goal.place_after-requires-clause-range
place_after-requires-clause-range g c =
    let now = c.args.self.now in
    let utf8 = subst (λ s. IsUtf8 s.document.content.text) c.self.view_is c.len.ensures.utf8 in
    let bounds = place-between (g.D.BidiData.data now.tables) now.document.content.text c.args.place utf8 c.requires.text_place in
    record { start_bounds = bounds; stop_bounds = bounds; in_order = omega arith }

pub invariant_of-self-2 : goal.invariant_of-self-2
invariant_of-self-2 g c =
    let keeps = keeps_edited g.D.BidiData.data _ c.args.self.now _ c.args.place c.args.place c.args.new.now c.args.place c.in_ok-after.after
    (c.self-2.view_is ∙ c.place_after.ensures.same) refl c.self-2.invariant.1 c.requires.text_place
    c.in_ok-after.ensures.text_place in
    let i = c.self-2.inside in
    edited g.D.BidiData.data i.view i.row_cache i.indexed c.insert.new.self _ c.in_ok-insert.ensures.ok c.self-2.invariant.0 keeps c.self-2.invariant.2
