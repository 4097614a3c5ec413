use Rattle.std.proofs.Common.{◌∙◌, [], refl}
use Rattle.bx_document.proofs.PlacesKept.{keeps_edited}
use Rattle.bx_document.proofs.SameState.{edited}
use Rattle.bx_document.proofs.document.Document.remove.Goals as goal

pub invariant_of-self-2 : goal.invariant_of-self-2
invariant_of-self-2 g c =
    let keeps = keeps_edited g.D.BidiData.data _ c.args.self.now _ c.args.start c.args.stop [] c.args.place c.in_ok-after.after
    (c.self.view_is ∙ c.place_after_removal.ensures.same) refl c.self.invariant.1 c.requires.text_place
    c.in_ok-after.ensures.text_place in
    let i = c.self.inside in
    edited g.D.BidiData.data i.view i.row_cache i.indexed c.remove.new.self _ c.in_ok-remove.ensures.ok c.self.invariant.0 keeps c.self.invariant.2
