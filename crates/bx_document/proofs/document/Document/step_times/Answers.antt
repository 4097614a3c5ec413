use Rattle.std.proofs.Common.{◌∙◌, refl, ap, subst, sym}
use Rattle.bx_view.specs.Caching.{IsViewBy}
use Rattle.bx_view.specs.Places.{IsTextPlace}
use Rattle.bx_document.proofs.PlacesKept.{keeps_times, nothing_changed, place_times}
use Rattle.bx_document.proofs.SameState.{edited}
use Rattle.bx_document.proofs.document.Document.step_times.Goals as goal

pub invariant_of-self-2 : goal.invariant_of-self-2
invariant_of-self-2 g c =
    let i = c.self.inside in
    let view = c.follow_in_layout.new.view in
    let tables = c.text_ref-2.ensures.tables ∙ ap (λ o. o.tables) c.in_ok-step.ensures.ok in
    let held = subst (λ t. IsViewBy (g.D.BidiData.data t) view) tables c.follow_in_layout.ensures.keeps.cache in
    let keeps = keeps_times (g.D.BidiData.data i.indexed.tables) c.args.step c.args.n i.indexed.content _ refl c.self.invariant.1 in
    edited g.D.BidiData.data view i.row_cache i.indexed c.step.new.self _ c.in_ok-step.ensures.ok held keeps c.self.invariant.2

pub returns-clause-text_place : goal.returns-clause-text_place
returns-clause-text_place g c =
    let own = c.self.inside.indexed in
    let next = c.in-Some.next in
    subst (λ o. IsTextPlace (g.D.BidiData.data o.tables) o.content.text next.place) (sym c.in_ok-step.ensures.ok)
    (place_times (g.D.BidiData.data own.tables) c.args.step c.args.n own.content _ next refl c.self.invariant.1 c.in-Some.ensures)

pub returns-in_default-clause-ok : goal.returns-in_default-clause-ok
returns-in_default-clause-ok g c =
    sym c.self.view_is ∙ nothing_changed _ c.args.self.now c.args.step c.args.n c.self.view_is c.in_default.ensures
