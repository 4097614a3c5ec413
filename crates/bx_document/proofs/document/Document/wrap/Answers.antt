use Rattle.std.proofs.Common.{rules, ◌≡◌, ◌∙◌, true, arith, subst, sym, refl}
use Rattle.std.proofs.lemmas.Bool.Decides.{nat_tests}
use Rattle.bx_text.specs.Edits.{fits_both}
use Rattle.bx_text.specs.Changes.{IsRange}
use Rattle.bx_view.specs.Places.{IsTextPlace}
use Rattle.bx_document.specs.Swapped.{wrapped_text}
use Rattle.bx_document.proofs.PlacesKept.{keeps_wrapped}
use Rattle.bx_document.proofs.SameState.{edited}
use Rattle.bx_document.proofs.document.Document.wrap.Goals as goal

pub place_after-requires-clause-range : goal.place_after-requires-clause-range
place_after-requires-clause-range g c = record {
  start_bounds = c.requires.range.stop_bounds;
  stop_bounds = c.requires.range.stop_bounds;
  in_order = omega arith;
}

pub place_after-requires-clause-fits : goal.place_after-requires-clause-fits
place_after-requires-clause-fits g c = first_of (search rules, grind (arith, nat_tests))

pub place_after_wrap-requires-clause-range : goal.place_after_wrap-requires-clause-range
place_after_wrap-requires-clause-range g c =
    subst (λ s. IsRange s.document.content.text c.args.start c.args.stop) (sym c.place_after.ensures.same) c.requires.range

pub place_after_wrap-requires-clause-fits : goal.place_after_wrap-requires-clause-fits
place_after_wrap-requires-clause-fits g c =
    let short : fits_both c.args.self.now.document.content.text c.args.front.now c.args.back.now ≡ true =
    first_of (search rules, grind (arith, nat_tests)) in
    subst (λ s. fits_both s.document.content.text c.args.front.now c.args.back.now ≡ true) (sym c.place_after.ensures.same) short

pub invariant_of-self-2 : goal.invariant_of-self-2
invariant_of-self-2 g c =
    let after = c.in_ok-after.after in
    let is = subst (λ s. IsTextPlace (g.D.BidiData.data s.tables)
    (wrapped_text s.document.content.text c.args.start c.args.stop c.args.front.now c.args.back.now) after)
    c.place_after.ensures.same c.in_ok-after.ensures.text_place in
    let keeps = keeps_wrapped g.D.BidiData.data _ c.args.self.now _ c.args.start c.args.stop c.args.front.now c.args.back.now
    c.args.place c.in_ok-between.between after (c.self-2.view_is ∙ c.place_after_wrap.ensures.same ∙ c.place_after.ensures.same)
    refl c.self-2.invariant.1 c.requires.text_place c.in_ok-between.ensures.text_place is in
    let i = c.self-2.inside in
    edited g.D.BidiData.data i.view i.row_cache i.indexed c.insert_pair.new.self _ c.in_ok-insert_pair.ensures.ok c.self-2.invariant.0 keeps c.self-2.invariant.2
