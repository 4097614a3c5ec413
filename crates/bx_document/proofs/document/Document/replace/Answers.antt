use Rattle.std.proofs.Common.{rules, ◌≡◌, ◌+◌, ◌-◌, ◌∙◌, [], length, true, IsUtf8, arith, subst, sym, refl}
use Rattle.std.proofs.lemmas.Bool.{leb-true}
use Rattle.std.proofs.lemmas.Bool.Decides.{nat_tests}
use Rattle.bx_text.specs.Edits.{fits, largest_text, splice}
use Rattle.bx_text.specs.Changes.{IsRange}
use Rattle.bx_view.specs.Places.{IsTextPlace}
use Rattle.bx_document.specs.Document.{place_after_removal, replaced_text}
use Rattle.bx_document.proofs.PlaceAfter.{splice_bytes}
use Rattle.bx_document.proofs.PlacesKept.{keeps_exchanged}
use Rattle.bx_document.proofs.ReplacedPlace.{between_bound}
use Rattle.bx_document.proofs.SameState.{edited}
use Rattle.bx_document.proofs.document.Document.replace.Goals as goal

pub place_after_both-requires-clause-range : goal.place_after_both-requires-clause-range
place_after_both-requires-clause-range g c =
    subst (λ s. IsRange s.document.content.text c.args.start c.args.stop) (sym c.place_after_removal.ensures.same) c.requires.range

pub place_after_both-requires-clause-fits : goal.place_after_both-requires-clause-fits
place_after_both-requires-clause-fits g c =
    let short : fits c.args.self.now.document.content.text c.args.start c.args.stop c.args.new.now ≡ true =
    first_of (search rules, grind (arith, nat_tests)) in
    subst (λ s. fits s.document.content.text c.args.start c.args.stop c.args.new.now ≡ true) (sym c.place_after_removal.ensures.same) short

pub place_after_both-requires-clause-between : goal.place_after_both-requires-clause-between
place_after_both-requires-clause-between g c =
    subst (λ s. c.in_ok-between.between ≡ place_after_removal (g.D.BidiData.data s.tables) s.document c.args.start c.args.stop) (sym c.place_after_removal.ensures.same)
    c.in_ok-between.ensures.place

pub place_after_both-requires-clause-place : goal.place_after_both-requires-clause-place
place_after_both-requires-clause-place g c =
    subst (λ s. IsTextPlace (g.D.BidiData.data s.tables) (splice s.document.content.text c.args.start c.args.stop []) c.in_ok-between.between)
    (sym c.place_after_removal.ensures.same) c.in_ok-between.ensures.text_place

pub invariant_of-self-2 : goal.invariant_of-self-2
invariant_of-self-2 g c =
    let now = c.args.self.now in
    let between = c.in_ok-between.between in
    let after = c.in_ok-after.after in
    let both = subst (λ s. IsTextPlace (g.D.BidiData.data s.tables)
    (replaced_text (g.D.BidiData.data s.tables) s.document c.args.start c.args.stop c.args.new.now) after)
    c.place_after_removal.ensures.same c.in_ok-after.ensures.text_place in
    let is = subst (λ b. IsTextPlace (g.D.BidiData.data now.tables)
    (splice (splice now.document.content.text c.args.start c.args.stop []) b b c.args.new.now) after) (sym c.in_ok-between.ensures.place) both in
    let keeps = keeps_exchanged g.D.BidiData.data _ now _ c.args.start c.args.stop between c.args.new.now c.args.place
    between after (c.self-2.view_is ∙ c.place_after_both.ensures.same ∙ c.place_after_removal.ensures.same)
    refl c.self-2.invariant.1
    c.requires.text_place c.in_ok-between.ensures.text_place is in
    let i = c.self-2.inside in
    edited g.D.BidiData.data i.view i.row_cache i.indexed c.exchange.new.self _ c.in_ok-exchange.ensures.ok c.self-2.invariant.0 keeps c.self-2.invariant.2

pub exchange-requires-clause-fits : goal.exchange-requires-clause-fits
exchange-requires-clause-fits g c =
    let now = c.args.self.now in
    let text = now.document.content.text in
    let ucd = g.D.BidiData.data now.tables in
    let utf8 : IsUtf8 text = subst (λ s. IsUtf8 s.document.content.text) c.self.view_is c.len.ensures.utf8 in
    let bound = between_bound ucd text c.args.start c.args.stop c.in_ok-between.between utf8 c.requires.range c.in_ok-between.ensures.text_place in
    let short : fits text c.args.start c.args.stop c.args.new.now ≡ true = first_of (search rules, grind (arith, nat_tests)) in
    let few = leb-true (length text - (c.args.stop - c.args.start) + length c.args.new.now) largest_text short in
    omega (arith, bound.0, few, splice_bytes text c.args.start c.args.stop [] c.requires.range)
