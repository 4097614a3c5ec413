use Rattle.std.proofs.Common.{rules, ◌≡◌, ◌<◌, ◌≤◌, ◌∙◌, length, true, ap, arith, subst, sym, refl}
use Rattle.std.proofs.lemmas.Bool.{eqb-false}
use Rattle.std.proofs.lemmas.Bool.Decides.{nat_tests}
use Rattle.bx_text.specs.Edits.{fits, splice}
use Rattle.bx_view.specs.Places.{IsTextPlace}
use Rattle.bx_document.specs.Document.{place_after}
use Rattle.bx_document.proofs.ExchangedPlace.{exchanged_state, exchanged_text}
use Rattle.bx_document.proofs.PlacesKept.{keeps_exchanged}
use Rattle.bx_document.proofs.SameState.{edited, state_of}
use Rattle.bx_document.proofs.document.Document.exchange.Goals as goal

pub invariant_of-self-2 : goal.invariant_of-self-2
invariant_of-self-2 g c =
    let now = c.args.self.now in
    let text = now.document.content.text in
    let start = c.args.start in
    let new = c.args.new.now in
    let after = c.in_ok-after-2.after in
    let one = subst (λ s. IsTextPlace (g.D.BidiData.data s.tables) (splice s.document.content.text start c.args.stop new) after)
    c.place_after_removal.ensures.same c.in_ok-after-2.ensures.text_place in
    let is = subst (λ bs. IsTextPlace (g.D.BidiData.data now.tables) bs after)
    (sym (exchanged_text text start c.args.stop new c.requires.range.start_bounds.0)) one in
    let keeps = keeps_exchanged g.D.BidiData.data _ now _ start c.args.stop start new c.args.place
    c.in_ok-between.between after (c.self-2.view_is ∙ c.place_after.ensures.same ∙ c.place_after_removal.ensures.same)
    refl c.self-2.invariant.1
    c.requires.text_place c.in_ok-between.ensures.text_place is in
    let i = c.self-2.inside in
    edited g.D.BidiData.data i.view i.row_cache i.indexed c.exchange.new.self _ c.in_ok-exchange.ensures.ok c.self-2.invariant.0 keeps c.self-2.invariant.2

pub returns-clause-ok : goal.returns-clause-ok
returns-clause-ok g c =
    let now = c.args.self.now in
    let text = now.document.content.text in
    let start = c.args.start in
    let new = c.args.new.now in
    let after = c.in_ok-after-2.after in
    let i = c.self-2.inside in
    let short : fits text start c.args.stop new ≡ true = first_of (search rules, grind (arith, nat_tests)) in
    let some : 0 < length new = omega (arith, eqb-false (length new) 0 (sym c.if-is_empty.ensures)) in
    let place = subst (λ s. after ≡ place_after (g.D.BidiData.data s.tables) s.document start c.args.stop new)
    c.place_after_removal.ensures.same c.in_ok-after-2.ensures.place in (
      short,
      ap (λ o. state_of o.tables o.content i.view.base i.view.w) c.in_ok-exchange.ensures.ok
          ∙ exchanged_state g.D.BidiData.data _ now _ start c.args.stop new c.args.place
          c.in_ok-between.between after (c.self-2.view_is ∙ c.place_after.ensures.same ∙ c.place_after_removal.ensures.same)
          refl some c.requires.range.start_bounds.0
          c.in_ok-between.ensures.place place,
      place,
    )

pub returns-clause-text_place : goal.returns-clause-text_place
returns-clause-text_place g c =
    let own = c.self-2.inside.indexed in
    let start = c.args.start in
    let new = c.args.new.now in
    let after = c.in_ok-after-2.after in
    let same = c.self-2.view_is ∙ c.place_after.ensures.same in
    let one = subst (λ s. IsTextPlace (g.D.BidiData.data s.tables) (splice s.document.content.text start c.args.stop new) after)
    (sym same) c.in_ok-after-2.ensures.text_place in
    let bound = subst (λ s. start ≤ length s.document.content.text) (sym (same ∙ c.place_after_removal.ensures.same)) c.requires.range.start_bounds.0 in
    let is = subst (λ bs. IsTextPlace (g.D.BidiData.data own.tables) bs after) (sym (exchanged_text own.content.text start c.args.stop new bound)) one in
    subst (λ o. IsTextPlace (g.D.BidiData.data o.tables) o.content.text after) (sym c.in_ok-exchange.ensures.ok) is
