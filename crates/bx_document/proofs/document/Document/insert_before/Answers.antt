use Rattle.std.proofs.Common.{rules, ◌≡◌, ◌∙◌, ◌++◌, [], true, ap, slice_range, refl, subst, sym, arith}
use Rattle.std.proofs.lemmas.Bool.Decides.{nat_tests}
use Rattle.bx_text.specs.Edits.{fits, inserted, splice}
use Rattle.bx_view.specs.Places.{IsTextPlace}
use Rattle.bx_document.specs.Document.{place_behind_insertion}
use Rattle.bx_document.proofs.InsertedBefore.{before-place, before-text}
use Rattle.bx_document.proofs.PlacesKept.{keeps_edited}
use Rattle.bx_document.proofs.SameState.{edited, lent, state_of}
use Rattle.bx_document.proofs.document.Document.insert_before.Goals as goal
use Rattle.bx_document.proofs.document.Document.insert_before.Goals.{In_ok-after}

-- the new bytes with those up to the cursor behind them
whole-is : (g : _) (c : In_ok-after g) → c.as_str.result.now ≡ c.args.new.now ++ slice_range c.args.self.now.document.content.text c.args.at c.args.place ++ []
whole-is g c =
    let same = lent c.text_ref-text_ref.ensures.tables c.text_ref-text_ref.ensures.text c.self.view_is in
    c.as_str.ensures.value ∙ c.in_ok-whole.ensures
    ∙ ap (λ s. c.args.new.now ++ slice_range s.document.content.text c.args.at c.args.place ++ []) same

short : (g : _) (c : In_ok-after g) → fits c.args.self.now.document.content.text c.args.at c.args.at c.args.new.now ≡ true
short g c = first_of (search rules, grind (arith, nat_tests))

is-place : (g : _) (c : In_ok-after g)
    → IsTextPlace (g.D.BidiData.data c.args.self.now.tables) (splice c.args.self.now.document.content.text c.args.at c.args.at c.args.new.now) c.in_ok-after.after
is-place g c =
    let now = c.args.self.now in
    subst (λ bs. IsTextPlace (g.D.BidiData.data now.tables) bs c.in_ok-after.after)
    (before-text now.document.content.text c.args.at c.args.place c.args.new.now c.as_str.result.now c.requires.range (whole-is g c) (short g c))
    c.in_ok-after.ensures.text_place

found : (g : _) (c : In_ok-after g)
    → c.in_ok-after.after ≡ place_behind_insertion (g.D.BidiData.data c.args.self.now.tables) c.args.self.now.document c.args.at c.args.new.now c.args.place
found g c =
    let now = c.args.self.now in
    before-place now.document.content.text c.args.at c.args.place c.args.new.now c.as_str.result.now c.requires.range (whole-is g c) (short g c)
    (g.D.BidiData.data now.tables) now.document c.in_ok-after.after refl c.in_ok-after.ensures.place

pub invariant_of-self-2 : goal.invariant_of-self-2
invariant_of-self-2 g c =
    let before = (goal.at.invariant_of-self-2 g c).In_ok-after in
    let keeps = keeps_edited g.D.BidiData.data _ c.args.self.now _ c.args.at c.args.at c.args.new.now c.args.place c.in_ok-after.after
    (c.self-2.view_is ∙ c.place_after.ensures.same) refl c.self-2.invariant.1 c.requires.text_place (is-place g before) in
    let i = c.self-2.inside in
    edited g.D.BidiData.data i.view i.row_cache i.indexed c.insert.new.self _ c.in_ok-insert.ensures.ok c.self-2.invariant.0 keeps c.self-2.invariant.2

pub returns-clause-ok : goal.returns-clause-ok
returns-clause-ok g c =
    let now = c.args.self.now in
    let before = (goal.at.returns-clause-ok g c).In_ok-after in
    let i = c.self-2.inside in
    let at = c.args.at in
    let new = c.args.new.now in
    let inner : state_of i.indexed.tables i.indexed.content i.view.base i.view.w ≡ now = c.self-2.view_is ∙ c.place_after.ensures.same in (
      short g before,
      ap (λ o. state_of o.tables o.content i.view.base i.view.w) c.in_ok-insert.ensures.ok
          ∙ ap (λ s. state_of s.tables (inserted s.document.content at new c.args.place c.in_ok-after.after) s.document.base s.document.w) inner
          ∙ ap (λ o. state_of now.tables (inserted now.document.content at new c.args.place o) now.document.base now.document.w) (found g before),
      found g before,
    )

pub returns-clause-text_place : goal.returns-clause-text_place
returns-clause-text_place g c =
    let now = c.args.self.now in
    let before = (goal.at.returns-clause-text_place g c).In_ok-after in
    let own = c.self-2.inside.indexed in
    let same = c.self-2.view_is ∙ c.place_after.ensures.same in
    let is = subst (λ s. IsTextPlace (g.D.BidiData.data s.tables) (splice s.document.content.text c.args.at c.args.at c.args.new.now) c.in_ok-after.after)
    (sym same) (is-place g before) in
    subst (λ o. IsTextPlace (g.D.BidiData.data o.tables) o.content.text c.in_ok-after.after) (sym c.in_ok-insert.ensures.ok) is
