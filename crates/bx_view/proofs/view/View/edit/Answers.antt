use Rattle.std.proofs.Common.{◌≡◌, ℕ, List, ◌≤◌, ◌<◌, ◌+◌, ◌-◌, ◌∙◌, ap, arith, chars, length, refl, rules, subst, sym, true}
use Rattle.std.specs.List.{splice as list_splice}
use Rattle.bx_common.specs.Characters.{is_side}
use Rattle.bx_text.specs.Changes.{IsRange}
use Rattle.bx_ucd.specs.Data.{Data}
use Rattle.bx_paragraph.specs.Layout.{LayoutState}
use Rattle.bx_view.specs.Caching.{Caches, HasBody, IsCached}
use Rattle.bx_view.specs.Numbers.{body_at}
use Rattle.bx_view.proofs.Cutting.{none_found}
use Rattle.bx_view.proofs.EditedPlace.{IsPlaceAfter, cached_at, edited_place, inner_of, splice_most}
use Rattle.bx_view.proofs.view.View.edit.Goals as goal
use Rattle.bx_view.proofs.view.View.edit.Goals.{In_ok-place}

-- the paragraph found in the cache has its body there
has_body : {own body : List ℕ} {lent cache : List LayoutState} {i : ℕ} → lent ≡ cache → own ≡ body → HasBody own lent i → HasBody body cache i
has_body {own} {body} {lent} {cache} {i} value is found = subst (λ ls. HasBody body ls i) value (subst (λ b. HasBody b lent i) is found)

pub edit_in-requires-clause-within : goal.edit_in-requires-clause-within
edit_in-requires-clause-within g c =
    let was = c.in_ok-lay_out_in.ensures.body _ (has_body c.deref.ensures.value c.paragraph_under-span.ensures.is.body c.in-Some.ensures) in
    was.within

pub index-requires : goal.index-requires
index-requires g c =
    let was = c.in_ok-lay_out_in.ensures.body _ (has_body c.deref.ensures.value c.paragraph_under-span.ensures.is.body c.in-Some.ensures) in
    let did : c.in_ok-is_edited.is_edited ≡ true = search rules in
    let within : c.in-Some.i < length c.edit_in.new.cache.items = (c.in_ok-is_edited.ensures.body did _ c.self.inside.w was).within in
    search rules

pub place_in_body-requires : goal.place_in_body-requires
place_in_body-requires g c =
    let ucd = g.D.BidiData.data c.args.text_ref.now.tables.now in
    let was = c.in_ok-lay_out_in.ensures.body _ (has_body c.deref.ensures.value c.paragraph_under-span.ensures.is.body c.in-Some.ensures) in
    let did : c.in_ok-is_edited.is_edited ≡ true = search rules in
    let done = c.in_ok-is_edited.ensures.body did _ c.self.inside.w was in
    let is = cached_at ucd c.self.inside.base _ c.self.inside.w c.edit_in.new.cache.items c.in-Some.i c.index.result.now
    c.edit_in.ensures.cache done c.index.ensures in
    record { «data» = is.0.rows }

-- ---- the place in the edited paragraph

module _ (g : _) (c : In_ok-place g) where
  abbrev ucd : Data
  ucd = g.D.BidiData.data c.args.text_ref.now.tables.now

  abbrev text : List ℕ
  text = c.args.text_ref.now.text.now.edited.text

  abbrev first : ℕ
  first = c.paragraph_under-span.result.start

  abbrev body : List ℕ
  body = body_at ucd text c.paragraph_under-span.result.number

  did : c.in_ok-is_edited.is_edited ≡ true
  did = search rules

  was : Caches body c.self.inside.w c.lay_out_in.new.cache.items c.in-Some.i
  was = c.in_ok-lay_out_in.ensures.body body (has_body c.deref.ensures.value c.paragraph_under-span.ensures.is.body c.in-Some.ensures)

  now : IsCached ucd c.self.inside.base c.index.result.now × (c.index.result.now.w ≡ c.self.inside.w)
      × (c.index.result.now.body ≡ list_splice body (c.args.start - first) (c.args.stop - first) c.args.new.now)
  now =
      let done = c.in_ok-is_edited.ensures.body did body c.self.inside.w was in
      cached_at ucd c.self.inside.base _ c.self.inside.w c.edit_in.new.cache.items c.in-Some.i c.index.result.now
      c.edit_in.ensures.cache done c.index.ensures

  range : IsRange body (c.args.start - first) (c.args.stop - first)
  range = c.in_ok-is_edited.ensures.range did body (record { within = was.within; body_is = was.body_is })

  place_after : IsPlaceAfter ucd c.args.self.now text c.args.start c.args.stop c.args.new.now (first + c.in_ok-place.place)
  place_after =
      let side = subst (λ v. is_side v.w ≡ true) c.self.view_is c.self.invariant in
      let further : c.args.start ≤ c.args.stop = search rules in
      let none = none_found ucd (chars c.args.new.now) (sym c.has_separator.ensures ∙ c.if-has_separator.false) in
      let inside : c.is_after_begin.result ≡ true = search rules in
      edited_place ucd c.args.self.now text c.args.text_ref.now.utf8 c.paragraph_under-span.result.number c.paragraph_under-span.ensures.is.there
      first c.args.start c.args.stop c.args.new.now c.utf8.new c.index.result.now c.in_ok-place.place (c.args.start - first + length c.args.new.now)
      c.paragraph_under-span.ensures.is.start c.paragraph_under-span.ensures.order further range none
      (inner_of first c.args.start (sym c.is_after_begin.ensures ∙ inside)) side
      (now.0.base_is ∙ ap (λ v. v.base) c.self.view_is) (now.1 ∙ ap (λ v. v.w) c.self.view_is) now.2 refl c.in_ok-place.ensures.place

pub overflow_add-result : goal.overflow_add-result
overflow_add-result g c =
    let p = (goal.at.overflow_add-result g c).In_ok-place in
    let most = splice_most (text g p) (first g p) c.paragraph_under-span.result.stop (body g p) (c.args.start - first g p) (c.args.stop - first g p)
    c.args.new.now c.paragraph_under-span.ensures.is.within c.paragraph_under-span.ensures.is.body (range g p) in
    let fits : length c.args.new.now < 9223372036854775808 = search rules in
    omega (
      arith,
      fits,
      most,
      ap length (now g p).2,
      c.in_ok-place.ensures.within,
      c.args.text_ref.now.short,
      c.paragraph_under-span.ensures.is.order,
      c.paragraph_under-span.ensures.is.within,
    )

pub returns-clause-place : goal.returns-clause-place
returns-clause-place g c = (place_after g (goal.at.returns-clause-place g c).In_ok-place).place

pub returns-clause-text_place : goal.returns-clause-text_place
returns-clause-text_place g c = (place_after g (goal.at.returns-clause-text_place g c).In_ok-place).text_place

pub returns-clause-order : goal.returns-clause-order
returns-clause-order g c = (place_after g (goal.at.returns-clause-order g c).In_ok-place).order
