use Rattle.std.proofs.Common.{◌≡◌, ◌∙◌, ◌++◌, true, slice_range, refl, subst, sym}
use Rattle.bx_text.specs.Edits.{fits_both}
use Rattle.bx_text.specs.Changes.{IsRange}
use Rattle.bx_view.specs.Places.{IsTextPlace}
use Rattle.bx_document.specs.Document.{Document, place_after_wrap}
use Rattle.bx_document.specs.Swapped.{wrapped_text}
use Rattle.bx_document.proofs.WrappedPlace.{few, offset_inside, whole_fits, wrapped_place, wrapped_text_place}
use Rattle.bx_document.proofs.SameState.{lent}
use Rattle.bx_document.proofs.document.Document.place_after_wrap.Goals as goal

pub wrapped-requires : goal.wrapped-requires
wrapped-requires g c =
    let same = lent c.text_ref-text_ref.ensures.tables c.text_ref-text_ref.ensures.text c.self.view_is in
    subst (λ s. IsRange s.document.content.text c.args.start c.args.stop) (sym same) c.requires.range

pub wrapped_end-offset-requires : goal.wrapped_end-offset-requires
wrapped_end-offset-requires g c =
    let same = lent c.text_ref-text_ref.ensures.tables c.text_ref-text_ref.ensures.text c.self.view_is in
    let text = c.text_ref-text_ref.result.text.now.edited.text in
    let range = subst (λ s. IsRange s.document.content.text c.args.start c.args.stop) (sym same) c.requires.range in
    let both = subst (λ s. fits_both s.document.content.text c.args.front.now c.args.back.now ≡ true) (sym same) c.requires.fits in
    few text c.args.start c.args.stop c.args.front.now c.args.back.now
    (c.args.front.now ++ slice_range text c.args.start c.args.stop ++ c.args.back.now) range refl both

pub place_inside-requires-clause-range : goal.place_inside-requires-clause-range
place_inside-requires-clause-range g c =
    let same = lent c.text_ref-text_ref.ensures.tables c.text_ref-text_ref.ensures.text c.self.view_is in
    subst (λ s. IsRange s.document.content.text c.args.start c.args.stop) (sym same) c.requires.range

pub place_inside-requires-clause-fits : goal.place_inside-requires-clause-fits
place_inside-requires-clause-fits g c =
    let same = lent c.text_ref-text_ref.ensures.tables c.text_ref-text_ref.ensures.text c.self.view_is in
    let text = c.text_ref-text_ref.result.text.now.edited.text in
    let range = subst (λ s. IsRange s.document.content.text c.args.start c.args.stop) (sym same) c.requires.range in
    let both = subst (λ s. fits_both s.document.content.text c.args.front.now c.args.back.now ≡ true) (sym same) c.requires.fits in
    whole_fits text c.args.start c.args.stop c.args.front.now c.args.back.now c.as_str.result.now range
    (c.as_str.ensures.value ∙ c.in_ok-whole.ensures) both

pub place_inside-requires-clause-inside : goal.place_inside-requires-clause-inside
place_inside-requires-clause-inside g c =
    let same = lent c.text_ref-text_ref.ensures.tables c.text_ref-text_ref.ensures.text c.self.view_is in
    let text = c.text_ref-text_ref.result.text.now.edited.text in
    let range = subst (λ s. IsRange s.document.content.text c.args.start c.args.stop) (sym same) c.requires.range in
    let both = subst (λ s. fits_both s.document.content.text c.args.front.now c.args.back.now ≡ true) (sym same) c.requires.fits in
    offset_inside text c.args.start c.args.stop c.args.front.now c.args.back.now c.as_str.result.now range
    (c.as_str.ensures.value ∙ c.in_ok-whole.ensures) both c.args.end c.wrapped_end-offset.result c.wrapped_end-offset.ensures

pub returns-clause-place : goal.returns-clause-place
returns-clause-place g c =
    let same = lent c.text_ref-text_ref.ensures.tables c.text_ref-text_ref.ensures.text c.self.view_is in
    let i = c.self.inside in
    let s = c.text_ref-text_ref.result in
    let text = s.text.now.edited.text in
    let range = subst (λ s. IsRange s.document.content.text c.args.start c.args.stop) (sym same) c.requires.range in
    let both = subst (λ s. fits_both s.document.content.text c.args.front.now c.args.back.now ≡ true) (sym same) c.requires.fits in
    let inner : Document = record { content = s.text.now.edited; base = i.view.base; w = i.view.w } in
    subst (λ s. c.in_ok-place.place ≡ place_after_wrap (g.D.BidiData.data s.tables) s.document c.args.start c.args.stop
    c.args.front.now c.args.back.now c.args.end) same
    (wrapped_place text c.args.start c.args.stop c.args.front.now c.args.back.now c.as_str.result.now range
    (c.as_str.ensures.value ∙ c.in_ok-whole.ensures) both (g.D.BidiData.data s.tables.now) inner c.args.end c.wrapped_end-offset.result c.in_ok-place.place
    refl c.wrapped_end-offset.ensures c.in_ok-place.ensures.place)

pub returns-clause-text_place : goal.returns-clause-text_place
returns-clause-text_place g c =
    let same = lent c.text_ref-text_ref.ensures.tables c.text_ref-text_ref.ensures.text c.self.view_is in
    let s = c.text_ref-text_ref.result in
    let text = s.text.now.edited.text in
    let range = subst (λ s. IsRange s.document.content.text c.args.start c.args.stop) (sym same) c.requires.range in
    let both = subst (λ s. fits_both s.document.content.text c.args.front.now c.args.back.now ≡ true) (sym same) c.requires.fits in
    subst (λ s. IsTextPlace (g.D.BidiData.data s.tables) (wrapped_text s.document.content.text c.args.start c.args.stop
    c.args.front.now c.args.back.now) c.in_ok-place.place) same
    (wrapped_text_place text c.args.start c.args.stop c.args.front.now c.args.back.now c.as_str.result.now range
    (c.as_str.ensures.value ∙ c.in_ok-whole.ensures) both (g.D.BidiData.data s.tables.now) c.in_ok-place.place c.in_ok-place.ensures.text_place)
