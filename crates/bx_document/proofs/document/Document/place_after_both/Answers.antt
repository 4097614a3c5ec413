use Rattle.std.proofs.Common.{◌+◌, ◌-◌, ◌++◌, ◌∙◌, length, slice_range, IsUtf8, refl, ap, arith, subst, sym}
use Rattle.bx_text.specs.Changes.{IsRange}
use Rattle.bx_document.proofs.ReplacedPlace.{between_bound, kept_range, replaced_place, replaced_text_place, whole_fits, whole_range}
use Rattle.bx_document.proofs.SameState.{lent}
use Rattle.bx_document.proofs.document.Document.place_after_both.Goals as goal

pub overflow_add-behind : goal.overflow_add-behind
overflow_add-behind g c =
    let same = lent c.text_ref-text_ref.ensures.tables c.text_ref-text_ref.ensures.text c.self.view_is in
    let now = c.args.self.now in
    let text = now.document.content.text in
    let utf8 = subst (λ s. IsUtf8 s.document.content.text) same c.text_ref-text_ref.result.utf8 in
    let short = ap (λ s. length s.document.content.text) same in
    let bound = between_bound (g.D.BidiData.data now.tables) text c.args.start c.args.stop c.args.between utf8 c.requires.range c.requires.place in
    let kept = kept_range text utf8 c.args.start c.args.stop c.args.between c.requires.range c.requires.order bound in
    let stop_bounds = kept.stop_bounds in omega (arith, stop_bounds.0, short, c.text_ref-text_ref.result.short)

pub wrapped-requires : goal.wrapped-requires
wrapped-requires g c =
    let same = lent c.text_ref-text_ref.ensures.tables c.text_ref-text_ref.ensures.text c.self.view_is in
    let now = c.args.self.now in
    let text = now.document.content.text in
    let utf8 = subst (λ s. IsUtf8 s.document.content.text) same c.text_ref-text_ref.result.utf8 in
    let bound = between_bound (g.D.BidiData.data now.tables) text c.args.start c.args.stop c.args.between utf8 c.requires.range c.requires.place in
    subst (λ s. IsRange s.document.content.text c.args.stop (c.args.stop + (c.args.between - c.args.start))) (sym same)
    (kept_range text utf8 c.args.start c.args.stop c.args.between c.requires.range c.requires.order bound)

pub place_after-requires-clause-range : goal.place_after-requires-clause-range
place_after-requires-clause-range g c =
    let same = lent c.text_ref-text_ref.ensures.tables c.text_ref-text_ref.ensures.text c.self.view_is in
    let now = c.args.self.now in
    let text = now.document.content.text in
    let utf8 = subst (λ s. IsUtf8 s.document.content.text) same c.text_ref-text_ref.result.utf8 in
    let bound = between_bound (g.D.BidiData.data now.tables) text c.args.start c.args.stop c.args.between utf8 c.requires.range c.requires.place in
    whole_range text utf8 c.args.start c.args.stop c.args.between c.requires.range c.requires.order bound

pub place_after-requires-clause-fits : goal.place_after-requires-clause-fits
place_after-requires-clause-fits g c =
    let same = lent c.text_ref-text_ref.ensures.tables c.text_ref-text_ref.ensures.text c.self.view_is in
    let now = c.args.self.now in
    let text = now.document.content.text in
    let utf8 = subst (λ s. IsUtf8 s.document.content.text) same c.text_ref-text_ref.result.utf8 in
    let bound = between_bound (g.D.BidiData.data now.tables) text c.args.start c.args.stop c.args.between utf8 c.requires.range c.requires.place in
    let is = c.as_str.ensures.value ∙ c.in_ok-whole.ensures
    ∙ ap (λ s. slice_range s.document.content.text c.args.stop (c.args.stop + (c.args.between - c.args.start)) ++ c.args.new.now) same in
    whole_fits text utf8 c.args.start c.args.stop c.args.between c.requires.range c.requires.order bound c.args.new.now c.as_str.result.now is c.requires.fits

pub returns-clause-place : goal.returns-clause-place
returns-clause-place g c =
    let same = lent c.text_ref-text_ref.ensures.tables c.text_ref-text_ref.ensures.text c.self.view_is in
    let now = c.args.self.now in
    let text = now.document.content.text in
    let utf8 = subst (λ s. IsUtf8 s.document.content.text) same c.text_ref-text_ref.result.utf8 in
    let bound = between_bound (g.D.BidiData.data now.tables) text c.args.start c.args.stop c.args.between utf8 c.requires.range c.requires.place in
    let is = c.as_str.ensures.value ∙ c.in_ok-whole.ensures
    ∙ ap (λ s. slice_range s.document.content.text c.args.stop (c.args.stop + (c.args.between - c.args.start)) ++ c.args.new.now) same in
    replaced_place text utf8 c.args.start c.args.stop c.args.between c.requires.range c.requires.order bound c.args.new.now c.as_str.result.now is
    (g.D.BidiData.data now.tables) now.document c.in_ok-place.place refl c.requires.between c.in_ok-place.ensures.place

pub returns-clause-text_place : goal.returns-clause-text_place
returns-clause-text_place g c =
    let same = lent c.text_ref-text_ref.ensures.tables c.text_ref-text_ref.ensures.text c.self.view_is in
    let now = c.args.self.now in
    let text = now.document.content.text in
    let utf8 = subst (λ s. IsUtf8 s.document.content.text) same c.text_ref-text_ref.result.utf8 in
    let bound = between_bound (g.D.BidiData.data now.tables) text c.args.start c.args.stop c.args.between utf8 c.requires.range c.requires.place in
    let is = c.as_str.ensures.value ∙ c.in_ok-whole.ensures
    ∙ ap (λ s. slice_range s.document.content.text c.args.stop (c.args.stop + (c.args.between - c.args.start)) ++ c.args.new.now) same in
    replaced_text_place text utf8 c.args.start c.args.stop c.args.between c.requires.range c.requires.order bound c.args.new.now c.as_str.result.now is
    (g.D.BidiData.data now.tables) now.document c.in_ok-place.place refl c.requires.between c.in_ok-place.ensures.text_place
