use Rattle.std.proofs.Common.{◌+◌, ◌-◌, ◌∙◌, ap, ap₂, subst, sym}
use Rattle.bx_view.specs.Numbers.{unit_place, body_at, start_at}
use Rattle.bx_view.specs.Places.{IsTextPlace}
use Rattle.bx_view.proofs.Numbered.{lead-to-places}
use Rattle.bx_view.proofs.UnitSteps.{placed-in}
use Rattle.bx_view.proofs.view.View.place_of.Goals as goal

pub returns-clause-place : goal.returns-clause-place
returns-clause-place g c =
    let ucd = g.D.BidiData.data c.args.text_ref.now.tables.now in
    let text = c.args.text_ref.now.text.now.edited.text in
    let n = c.span_of-span.result.number in
    let body = body_at ucd text n in
    let found = c.unit_start.ensures.place
    ∙ ap₂ (λ b k. unit_place 0 b k) (c.body-body.ensures ∙ c.paragraph.ensures.body_is) c.saturating_sub.ensures in
    ap₂ (λ a b. a + b) c.span_of-span.ensures.is.start found ∙ placed-in (start_at ucd text n) body (c.args.unit - 1)
    ∙ ap (λ k. unit_place (start_at ucd text k) (body_at ucd text k) (c.args.unit - 1))
    (c.span_of-span.ensures.number ∙ c.paragraph_number-number.ensures.number)

pub returns-clause-text_place : goal.returns-clause-text_place
returns-clause-text_place g c =
    let ucd = g.D.BidiData.data c.args.text_ref.now.tables.now in
    let text = c.args.text_ref.now.text.now.edited.text in
    subst (IsTextPlace ucd text) (sym (returns-clause-place g c))
    (lead-to-places ucd text c.args.text_ref.now.utf8 c.args.paragraph c.args.unit)
