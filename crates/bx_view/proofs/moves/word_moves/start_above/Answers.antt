use Rattle.std.proofs.Common.{◌≡◌, ◌+◌, ◌-◌, ◌<◌, ◌≤◌, ◌∙◌, length, refl, subst, sym, true, arith, rules}
use Rattle.bx_view.specs.Numbers.{count}
use Rattle.bx_view.proofs.WalkSteps.{previous-number}
use Rattle.bx_view.proofs.moves_lemmas.CachedStops.{start-order, start-short}
use Rattle.bx_view.proofs.moves.word_moves.start_above.Goals as goal

pub overflow_sub-place : goal.overflow_sub-place
overflow_sub-place g c =
    let s = c.args.text_ref.now in
    let ucd = g.D.BidiData.data s.tables.now in
    let text = s.text.now.edited.text in
    let on = c.requires.row.1 in
    let went : c.to_previous.result ≡ true = search rules in
    let m = c.current_span-span.result.number in
    let walk = c.walk_from-walk.result in
    let more = sym c.walk_from-walk.ensures.1 ∙ previous-number walk.paragraphs walk.number walk refl c.to_previous.result m
    c.to_previous.ensures.there went (c.current_span-span.ensures.number ∙ c.to_previous.ensures.number) in
    let begins = c.current_span-span.ensures.is.start in
    let order = start-order ucd text c.args.at.paragraph m c.args.place more on.is.paragraph (subst (λ o. o ≤ c.args.place) on.start_is c.requires.order) in
    omega (arith, order, begins)

pub overflow_add-result : goal.overflow_add-result
overflow_add-result g c =
    let s = c.args.text_ref.now in
    let ucd = g.D.BidiData.data s.tables.now in
    let text = s.text.now.edited.text in
    let on = c.requires.row.1 in
    let start = c.current_span-span.result.start in
    let went : c.to_previous.result ≡ true = search rules in
    let m = c.current_span-span.result.number in
    let walk = c.walk_from-walk.result in
    let more = sym c.walk_from-walk.ensures.1 ∙ previous-number walk.paragraphs walk.number walk refl c.to_previous.result m
    c.to_previous.ensures.there went (c.current_span-span.ensures.number ∙ c.to_previous.ensures.number) in
    let begins = c.current_span-span.ensures.is.start in
    let within : m < count ucd text = omega (arith, more, on.is.paragraph) in
    let fits : start + c.start_before-last.result ≤ length text =
    start-short ucd text s.utf8 m start begins c.paragraph-paragraph.result.now.body c.paragraph-paragraph.ensures.body_is (c.args.place - start)
    c.start_before-last.result within c.start_before-last.ensures in
    omega (arith, fits, s.short)
