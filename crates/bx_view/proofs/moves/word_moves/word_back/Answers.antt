use Rattle.std.proofs.Common.{◌+◌, ◌-◌, ◌≤◌, ◌∙◌, length, refl, arith}
use Rattle.bx_view.specs.Numbers.{body_at}
use Rattle.bx_view.proofs.moves_lemmas.CachedStops.{stop-above, back-stop, start-short}
use Rattle.bx_view.proofs.moves.word_moves.word_back.Goals as goal

pub overflow_add-result : goal.overflow_add-result
overflow_add-result g c =
    let s = c.args.text_ref.now in
    let on = c.in_ok-at.ensures.row in
    let at = c.in_ok-at.at in
    let fits : at.start + c.start_before-start.result ≤ length s.text.now.edited.text =
    start-short (g.D.BidiData.data s.tables.now) s.text.now.edited.text s.utf8 at.paragraph at.start on.start_is c.paragraph-paragraph.result.now.body
    c.paragraph-paragraph.ensures.body_is (c.args.place - at.start) c.start_before-start.result on.is.paragraph c.start_before-start.ensures in
    omega (arith, fits, s.short)

pub returns-then-at-place-clause-place : goal.returns-then-at-place-clause-place
returns-then-at-place-clause-place g c =
    let s = c.args.text_ref.now in
    let on = c.in_ok-at.ensures.row in
    let at = c.in_ok-at.at in
    back-stop (g.D.BidiData.data s.tables.now) s.text.now.edited.text s.utf8 at.paragraph at.start on.start_is c.paragraph-paragraph.result.now.body
    c.paragraph-paragraph.ensures.body_is c.args.place c.in_ok-at.ensures.paragraph c.start_before-start.result (omega (arith, c.if-at-place.true))
    c.start_before-start.ensures

pub returns-clause-place : goal.returns-clause-place
returns-clause-place g c =
    let s = c.args.text_ref.now in
    let on = c.in_ok-at.ensures.row in
    let at = c.in_ok-at.at in
    let ucd = g.D.BidiData.data s.tables.now in
    let text = s.text.now.edited.text in
    let first : c.args.place ≤ at.start = omega (arith, c.if-at-place.false) in
    c.unwrap_or.ensures
    ∙ stop-above ucd text s.utf8 at.paragraph at.start on.start_is (body_at ucd text at.paragraph) refl c.args.place c.in_ok-at.ensures.paragraph
    first c.in_ok-above.above c.in_ok-above.ensures.start
