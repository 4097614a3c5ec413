use Rattle.std.proofs.Common.{◌+◌, ◌-◌, ◌<◌, ◌≤◌, ◌∙◌, ap, length, nat_lt, arith}
use Rattle.bx_view.proofs.moves_lemmas.CachedStops.{stop-below, forward-stop, stop-short}
use Rattle.bx_view.proofs.moves.word_moves.word_forward.Goals as goal

pub overflow_add-result : goal.overflow_add-result
overflow_add-result g c =
    let s = c.args.text_ref.now in
    let on = c.in_ok-at.ensures.row in
    let at = c.in_ok-at.at in
    let fits : at.start + c.stop_after-stop.result ≤ length s.text.now.edited.text =
    stop-short (g.D.BidiData.data s.tables.now) s.text.now.edited.text s.utf8 at.paragraph at.start on.start_is c.paragraph-paragraph.result.now.body
    c.paragraph-paragraph.ensures.body_is (nat_lt (c.args.place - at.start)) c.stop_after-stop.result on.is.paragraph c.stop_after-stop.ensures in
    omega (arith, fits, s.short)

pub returns-then-offset-body-clause-place : goal.returns-then-offset-body-clause-place
returns-then-offset-body-clause-place g c =
    let s = c.args.text_ref.now in
    let on = c.in_ok-at.ensures.row in
    let at = c.in_ok-at.at in
    let body = c.paragraph-paragraph.result.now.body in
    let near : c.args.place - at.start < length body = omega (arith, c.if-offset-body.true, ap length c.body.ensures) in
    forward-stop (g.D.BidiData.data s.tables.now) s.text.now.edited.text s.utf8 at.paragraph at.start on.start_is body
    c.paragraph-paragraph.ensures.body_is c.args.place c.in_ok-at.ensures.paragraph c.stop_after-stop.result near c.stop_after-stop.ensures

pub returns-clause-place : goal.returns-clause-place
returns-clause-place g c =
    let s = c.args.text_ref.now in
    let on = c.in_ok-at.ensures.row in
    let at = c.in_ok-at.at in
    let body = c.paragraph-paragraph.result.now.body in
    let past : length body ≤ c.args.place - at.start = omega (arith, c.if-offset-body.false, ap length c.body.ensures) in
    c.unwrap_or.ensures
    ∙ stop-below (g.D.BidiData.data s.tables.now) s.text.now.edited.text s.utf8 at.paragraph at.start on.start_is body
    c.paragraph-paragraph.ensures.body_is c.args.place c.in_ok-at.ensures.paragraph past c.in_ok-below.below c.in_ok-below.ensures.stop
