use Rattle.std.proofs.Common.{◌+◌, ◌≤◌, ◌∙◌, ap, length, nat_le, arith}
use Rattle.bx_view.proofs.Numbers.{lengths-count}
use Rattle.bx_view.proofs.moves_lemmas.CachedStops.{stop-short}
use Rattle.bx_view.proofs.moves.word_moves.stop_below.Goals as goal

pub overflow_add-result : goal.overflow_add-result
overflow_add-result g c =
    let s = c.args.text_ref.now in
    let ucd = g.D.BidiData.data s.tables.now in
    let text = s.text.now.edited.text in
    let n = c.current_span-span.result.number in
    let all = ap length (c.to_next.ensures.paragraphs ∙ c.walk_from-walk.ensures.0) ∙ lengths-count ucd text in
    let within = c.current_span-span.ensures.is.there in
    let begins = c.current_span-span.ensures.is.start in
    let fits : c.current_span-span.result.start + c.first_stop-first.result ≤ length text =
    stop-short ucd text s.utf8 n c.current_span-span.result.start begins c.paragraph-paragraph.result.now.body c.paragraph-paragraph.ensures.body_is
    (nat_le 0) c.first_stop-first.result within c.first_stop-first.ensures in
    omega (arith, fits, s.short)
