use Rattle.std.proofs.Common.{◌≡◌, ◌-◌, ◌<◌, ◌∙◌, length, take, get_or, refl, ap, sym, arith}
use Rattle.std.proofs.lemmas.Str.{chars-nil, IsCharBoundary-start}
use Rattle.bx_paragraph.specs.RowEdits.{origin}
use Rattle.bx_paragraph.proofs.Edits.{edit-of}
use Rattle.bx_paragraph.proofs.edited.text_edit.Goals as goal

pub returns-then-is_char_boundary : goal.returns-then-is_char_boundary
returns-then-is_char_boundary c =
    let body = c.args.body.now in
    let from = (get_or c.args.starts.now c.saturating_sub.result origin).offset in
    let within : c.saturating_sub.result < length c.args.starts.now =
    omega (arith, c.saturating_sub.ensures, c.starts_up_to.ensures.within, c.requires.some) in
    let n : from - 0 ≡ from = omega arith in
    edit-of body _ c.args.start c.args.stop _ c.utf8.body c.utf8.inserted (c.if-is_char_boundary.ensures.test.0 refl) c.requires.start c.requires.stop
    c.if-from-start.true c.requires.order (c.range.ensures.value ∙ ap (λ k. take k body) n) (c.requires.counted c.saturating_sub.result _ within)
    c.range-then-is_char_boundary.ensures.value c.range-removed.ensures.value c.range_from-behind.ensures.value

pub returns : goal.returns
returns c =
    edit-of c.args.body.now 0 c.args.start c.args.stop _ c.utf8.body c.utf8.inserted (IsCharBoundary-start c.args.body.now c.utf8.body) c.requires.start
    c.requires.stop (omega arith) c.requires.order refl (sym (ap length chars-nil)) c.range-2.ensures.value c.range-removed.ensures.value
    c.range_from-behind.ensures.value
