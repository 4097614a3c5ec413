use Rattle.std.proofs.Common.{◌≡◌, ◌+◌, length, take, chars, ap, ◌∙◌, arith}
use Rattle.bx_rows.proofs.RowUnits.{chars-behind, chars-within}
use Rattle.bx_rows.proofs.row_scan.start_behind.Goals as goal

pub overflow_add-result : goal.overflow_add-result
overflow_add-result c =
    let counted = chars-behind c.args.body.now c.args.before.offset c.args.offset c.utf8.body c.requires.from c.requires.order in
    let own = c.char_count.ensures ∙ ap (λ x. length (chars x)) c.range.ensures.value in
    let few = chars-within c.args.body.now c.args.offset c.utf8.body c.requires.to in
    let from = c.requires.chars in
    let bound = c.ranges.offset.fits in
    omega (arith, counted, own, few, from, bound)

pub returns : goal.returns
returns c =
    let counted = chars-behind c.args.body.now c.args.before.offset c.args.offset c.utf8.body c.requires.from c.requires.order in
    let own = c.char_count.ensures ∙ ap (λ x. length (chars x)) c.range.ensures.value in
    let from = c.requires.chars in
    let sum : c.args.before.chars + c.char_count.result ≡ length (chars (take c.args.offset c.args.body.now)) = omega (arith, counted, own, from) in
    ap (λ n. record { offset = c.args.offset; units = c.args.units; chars = n }) sum
