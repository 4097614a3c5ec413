use Rattle.std.proofs.Common.{◌≡◌, ◌<◌, length, set, ap, sym, ◌∙◌, arith}
use Rattle.std.proofs.lemmas.List.{get_or-map, length-map}
use Rattle.bx_grid.specs.Seen.{seen, all_seen}
use Rattle.bx_grid.proofs.Coded.{note_more}
use Rattle.bx_grid.proofs.codes.note_codes.Goals as goal

pub loop-index-preserved : goal.loop-index-preserved
loop-index-preserved c =
    let columns = c.args.columns.now in
    let i = c.loop-index.index in
    let x = c.index-columns-index.result in
    let len : length (all_seen columns) ≡ length columns = length-map columns seen in
    let inside : i < length columns = omega (arith, c.loop-index-test.true, c.requires.inside, len) in
    ap (λ b. set c.loop-index.codes i b) c.code_of.ensures
    ∙ note_more c.loop-index.codes c.args.codes.now (all_seen columns) c.args.from i c.args.to (seen x)
    (omega (arith, c.loop-index.auto.index)) c.loop-index-test.true (omega (arith, c.requires.inside, len)) (c.requires.as_long ∙ sym len)
    (ap seen c.index-columns-index.is ∙ sym (get_or-map seen columns i x (seen x) inside)) c.loop-index.invariant
