use Rattle.std.proofs.Common.{◌∙◌, IsCharBoundary, true, ap, drop, subst, sym, arith}
use Rattle.unicode_segmentation.specs.Grapheme.{graphemes}
use Rattle.bx_view.specs.Words.{first_kind, is_sign}
use Rattle.bx_view.proofs.moves_lemmas.WordRows.{row-part}
use Rattle.bx_view.proofs.moves.words.row_to_read.Goals as goal

pub is_sign_at-requires : goal.is_sign_at-requires
is_sign_at-requires g c =
    let ucd = g.D.BidiData.data c.args.tables.now in
    let sound = c.requires.sound in
    let part = row-part ucd c.args.paragraph.now c.requires.data sound.side sound.utf8 c.loop-there.there c.first.result
    (c.first.ensures ucd c.requires.data) (omega (arith, c.loop-there.invariant.order, c.requires.within)) in
    subst (λ b. IsCharBoundary b c.first.result) (sym c.body-body.ensures) part.bound

pub returns-then-not-is_sign_at-clause-reads : goal.returns-then-not-is_sign_at-clause-reads
returns-then-not-is_sign_at-clause-reads g c = λ some.
    let ucd = g.D.BidiData.data c.args.tables.now in
    ap (λ n. is_sign (first_kind ucd (graphemes true (drop n c.args.paragraph.now.body)))) (sym (c.first.ensures ucd c.requires.data))
    ∙ ap (λ b. is_sign (first_kind ucd (graphemes true (drop c.first.result b)))) (sym c.body-body.ensures)
    ∙ sym c.is_sign_at.ensures ∙ c.if-not-is_sign_at.true
