use Rattle.std.proofs.Common.{◌+◌, ◌∙◌, IsCharBoundary, true, ap, drop, find, length, nat_le, subst, sym, unwrap_or, arith}
use Rattle.unicode_segmentation.specs.Grapheme.{graphemes}
use Rattle.bx_view.specs.Words.{word_starts}
use Rattle.bx_view.specs.declared.moves.unit_kind.UnitKind.TheVariants.{Mark}
use Rattle.bx_view.proofs.WordParts.{first-behind}
use Rattle.bx_view.proofs.moves_lemmas.WordRows.{row-above, row-part, row-reads}
use Rattle.bx_view.proofs.moves.words.stop_after.Goals as goal

pub first_start-requires : goal.first_start-requires
first_start-requires g c =
    let ucd = g.D.BidiData.data c.args.tables.now in
    let l = c.args.paragraph.now in
    let side = c.row_of.ensures.sound.side in
    let utf8 = c.row_of.ensures.sound.utf8 in
    let part = row-part ucd l c.requires.data side utf8 c.row_to_read-row.result c.first-start.result (c.first-start.ensures ucd c.requires.data)
    (omega (arith, c.row_to_read-row.ensures.order, c.row_of.ensures.within)) in
    subst (λ b. IsCharBoundary b c.first-start.result) (sym c.body-body.ensures) part.bound

pub returns : goal.returns
returns g c =
    let ucd = g.D.BidiData.data c.args.tables.now in
    let l = c.args.paragraph.now in
    let row = c.row_to_read-row.result in
    let start = c.first-start.result in
    let side = c.row_of.ensures.sound.side in
    let utf8 = c.row_of.ensures.sound.utf8 in
    let first = c.first-start.ensures ucd c.requires.data in
    let reads = row-reads ucd l c.requires.data side utf8 row start first
    (omega (arith, c.row_to_read-row.ensures.order, c.row_of.ensures.within)) c.row_to_read-row.ensures.reads in
    let order = row-above ucd l c.requires.data side utf8 row start first c.args.offset c.row_of.result (c.row_of.ensures.row ucd c.requires.data)
    c.row_to_read-row.ensures.order in
    c.first_start.ensures
    ∙ ap (λ b. unwrap_or (find (nat_le (c.args.offset + 1)) (word_starts ucd Mark Mark start (graphemes true (drop start b)))) (length b)) c.body-body.ensures
    ∙ ap (λ x. unwrap_or x (length l.body)) (sym (first-behind ucd l.body start reads c.args.offset order))
