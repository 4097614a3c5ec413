use Rattle.std.proofs.Common.{◌∙◌, IsCharBoundary, true, ap, drop, find, nat_lt, reverse, subst, sym, unwrap_or, arith}
use Rattle.std.proofs.lemmas.Str.{IsCharBoundary-start}
use Rattle.unicode_segmentation.specs.Grapheme.{graphemes}
use Rattle.bx_view.specs.Words.{body_words, word_starts}
use Rattle.bx_view.specs.declared.moves.unit_kind.UnitKind.TheVariants.{Mark}
use Rattle.bx_view.proofs.WordParts.{last-found, last-nearer, last-of-all}
use Rattle.bx_view.proofs.moves_lemmas.WordRows.{row-part, row-reads}
use Rattle.bx_view.proofs.moves.words.start_before.Goals as goal

pub last_start-requires : goal.last_start-requires
last_start-requires g c =
    let ucd = g.D.BidiData.data c.args.tables.now in
    let side = c.row_of.ensures.sound.side in
    let utf8 = c.row_of.ensures.sound.utf8 in
    let part = row-part ucd c.args.paragraph.now c.requires side utf8 c.loop-row.row c.first-start.result (c.first-start.ensures ucd c.requires)
    c.loop-row.invariant.within in
    subst (λ b. IsCharBoundary b c.first-start.result) (sym c.body-body.ensures) part.bound

pub returns-in-Some : goal.returns-in-Some
returns-in-Some g c =
    let ucd = g.D.BidiData.data c.args.tables.now in
    let l = c.args.paragraph.now in
    let start = c.first-start.result in
    let bound = c.loop-row.bound in
    let side = c.row_of.ensures.sound.side in
    let utf8 = c.row_of.ensures.sound.utf8 in
    let reads = row-reads ucd l c.requires side utf8 c.loop-row.row start (c.first-start.ensures ucd c.requires) c.loop-row.invariant.within
    c.loop-row.invariant.reads in
    let found = ap (λ b. find (λ o. nat_lt o bound) (reverse (word_starts ucd Mark Mark start (graphemes true (drop start b))))) (sym c.body-body.ensures)
    ∙ sym c.last_start.ensures ∙ c.in-Some.is in
    sym (ap (λ x. unwrap_or x 0) (c.loop-row.invariant.same ∙ last-found ucd l.body start reads bound c.in-Some.found found))

pub loop-row-preserved : goal.loop-row-preserved
loop-row-preserved g c =
    let ucd = g.D.BidiData.data c.args.tables.now in
    let l = c.args.paragraph.now in
    let start = c.first-start.result in
    let bound = c.loop-row.bound in
    let side = c.row_of.ensures.sound.side in
    let utf8 = c.row_of.ensures.sound.utf8 in
    let reads = row-reads ucd l c.requires side utf8 c.loop-row.row start (c.first-start.ensures ucd c.requires) c.loop-row.invariant.within
    c.loop-row.invariant.reads in
    let none = ap (λ b. find (λ o. nat_lt o bound) (reverse (word_starts ucd Mark Mark start (graphemes true (drop start b))))) (sym c.body-body.ensures)
    ∙ sym c.last_start.ensures ∙ c.in_default.is in
    record {
      within = omega (arith, c.loop-row.invariant.within, c.row_to_read-row-in-loop-row.ensures.order);
      reads = c.row_to_read-row-in-loop-row.ensures.reads;
      same = c.loop-row.invariant.same ∙ last-nearer ucd l.body start reads bound none
          ∙ ap (λ n. find (λ o. nat_lt o n) (reverse (body_words ucd l.body))) (sym c.bound_above-bound.ensures);
    }

pub last_start-requires-2 : goal.last_start-requires-2
last_start-requires-2 g c = IsCharBoundary-start c.body-body.result.now c.body-body.utf8

pub returns : goal.returns
returns g c =
    let ucd = g.D.BidiData.data c.args.tables.now in
    let l = c.args.paragraph.now in
    let utf8 = c.row_of.ensures.sound.utf8 in
    c.unwrap_or.ensures
    ∙ ap (λ x. unwrap_or x 0) (c.last_start-2.ensures
    ∙ ap (λ b. find (λ o. nat_lt o c.loop-row.bound) (reverse (word_starts ucd Mark Mark 0 (graphemes true b)))) c.body-body.ensures)
    ∙ sym (ap (λ x. unwrap_or x 0) c.loop-row.invariant.same ∙ last-of-all ucd l.body utf8 c.loop-row.bound)
