use Rattle.std.proofs.Common.{◌≡◌, ◌+◌, ◌∙◌, IsCharBoundary, IsUtf8, nat_lt, cond, true, false, ap, drop, subst, sym, arith}
use Rattle.std.proofs.lemmas.Bool.Decides.{nat_tests}
use Rattle.unicode_segmentation.specs.Grapheme.{graphemes}
use Rattle.bx_view.specs.Words.{word_around, word_end}
use Rattle.bx_view.specs.declared.moves.unit_kind.UnitKind.TheVariants.{Other}
use Rattle.bx_view.proofs.WordsAround.{around-is, begin-bound}
use Rattle.bx_view.proofs.moves.stretch.word_around.Goals as goal
use Rattle.bx_view.proofs.moves.stretch.word_around.Goals.{After-word_end-end}

pub word_end-end-requires : goal.word_end-end-requires
word_end-end-requires g c =
    let ucd = g.D.BidiData.data c.args.tables.now in
    let l = c.args.paragraph.now in
    let utf8 : IsUtf8 l.body = subst IsUtf8 c.body-body.ensures c.body-body.utf8 in
    subst (λ b. IsCharBoundary b c.start_before-begin.result) (sym c.body-body.ensures)
    (begin-bound ucd l.body utf8 (c.args.start + 1) c.start_before-begin.result c.start_before-begin.ensures)

around : (g : _) (c : After-word_end-end g)
    → cond (nat_lt c.args.start c.word_end-end.result) (c.start_before-begin.result, c.word_end-end.result) (c.args.start, c.args.stop)
    ≡ word_around (g.D.BidiData.data c.args.tables.now) c.args.paragraph.now.body c.args.start
around g c =
    let ucd = g.D.BidiData.data c.args.tables.now in
    let l = c.args.paragraph.now in
    let utf8 : IsUtf8 l.body = subst IsUtf8 c.body-body.ensures c.body-body.utf8 in
    let begin = c.start_before-begin.result in
    around-is ucd l.body utf8 c.args.start begin c.word_end-end.result c.args.stop c.start_before-begin.ensures
    (c.word_end-end.ensures ∙ ap (λ b. word_end ucd Other begin (graphemes true (drop begin b))) c.body-body.ensures) c.requires.stop

pub returns-then-start-end : goal.returns-then-start-end
returns-then-start-end g c =
    let yes : nat_lt c.args.start c.word_end-end.result ≡ true = let h = c.if-start-end.true in grind (arith, nat_tests) in
    sym (ap (λ b. cond b (c.start_before-begin.result, c.word_end-end.result) (c.args.start, c.args.stop)) yes)
    ∙ around g (goal.at.returns-then-start-end g c).After-word_end-end

pub returns : goal.returns
returns g c =
    let no : nat_lt c.args.start c.word_end-end.result ≡ false = let h = c.if-start-end.false in grind (arith, nat_tests) in
    sym (ap (λ b. cond b (c.start_before-begin.result, c.word_end-end.result) (c.args.start, c.args.stop)) no)
    ∙ around g (goal.at.returns g c).After-word_end-end
