use Rattle.std.proofs.Common.{◌∙◌, true, false, Some, ap, drop, find, nat_lt, reverse, sym, arith}
use Rattle.std.specs.Option.{option_or}
use Rattle.unicode_segmentation.specs.Grapheme.{graphemes}
use Rattle.bx_view.specs.Words.{begins_word, word_starts}
use Rattle.bx_view.proofs.WordParts.{last-later, none-from}
use Rattle.bx_view.proofs.moves.words.last_start.Goals as goal

pub loop-at-preserved : goal.loop-at-preserved
loop-at-preserved g c =
    let ucd = g.D.BidiData.data c.args.tables.now in
    let body = c.args.body.now in
    let l = c.loop-at in
    let kind = c.unit_at-kind.result.0 in
    let stop = c.unit_at-kind.result.1 in
    let rest = word_starts ucd l.first kind stop (graphemes true (drop stop body)) in
    record {
      bound = c.unit_at-kind.ensures.stop.1;
      same = l.invariant.same
          ∙ ap (λ os. option_or (find (λ o. nat_lt o c.args.bound) (reverse os)) l.found) (c.unit_at-kind.ensures.starts l.second l.first)
          ∙ last-later c.args.bound l.at rest l.found (begins_word l.second l.first kind) (omega (arith, c.loop-at-test.true, c.min-end.ensures))
          ∙ ap (λ x. option_or (find (λ o. nat_lt o c.args.bound) (reverse rest)) x)
          (sym (c.later-found.ensures ∙ ap (λ b. elim b [ true ↦ Some l.at | false ↦ l.found ]) c.begins_word.ensures));
    }

pub returns : goal.returns
returns g c =
    let ucd = g.D.BidiData.data c.args.tables.now in
    let l = c.loop-at in
    sym (l.invariant.same
    ∙ ap (λ x. option_or x l.found) (none-from ucd c.args.body.now l.second l.first l.at c.args.bound
    (omega (arith, c.loop-at-test.false, c.min-end.ensures))))
