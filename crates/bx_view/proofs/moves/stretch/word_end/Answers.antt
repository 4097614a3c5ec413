use Rattle.std.proofs.Common.{◌∙◌, true, false, ap, drop, sym, arith}
use Rattle.unicode_segmentation.specs.Grapheme.{graphemes}
use Rattle.bx_view.specs.Words.{word_end}
use Rattle.bx_view.proofs.WordParts.{none-left}
use Rattle.bx_view.proofs.moves.stretch.word_end.Goals as goal

pub returns-then-not-is_inside : goal.returns-then-not-is_inside
returns-then-not-is_inside g c =
    let ucd = g.D.BidiData.data c.args.tables.now in
    let stop = c.unit_at-kind.result.1 in
    let rest = graphemes true (drop stop c.args.body.now) in
    sym (c.loop-at.invariant.same ∙ c.unit_at-kind.ensures.end c.loop-at.last
    ∙ ap (λ b. elim b [ true ↦ word_end ucd c.unit_at-kind.result.0 stop rest | false ↦ c.loop-at.at ]) (sym c.is_inside.ensures ∙ c.if-not-is_inside.true))

pub loop-at-preserved : goal.loop-at-preserved
loop-at-preserved g c =
    let ucd = g.D.BidiData.data c.args.tables.now in
    let stop = c.unit_at-kind.result.1 in
    let rest = graphemes true (drop stop c.args.body.now) in
    record {
      bound = c.unit_at-kind.ensures.stop.1;
      same = c.loop-at.invariant.same ∙ c.unit_at-kind.ensures.end c.loop-at.last
          ∙ ap (λ b. elim b [ true ↦ word_end ucd c.unit_at-kind.result.0 stop rest | false ↦ c.loop-at.at ]) (sym c.is_inside.ensures ∙ c.if-not-is_inside.false);
    }

pub returns : goal.returns
returns g c =
    let ucd = g.D.BidiData.data c.args.tables.now in
    sym (c.loop-at.invariant.same
    ∙ ap (word_end ucd c.loop-at.last c.loop-at.at) (none-left c.args.body.now c.loop-at.at (omega (arith, c.loop-at-test.false))))
