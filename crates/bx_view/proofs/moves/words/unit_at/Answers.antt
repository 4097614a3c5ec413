use Rattle.std.proofs.Common.{◌+◌, ◌∙◌, ◌||◌, true, false, ap, drop, length, sym, arith}
use Rattle.unicode_segmentation.specs.Grapheme.{graphemes}
use Rattle.bx_rows.proofs.cells_lemmas.Rest.{cluster-grows, next-cluster, past-all}
use Rattle.bx_view.specs.Words.{begins_word, first_kind, goes_on, is_of_word, kind_of, put_if, word_end, word_starts}
use Rattle.bx_view.proofs.moves.words.unit_at.Goals as goal

pub unreachable-requires : goal.unreachable-requires
unreachable-requires g c =
    let left = c.graphemes.ensures.left ∙ ap (graphemes true) c.range_from.ensures.value in
    let past = past-all c.args.body.now c.args.at c.utf8.body c.requires.start (sym left ∙ c.in-None.ensures.steps.0) in
    let some = c.requires.some in omega arith

pub returns-clause-stop : goal.returns-clause-stop
returns-clause-stop g c =
    let ucd = g.D.BidiData.data c.args.tables.now in
    let left = c.graphemes.ensures.left ∙ ap (graphemes true) c.range_from.ensures.value in
    let first = sym left ∙ c.in-Some.ensures.steps in
    let next = next-cluster ucd 1 c.args.body.now c.args.at c.in-Some.unit.now _ c.utf8.body c.requires.start first in
    let some = cluster-grows c.args.body.now c.args.at c.in-Some.unit.now _ first in
    (omega (arith, some), next.boundary)

pub returns-clause-kind : goal.returns-clause-kind
returns-clause-kind g c =
    let ucd = g.D.BidiData.data c.args.tables.now in
    let left = c.graphemes.ensures.left ∙ ap (graphemes true) c.range_from.ensures.value in
    ap (first_kind ucd) (sym left ∙ c.in-Some.ensures.steps) ∙ sym c.kind_of.ensures

pub returns-clause-starts : goal.returns-clause-starts
returns-clause-starts g c = λ second first.
    let ucd = g.D.BidiData.data c.args.tables.now in
    let at = c.args.at in
    let unit = c.in-Some.unit.now in
    let left = c.graphemes.ensures.left ∙ ap (graphemes true) c.range_from.ensures.value in
    let here = sym left ∙ c.in-Some.ensures.steps in
    let next = next-cluster ucd 1 c.args.body.now at unit _ c.utf8.body c.requires.start here in
    ap (word_starts ucd second first at) here
    ∙ ap (λ us. put_if (begins_word second first (kind_of ucd unit)) at (word_starts ucd first (kind_of ucd unit) (at + length unit) us)) next.own
    ∙ ap (λ k. put_if (begins_word second first k) at (word_starts ucd first k (at + length unit) (graphemes true (drop (at + length unit) c.args.body.now))))
    (sym c.kind_of.ensures)

pub returns-clause-end : goal.returns-clause-end
returns-clause-end g c = λ last.
    let ucd = g.D.BidiData.data c.args.tables.now in
    let at = c.args.at in
    let unit = c.in-Some.unit.now in
    let left = c.graphemes.ensures.left ∙ ap (graphemes true) c.range_from.ensures.value in
    let here = sym left ∙ c.in-Some.ensures.steps in
    let next = next-cluster ucd 1 c.args.body.now at unit _ c.utf8.body c.requires.start here in
    let rest = graphemes true (drop (at + length unit) c.args.body.now) in
    ap (word_end ucd last at) here
    ∙ ap (λ us. elim (is_of_word (kind_of ucd unit) || goes_on last (kind_of ucd unit) (first_kind ucd us)) [
      | true ↦ word_end ucd (kind_of ucd unit) (at + length unit) us
      | false ↦ at
    ]) next.own
    ∙ ap (λ k. elim (is_of_word k || goes_on last k (first_kind ucd rest)) [ true ↦ word_end ucd k (at + length unit) rest | false ↦ at ])
    (sym c.kind_of.ensures)
