use Rattle.std.proofs.Common.{true, sym, ap, ◌∙◌, arith}
use Rattle.unicode_segmentation.specs.Grapheme.{graphemes}
use Rattle.bx_rows.proofs.cells_lemmas.Rest.{next-cluster, past-all, cluster-grows, unit-next}
use Rattle.bx_rows.proofs.cells.by_rules.ruled_unit.Goals as goal

pub unreachable-requires : goal.unreachable-requires
unreachable-requires g c =
    let left = c.graphemes.ensures.left ∙ ap (graphemes true) c.range_from.ensures.value in
    let past = past-all c.args.body.now c.args.at c.utf8.body c.requires.start (sym left ∙ c.in-None.ensures.steps.0) in
    let some = c.requires.some in omega arith

pub returns-clause-units : goal.returns-clause-units
returns-clause-units g c =
    let ucd = g.D.BidiData.data c.args.tables.now in
    let left = c.graphemes.ensures.left ∙ ap (graphemes true) c.range_from.ensures.value in
    let next = next-cluster ucd c.args.w c.args.body.now c.args.at c.in-Some.cluster.now _ c.utf8.body c.requires.start
    (sym left ∙ c.in-Some.ensures.steps) in
    unit-next ucd c.args.w c.args.body.now c.args.at c.in-Some.cluster.now _ c.face.result next c.face.ensures

pub returns-clause-stop : goal.returns-clause-stop
returns-clause-stop g c =
    let ucd = g.D.BidiData.data c.args.tables.now in
    let left = c.graphemes.ensures.left ∙ ap (graphemes true) c.range_from.ensures.value in
    let first = sym left ∙ c.in-Some.ensures.steps in
    let next = next-cluster ucd c.args.w c.args.body.now c.args.at c.in-Some.cluster.now _ c.utf8.body c.requires.start first in
    let some = cluster-grows c.args.body.now c.args.at c.in-Some.cluster.now _ first in
    (omega (arith, some), next.boundary)
