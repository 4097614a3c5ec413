use Rattle.std.proofs.Common.{◌∙◌, true, ap, sym, arith}
use Rattle.unicode_segmentation.specs.Grapheme.{graphemes}
use Rattle.bx_rows.proofs.cells_lemmas.Rest.{cluster-grows, past-all}
use Rattle.bx_view.proofs.UnitSteps.{next-bound}
use Rattle.bx_view.proofs.going.unit_end.Goals as goal

pub unreachable-requires : goal.unreachable-requires
unreachable-requires c =
    let left = c.graphemes.ensures.left ∙ ap (graphemes true) c.range_from.ensures.value in
    let past = past-all c.args.body.now c.args.at c.utf8.body c.requires.start (sym left ∙ c.in-None.ensures.steps.0) in
    let some = c.requires.some in omega arith

pub returns-clause-later : goal.returns-clause-later
returns-clause-later c =
    let left = c.graphemes.ensures.left ∙ ap (graphemes true) c.range_from.ensures.value in
    let some = cluster-grows c.args.body.now c.args.at c.in-Some.unit.now _ (sym left ∙ c.in-Some.ensures.steps) in
    omega (arith, some)

pub returns-clause-boundary : goal.returns-clause-boundary
returns-clause-boundary c =
    let left = c.graphemes.ensures.left ∙ ap (graphemes true) c.range_from.ensures.value in
    (next-bound c.args.body.now c.args.at c.in-Some.unit.now _ c.utf8.body c.requires.start (sym left ∙ c.in-Some.ensures.steps)).bounds

pub returns-clause-places : goal.returns-clause-places
returns-clause-places c =
    let left = c.graphemes.ensures.left ∙ ap (graphemes true) c.range_from.ensures.value in
    (next-bound c.args.body.now c.args.at c.in-Some.unit.now _ c.utf8.body c.requires.start (sym left ∙ c.in-Some.ensures.steps)).places
