use Rattle.std.proofs.Common.{◌∙◌, sym}
use Rattle.std.proofs.lemmas.Str.{IsCharBoundary-start}
use Rattle.bx_document.proofs.LastPoints.{last-bounds, of-nothing, of-other, of-point}
use Rattle.bx_document.proofs.points.point_start.Goals as goal

pub returns-in_default-clause-start : goal.returns-in_default-clause-start
returns-in_default-clause-start g c = of-nothing (g.D.BidiData.data c.args.tables.now) c.args.unit.now c.in_default.ensures

pub returns-then-is_point-clause-start : goal.returns-then-is_point-clause-start
returns-then-is_point-clause-start g c =
    of-point (g.D.BidiData.data c.args.tables.now) c.args.unit.now c.in-Some.before.now c.in-Some.c c.in-Some.ensures.2 c.in-Some.ensures.1
    (sym c.is_point.ensures ∙ c.if-is_point.true)

pub returns-then-is_point-clause-boundary : goal.returns-then-is_point-clause-boundary
returns-then-is_point-clause-boundary g c =
    last-bounds c.args.unit.now c.in-Some.before.now c.in-Some.c c.utf8.unit c.in-Some.ensures.2 c.in-Some.ensures.0

pub returns-clause-start : goal.returns-clause-start
returns-clause-start g c =
    of-other (g.D.BidiData.data c.args.tables.now) c.args.unit.now c.in-Some.before.now c.in-Some.c c.in-Some.ensures.2 c.in-Some.ensures.1
    (sym c.is_point.ensures ∙ c.if-is_point.false)

pub returns-clause-boundary : goal.returns-clause-boundary
returns-clause-boundary g c = IsCharBoundary-start c.args.unit.now c.utf8.unit
