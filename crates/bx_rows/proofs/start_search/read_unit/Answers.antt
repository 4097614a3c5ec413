use Rattle.std.proofs.Common.{sym, ap, subst, ◌∙◌}
use Rattle.bx_rows.specs.cells.UnitFacts.{units_from}
use Rattle.bx_rows.specs.RowScan.{IsRead}
use Rattle.bx_rows.proofs.start_search.read_unit.Goals as goal

pub returns-clause-read : goal.returns-clause-read
returns-clause-read g c = λ read.
    let ucd = g.D.BidiData.data c.args.tables.now in
    let body = c.args.body.now in
    let w = c.args.w in
    let x = c.extent-unit.ensures.unit in
    let here = ap (units_from ucd w body) (sym c.extent-unit.ensures.start) ∙ x.extent.here in
    c.in_ok-scan.ensures.takes ucd x.unit (units_from ucd w body c.extent-unit.result.stop) x.extent
    (subst (λ r. IsRead ucd w body c.args.starts.now.items c.args.scan r) here read)
