use Rattle.std.proofs.Common.{sym, subst, arith}
use Rattle.bx_rows.specs.cells.UnitFacts.{units_from}
use Rattle.bx_rows.specs.RowScan.{IsRead}
use Rattle.bx_rows.proofs.NarrowSteps.{read-run}
use Rattle.bx_rows.proofs.start_search.read_run.Goals as goal

pub returns-clause-read : goal.returns-clause-read
returns-clause-read g c = λ starts read.
    let ucd = g.D.BidiData.data c.args.tables.now in
    let body = c.args.body.now in
    let w = c.args.w in
    let most = c.narrow_run-run.ensures.most in
    let within = c.requires.in_turn.within in
    subst (λ s. IsRead ucd w body starts s (units_from ucd w body c.narrow_run-run.result.stop)) (sym c.take_run.ensures.run)
    (read-run ucd w body starts c.args.scan c.args.at c.narrow_run-run.result (c.narrow_run-run.ensures.units w) (omega (arith, most, within)) read)
