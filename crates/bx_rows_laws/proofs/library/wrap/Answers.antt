use Rattle.bx_rows.proofs.EachRow.{faces-fit}
use Rattle.bx_rows_laws.proofs.Joined.{cut_if_wrapped}
use Rattle.bx_rows.proofs.RowsFit.{fit_if_wrapped}
use Rattle.bx_rows_laws.proofs.library.wrap.Goals as goal

pub returns-clause-fit : goal.returns-clause-fit
returns-clause-fit g c = fit_if_wrapped (g.D.BidiData.data c.args.tables.now) c.args.w c.args.body.now c.args.units.now _ c.in_ok-all_rows.ensures

pub returns-clause-cut : goal.returns-clause-cut
returns-clause-cut g c some =
    let ucd = g.D.BidiData.data c.args.tables.now in
    let us = c.args.units.now in
    cut_if_wrapped ucd c.args.w c.args.body.now us _ some (faces-fit ucd c.args.w c.args.body.now us c.requires.faces) c.in_ok-all_rows.ensures
