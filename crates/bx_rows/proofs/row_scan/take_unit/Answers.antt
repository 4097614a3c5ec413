use Rattle.bx_rows.proofs.row_scan.take_unit.Goals as goal

pub returns-then-fits-clause-takes : goal.returns-then-fits-clause-takes
returns-then-fits-clause-takes c = c.advance.ensures.takes c.args.starts.now.items
