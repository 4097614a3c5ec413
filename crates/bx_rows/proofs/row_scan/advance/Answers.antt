use Rattle.std.proofs.Common.{◌+◌, sym, subst}
use Rattle.bx_rows.specs.RowScan.{Takes}
use Rattle.bx_rows.specs.Wrapping.{columns_at}
use Rattle.bx_rows.proofs.RowReads.{takes-more, takes-break}
use Rattle.bx_rows.proofs.row_scan.advance.Goals as goal

pub returns-then-unit-clause-takes : goal.returns-then-unit-clause-takes
returns-then-unit-clause-takes c = λ starts.
    let s = c.args.scan in
    subst (λ n. Takes c.args.w c.args.body.now c.args.unit starts s starts
    (record { start = s.start; next = c.args.unit.stop; columns = s.columns + n; last = s.last + s.count + 1; count = 0; since = 0 }))
    (sym c.columns_at.ensures) (takes-break c.args.w c.args.body.now c.args.unit starts s c.requires.fits c.if-unit.true)

pub returns-clause-takes : goal.returns-clause-takes
returns-clause-takes c = λ starts.
    let s = c.args.scan in
    subst (λ n. Takes c.args.w c.args.body.now c.args.unit starts s starts
    (record { start = s.start; next = s.next; columns = s.columns + n; last = s.last; count = s.count + 1; since = s.since + c.columns_at-2.result }))
    (sym c.columns_at.ensures)
    (subst (λ n. Takes c.args.w c.args.body.now c.args.unit starts s starts
    (record {
      start = s.start;
      next = s.next;
      columns = s.columns + columns_at c.args.w s.columns c.args.unit.face;
      last = s.last;
      count = s.count + 1;
      since = s.since + n;
    }))
    (sym c.columns_at-2.ensures) (takes-more c.args.w c.args.body.now c.args.unit starts s c.requires.fits c.if-unit.false))
