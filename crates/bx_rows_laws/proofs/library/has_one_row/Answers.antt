use Rattle.std.proofs.Common.{length, sym, ◌∙◌, arith, leb-true}
use Rattle.bx_rows.proofs.cells_lemmas.Printable.{printable-simple}
use Rattle.bx_rows_laws.proofs.OneRow.{one_row-simple}
use Rattle.bx_rows_laws.proofs.library.has_one_row.Goals as goal

pub returns-then-is_printable : goal.returns-then-is_printable
returns-then-is_printable c = λ yes ucd.
    let p = printable-simple c.args.body.now (sym c.is_printable.ensures ∙ c.if-is_printable.true) in
    one_row-simple ucd c.args.w c.args.body.now c.utf8.body p.0 (omega (arith, p.1, leb-true (length c.args.body.now) c.args.w yes))

pub returns : goal.returns
returns c = λ yes ucd.
    let p = c.is_simple_within.ensures yes in one_row-simple ucd c.args.w c.args.body.now c.utf8.body p.0 p.1
