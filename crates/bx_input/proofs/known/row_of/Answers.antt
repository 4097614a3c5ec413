use Rattle.std.proofs.Common.{◌≡◌, ◌∙◌, ap, sym, false, find}
use Rattle.std.specs.Str.{bytes_eq}
use Rattle.bx_input.specs.Table.{Row, erase_row, fixed_rows}
use Rattle.bx_input.proofs.Sequences.{found, first_or}
use Rattle.bx_input.proofs.known.row_of.Goals as goal

pub returns-else-eq : goal.returns-else-eq
returns-else-eq c =
    let bs = c.args.bytes.now in
    let other : bytes_eq (erase_row c.args.erases_by_delete).sequence bs ≡ false =
    ap (λ (r : Row). bytes_eq r.sequence bs) (sym c.erase_row-first.ensures) ∙ sym c.eq.ensures ∙ c.if-eq.false in
    c.row_among.ensures
    ∙ found c.fixed_rows.result.now bs
    ∙ ap (find (λ (r : Row). bytes_eq r.sequence bs)) c.fixed_rows.ensures
    ∙ sym (first_or (erase_row c.args.erases_by_delete) fixed_rows bs false other)
