use Rattle.std.proofs.Common.{◌≡◌, ◌≤◌, ◌+◌, ◌-◌, true, false, length, get_or, ap, subst, ◌∙◌, arith}
use Rattle.bx_common.specs.Characters.{is_ascii_printable}
use Rattle.std.proofs.lemmas.List.{get_or-take, length-take-le}
use Rattle.bx_rows.specs.Wrapping.{is_blank}
use Rattle.bx_rows.proofs.AsciiRuns.{ascii-longer}
use Rattle.bx_rows.proofs.ascii_part.ascii_run.Goals as goal

pub returns-clause-units : goal.returns-clause-units
returns-clause-units g c =
    let ucd = g.D.BidiData.data c.args.tables.now in
    let body = c.args.body.now in
    let at = c.args.at in
    let bytes = c.as_bytes-bytes.result.now in
    let same = c.as_bytes-bytes.ensures.value in
    let size = ap length same in
    let limit = at + c.min.result in
    let stop = c.printable_stop-behind.result - 1 in
    let few = c.min.ensures in
    let some = c.if-behind-at-le1.false in
    let inside = c.printable_stop-behind.ensures.inside in
    let from = c.break_behind-next.ensures.from in
    let to = c.break_behind-next.ensures.to in
    let within : limit ≤ length bytes = omega (arith, few, size) in
    let cut = length-take-le limit bytes within in
    (ascii-longer ucd body at c.utf8.body c.requires stop c.break_behind-next.result from to (omega (arith, some, inside, cut, within, size))
    (λ i f t. subst (λ b. is_ascii_printable b ≡ true)
    (get_or-take limit bytes i 0 (omega (arith, t, some, inside, cut)) ∙ ap (λ xs. get_or xs i 0) same)
    (c.printable_stop-behind.ensures.printable i f (omega (arith, t, some))))
    (λ i f e. subst (λ xs. is_blank (ucd.class (get_or xs i 0)) ≡ true) same (c.break_behind-next.ensures.last i f e))
    (λ i f t. subst (λ xs. is_blank (ucd.class (get_or xs i 0)) ≡ false) same (c.break_behind-next.ensures.none i f t))).units
