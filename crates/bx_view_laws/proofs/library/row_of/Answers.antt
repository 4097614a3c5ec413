use Rattle.std.proofs.Common.{◌+◌, ◌≡◌, ◌<◌, ◌∙◌, ap, arith, length}
use Rattle.bx_view.specs.FoundRow.{rows_by}
use Rattle.bx_view.specs.Standing.{rows_ahead}
use Rattle.bx_view.specs.TextRows.{row_of}
use Rattle.bx_view_laws.proofs.Counted.{few-rows}
use Rattle.bx_paragraph.proofs.Starts.{side-some}
use Rattle.bx_view.proofs.Walking.{row-within}
use Rattle.bx_view_laws.proofs.library.row_of.Goals as goal

pub overflow_add-result : goal.overflow_add-result
overflow_add-result g c =
    let ucd = g.D.BidiData.data c.args.text_ref.now.tables.now in
    let text = c.args.text_ref.now.text.now.edited.text in
    let v = c.row_at.new.self in
    let at = c.in_ok-at.at in
    let on = c.in_ok-at.ensures.row in
    let some = side-some v.w on.side in
    let n = row_of (rows_by ucd v text) c.args.offset in
    let number : n ≡ rows_ahead ucd v.base v.w text at.paragraph + at.row = on.is.is in
    let within : n < length (rows_by ucd v text) =
    row-within ucd v.base v.w some text c.args.text_ref.now.utf8 at.paragraph at.row n on.is in
    let ahead : c.in_ok-ahead.ahead ≡ rows_ahead ucd v.base v.w text at.paragraph =
    c.in_ok-ahead.ensures v.base ∙ ap (λ w. rows_ahead ucd v.base w text at.paragraph) c.width-w.ensures.width in
    omega (arith, ahead, number, within, few-rows ucd v.base v.w some text c.args.text_ref.now.utf8, c.args.text_ref.now.short)
