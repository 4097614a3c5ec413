use Rattle.std.proofs.Common.{◌∙◌, length, min}
use Rattle.bx_view.specs.TextRows.{first, row_of}
use Rattle.bx_view.specs.Top.{last_top}
use Rattle.bx_view.proofs.Beyond.{keeps-then}
use Rattle.bx_view.proofs.KeptRows.{far-row}
use Rattle.bx_view.proofs.view.View.filled.Goals as goal

pub first_in-requires : goal.first_in-requires
first_in-requires g c = record { row = (_, c.in_ok-there.ensures.row _ c.in_ok-at.ensures.row) }

pub returns-clause-top : goal.returns-clause-top
returns-clause-top g c =
    let ucd = g.D.BidiData.data c.args.text_ref.now.tables.now in
    let text = c.args.text_ref.now.text.now.edited.text in
    let old = c.args.self.now in
    let v = c.row_at.new.self in
    let later = c.row_to_fill.new.self in
    let keeps = c.row_at.ensures.keeps in
    let on = c.in_ok-at.ensures.row in
    c.first_in.ensures _ (c.in_ok-there.ensures.row _ on)
    ∙ far-row ucd old v text c.args.top c.in_ok-at.at c.args.text_ref.now.utf8 keeps on later (keeps-then ucd old v later keeps c.row_to_fill.ensures.keeps)
    first (λ rs. min (row_of rs c.args.top) (last_top (length rs) c.args.t))
