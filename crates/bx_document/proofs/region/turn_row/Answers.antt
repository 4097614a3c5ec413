use Rattle.std.proofs.Common.{◌∙◌, ap, subst, sym}
use Rattle.std.specs.Prelude.{All}
use Rattle.bx_document.specs.Shown.{with_rows}
use Rattle.bx_document.specs.RegionSlots.{IsSpan, row_in}
use Rattle.bx_document.proofs.RegionRow.{row-laid, row-spans}
use Rattle.bx_document.proofs.region.turn_row.Goals as goal

pub turn_slots-requires-clause-spans : goal.turn_slots-requires-clause-spans
turn_slots-requires-clause-spans g c =
    let n = c.requires.at.0 in
    let on = c.requires.at.1 in
    subst (All (IsSpan (row_in c.args.grid.now c.args.row))) (sym c.deref.ensures.value)
    (row-spans (g.D.BidiData.data c.args.text_ref.now.tables.now) c.args.view.now c.args.text_ref.now.text.now.edited.text c.args.text_ref.now.utf8 c.args.at n on
    (c.args.region.start, c.args.region.stop) (row_in c.args.grid.now c.args.row) c.in_ok-slots.slots.items (c.requires.drawn n on) (c.in_ok-slots.ensures n on))

pub returns : goal.returns
returns g c = λ n on.
    c.turn_slots.ensures
    ∙ ap (with_rows c.args.grid.now c.args.row)
    (row-laid (g.D.BidiData.data c.args.text_ref.now.tables.now) c.args.view.now c.args.text_ref.now.text.now.edited.text c.args.text_ref.now.utf8 c.args.at n on
    (c.args.region.start, c.args.region.stop) (row_in c.args.grid.now c.args.row) c.deref.result.now (c.requires.drawn n on) (c.deref.ensures.value ∙ c.in_ok-slots.ensures n on))
