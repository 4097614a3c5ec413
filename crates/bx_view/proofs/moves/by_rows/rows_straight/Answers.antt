use Rattle.std.proofs.Common.{◌∙◌, ap}
use Rattle.bx_view.specs.declared.moves.Goal.TheVariants.{Column}
use Rattle.bx_view.specs.FoundRow.{rows_by}
use Rattle.bx_view.specs.Moves.{rows_away}
use Rattle.bx_view.proofs.Beyond.{kept}
use Rattle.bx_view.proofs.moves.by_rows.rows_straight.Goals as goal

pub returns-clause-place : goal.returns-clause-place
returns-clause-place g c =
    let ucd = g.D.BidiData.data c.args.text_ref.now.tables.now in
    let text = c.args.text_ref.now.text.now.edited.text in
    let old = c.args.view.now in
    c.in_ok-place.ensures.place
    ∙ kept ucd old c.cell_of.new.self text c.cell_of.ensures.keeps
    (λ w rs. rows_away w rs c.args.way c.args.count (Column c.in_ok-column.column) c.args.place)
    ∙ ap (λ column. rows_away old.w (rows_by ucd old text) c.args.way c.args.count (Column column) c.args.place) c.in_ok-column.ensures.cell
