use Rattle.std.proofs.Common.{◌≤◌, ◌∙◌, ap, subst, sym}
use Rattle.bx_common.specs.Characters.{is_side}
use Rattle.bx_paragraph.proofs.Starts.{side-some}
use Rattle.bx_view.specs.TextRows.{cell_of}
use Rattle.bx_view.proofs.CellColumns.{cell-inside}
use Rattle.bx_view.proofs.Beyond.{kept}
use Rattle.bx_view.proofs.view.View.cell_of.Goals as goal

pub returns-clause-cell : goal.returns-clause-cell
returns-clause-cell g c =
    c.in_ok-position.ensures.column
    ∙ kept (g.D.BidiData.data c.args.text_ref.now.tables.now) c.args.self.now c.row_at.new.self
    c.args.text_ref.now.text.now.edited.text c.row_at.ensures.keeps (λ w rs. cell_of w rs c.args.place)

pub returns-clause-inside : goal.returns-clause-inside
returns-clause-inside g c =
    let v = c.args.self.now in
    let some = side-some v.w (sym (ap is_side c.row_at.ensures.keeps.w) ∙ c.in_ok-at.ensures.row.side) in
    subst (λ n. (1 ≤ n) × (n ≤ v.w)) (sym (returns-clause-cell g c))
    (cell-inside (g.D.BidiData.data c.args.text_ref.now.tables.now) v.base v.w c.args.text_ref.now.text.now.edited.text c.args.place some
    c.args.text_ref.now.utf8)
