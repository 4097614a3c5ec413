use Rattle.std.proofs.Common.{◌≡◌, ◌∙◌, ap₂, refl}
use Rattle.bx_view.specs.TextRows.{cell_of}
use Rattle.bx_view.proofs.CachedRows.{rows-kept}
use Rattle.bx_document.proofs.FirstRow.{none-before, number-none, number-some, some-before}
use Rattle.bx_document.proofs.input_line.cell_in_first_row.Goals as goal

pub returns-in-Some-clause-cell : goal.returns-in-Some-clause-cell
returns-in-Some-clause-cell g c =
    let s = c.args.text_ref.now in
    let ucd = g.D.BidiData.data s.tables.now in
    let text = s.text.now.edited.text in
    let before = c.in_ok-row_before.ensures.before _ c.in_ok-at.ensures.row in
    some-before ucd text c.args.view.now c.row_at.new.self c.row_before.new.self c.args.place _ c.in_ok-at.ensures.keeps refl
    (number-some ucd c.row_before.new.self text _ c.in_ok-row_before.field-0 c.in-Some.field-0 before c.in-Some.is)

pub returns-clause-cell : goal.returns-clause-cell
returns-clause-cell g c =
    let s = c.args.text_ref.now in
    let ucd = g.D.BidiData.data s.tables.now in
    let text = s.text.now.edited.text in
    let before = c.in_ok-row_before.ensures.before _ c.in_ok-at.ensures.row in
    let there : c.in_ok-cell.cell ≡ cell_of c.args.view.now.w (Rattle.bx_view.specs.FoundRow.rows_by ucd c.args.view.now text) c.args.place =
    c.in_ok-cell.ensures.cell
    ∙ ap₂ (λ w rs. cell_of w rs c.args.place) (c.in_ok-row_before.ensures.keeps.w ∙ c.in_ok-at.ensures.keeps.w)
    (rows-kept ucd c.row_at.new.self c.row_before.new.self text c.in_ok-row_before.ensures.keeps
    ∙ rows-kept ucd c.args.view.now c.row_at.new.self text c.in_ok-at.ensures.keeps) in
    none-before ucd text c.args.view.now c.row_at.new.self c.row_before.new.self c.args.place _ c.in_ok-at.ensures.keeps refl c.in_ok-cell.cell there
    (number-none ucd c.row_before.new.self text _ c.in_ok-row_before.field-0 before c.in_default.not-Some)
