use Rattle.std.proofs.Common.{◌≡◌, ◌+◌, ◌≤◌, ap, ◌∙◌, arith, length}
use Rattle.bx_paragraph.specs.BodyRows.{first_of}
use Rattle.bx_paragraph.specs.Layout.{row_by}
use Rattle.bx_view.specs.TextRows.{first}
use Rattle.bx_view.proofs.CachedRows.{first-fits, of-row}
use Rattle.bx_view.proofs.view.View.first_in.Goals as goal

pub overflow_add-result : goal.overflow_add-result
overflow_add-result g c =
    let ucd = g.D.BidiData.data c.args.text_ref.now.tables.now in
    let row = c.requires.row in
    let first-is : c.first.result ≡ first_of (row_by ucd c.paragraph-paragraph.result.now c.args.at.row) =
    c.first.ensures ucd c.paragraph-paragraph.ensures.by in
    let fits : c.args.at.start + first_of (row_by ucd c.paragraph-paragraph.result.now c.args.at.row) ≤ length c.args.text_ref.now.text.now.edited.text =
    first-fits ucd c.args.self.now c.args.text_ref.now.text.now.edited.text c.args.at row.0 c.paragraph-paragraph.result.now c.args.text_ref.now.utf8 row.1
    c.paragraph-paragraph.ensures in
    omega (arith, first-is, fits, c.args.text_ref.now.short)

pub returns : goal.returns
returns g c = λ n on.
    let ucd = g.D.BidiData.data c.args.text_ref.now.tables.now in
    ap (λ k. c.args.at.start + k) (c.first.ensures ucd c.paragraph-paragraph.ensures.by)
    ∙ of-row ucd c.args.self.now c.args.text_ref.now.text.now.edited.text c.args.at n c.paragraph-paragraph.result.now c.args.text_ref.now.utf8 on
    c.paragraph-paragraph.ensures first
