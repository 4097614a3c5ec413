use Rattle.std.proofs.Common.{◌∙◌, ap, ap₂}
use Rattle.bx_paragraph.specs.BodyRows.{row_glyphs}
use Rattle.bx_paragraph.specs.LayoutRowRef.{row}
use Rattle.bx_view.specs.Placed.{columns}
use Rattle.bx_view.specs.TextRows.{text_row_glyphs}
use Rattle.bx_view.proofs.view.View.picture.Goals as goal

pub returns-clause-picture : goal.returns-clause-picture
returns-clause-picture g c = λ n on.
    let s = c.row.result in
    c.in_ok-picture.ensures.picture
    ∙ ap (λ t. row_glyphs (g.D.BidiData.data t) (columns s) (row s)) c.row.ensures.tables
    ∙ ap₂ (text_row_glyphs (g.D.BidiData.data c.args.text_ref.now.tables.now)) c.row.ensures.columns (c.row.ensures.row n on)
