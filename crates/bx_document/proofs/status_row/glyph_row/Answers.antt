use Rattle.std.proofs.Common.{◌∙◌, take}
use Rattle.bx_document.proofs.Fitting.{row-of}
use Rattle.bx_document.proofs.status_row.glyph_row.Goals as goal

pub returns-clause-row : goal.returns-clause-row
returns-clause-row c =
    let ds = c.args.glyphs.now in
    c.in_ok-row.ensures.row
    ∙ row-of c.args.width ds (take c.fit_count-count.result ds) c.fit_count-count.ensures.fitting c.fit_count-count.ensures.room
