use Rattle.std.proofs.Common.{◌∙◌, ap, ap₂}
use Rattle.bx_rows.specs.Lines.{levels_of}
use Rattle.bx_rows.specs.RowPicture.{own_glyphs}
use Rattle.bx_rows.proofs.PictureLaws.{one_if_own}
use Rattle.bx_rows.proofs.row_layout.RowLayout.own_glyphs.Goals as goal

pub returns-clause-picture : goal.returns-clause-picture
returns-clause-picture g c =
    let row = c.args.self.now in
    let lines = row.lines in
    c.in_ok-glyphs.ensures.glyphs
    ∙ ap₂ (own_glyphs (g.D.BidiData.data lines.tables.now) lines.w lines.body.now lines.levels.now.each.items) row.cut
    (row.leveled ∙ ap (levels_of lines) row.cut)

pub returns-clause-glyphs : goal.returns-clause-glyphs
returns-clause-glyphs g c k d l =
    let row = c.args.self.now in
    let lines = row.lines in
    (one_if_own (g.D.BidiData.data lines.tables.now) lines.w lines.body.now lines.levels.now.each.items row.units.items row.levels.items _
    c.in_ok-glyphs.ensures.glyphs row.faces k d l).0

pub returns-clause-widths : goal.returns-clause-widths
returns-clause-widths g c k d l =
    let row = c.args.self.now in
    let lines = row.lines in
    (one_if_own (g.D.BidiData.data lines.tables.now) lines.w lines.body.now lines.levels.now.each.items row.units.items row.levels.items _
    c.in_ok-glyphs.ensures.glyphs row.faces k d l).1
