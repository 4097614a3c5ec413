use Rattle.std.proofs.Common.{◌∙◌, ap}
use Rattle.std.specs.Prelude.{map}
use Rattle.bx_rows.specs.RowPicture.{unit_columns}
use Rattle.bx_rows.specs.Shown.{glyph_of}
use Rattle.bx_rows.specs.RowLevels.{visual}
use Rattle.bx_rows.proofs.Pieces.{own-of}
use Rattle.bx_rows.proofs.picture.unit_row.Goals as goal

pub returns-clause-glyphs : goal.returns-clause-glyphs
returns-clause-glyphs g c =
    let row = c.args.row.now in
    let lines = row.lines in
    own-of (g.D.BidiData.data lines.tables.now) lines.w lines.body.now lines.levels.now.each.items row.units.items row.levels.items _ _ _ _
    (c.deref-3.ensures.value ∙ c.in_ok-columns.ensures.columns ∙ ap (unit_columns lines.w 0) c.deref.ensures.value)
    (c.deref-4.ensures.value ∙ c.in_ok-order.ensures.order ∙ ap visual c.deref-2.ensures.value)
    (ap (map glyph_of) c.in_ok-glyphs.ensures.items) c.in_ok-push_units.ensures
