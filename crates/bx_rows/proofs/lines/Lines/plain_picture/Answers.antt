use Rattle.std.proofs.Common.{refl, sym, length, ap, ◌∙◌, arith, map}
use Rattle.bx_rows.specs.RowLevels.{row_levels}
use Rattle.bx_rows.specs.RowPicture.{with_blanks}
use Rattle.bx_rows.specs.RowStarts.{units_of_row}
use Rattle.bx_rows.proofs.EachRow.{part-at}
use Rattle.bx_rows.proofs.PictureLaws.{one_if_drawn, sum_if_drawn}
use Rattle.bx_rows.proofs.PlainDrawn.{drawn-single, faces, fits, if_some, single-fits, taken}
use Rattle.bx_rows.proofs.Resets.{one_each}
use Rattle.bx_rows.proofs.RowPlaces.{starts-at}
use Rattle.bx_rows.specs.Shown.{glyph_of}
use Rattle.bx_rows.proofs.lines.Lines.plain_picture.Goals as goal

pub most_units-count-requires : goal.most_units-count-requires
most_units-count-requires g c =
    (part-at (g.D.BidiData.data c.args.self.now.tables.now) c.args.self.now.w c.args.self.now.body.now c.args.self.now.starts.now c.args.number _ c.start_of.result c.args.self.now.utf8
    c.args.self.now.rows c.requires c.start_of.ensures).order

pub plain_row-requires : goal.plain_row-requires
plain_row-requires g c =
    (part-at (g.D.BidiData.data c.args.self.now.tables.now) c.args.self.now.w c.args.self.now.body.now c.args.self.now.starts.now c.args.number _ c.start_of.result c.args.self.now.utf8
    c.args.self.now.rows c.requires c.start_of.ensures).boundary

pub columns_left-blanks-requires : goal.columns_left-blanks-requires
columns_left-blanks-requires g c =
    let ucd = g.D.BidiData.data c.args.self.now.tables.now in
    let body = c.args.self.now.body.now in
    let part = part-at ucd c.args.self.now.w body c.args.self.now.starts.now c.args.number _ c.start_of.result c.args.self.now.utf8 c.args.self.now.rows c.requires
    c.start_of.ensures in
    let within = single-fits ucd c.args.self.now.w body c.args.number c.most_units-count.result _ c.start_of.result _ c.args.self.now.utf8 part c.most_units-count.ensures
    c.in-Some.found.items (if_some _ _ _ c.in-Some.is c.in_ok-found.ensures.units) in
    let counted = c.in_ok-glyphs.ensures.count in
    omega (arith, within, counted, c.len.ensures, c.in_ok-glyphs.glyphs.ok.0)

pub arranged-requires-clause-start : goal.arranged-requires-clause-start
arranged-requires-clause-start g c =
    let self = c.args.self.now in
    starts-at (g.D.BidiData.data self.tables.now) self.w self.body.now self.starts.now c.args.number _ self.utf8 self.rows c.requires

pub returns-clause-picture : goal.returns-clause-picture
returns-clause-picture g c =
    let ucd = g.D.BidiData.data c.args.self.now.tables.now in
    let body = c.args.self.now.body.now in
    let part = part-at ucd c.args.self.now.w body c.args.self.now.starts.now c.args.number _ c.start_of.result c.args.self.now.utf8 c.args.self.now.rows c.requires
    c.start_of.ensures in
    let here = units_of_row ucd c.args.self.now.w body c.args.number in
    let told = taken ucd c.args.self.now.w body c.args.number c.most_units-count.result _ c.start_of.result _ c.args.self.now.utf8 part c.most_units-count.ensures in
    drawn-single ucd c.args.self.now.w body c.args.number c.most_units-count.result _ c.start_of.result _ c.args.self.now.utf8 part c.most_units-count.ensures
    c.args.self.now.levels.now.paragraph _ c.args.self.now.levels.now.each.items c.in-Some.found.items _ _
    c.deref.result.now
    (starts-at ucd c.args.self.now.w body c.args.self.now.starts.now c.args.number _ c.args.self.now.utf8 c.args.self.now.rows c.requires)
    (if_some _ _ _ c.in-Some.is c.in_ok-found.ensures.units)
    (ap length c.deref.ensures.value ∙ if_some _ _ _ c.in-Some.is c.in_ok-found.ensures.count)
    (c.deref.ensures.value ∙ if_some _ _ _ c.in-Some.is c.in_ok-found.ensures.levels here (sym told) part.chars)
    c.in_ok-glyphs.ensures.order
    (c.len.ensures ∙ c.in_ok-glyphs.glyphs.ok.0 ∙ c.in_ok-glyphs.ensures.count)
    (c.in_ok-glyphs-2.ensures ∙ ap (λ b. with_blanks c.args.self.now.levels.now.paragraph b (map glyph_of c.in_ok-glyphs.glyphs.items)) c.columns_left-blanks.ensures)

pub returns-clause-glyphs : goal.returns-clause-glyphs
returns-clause-glyphs g c k d l =
    let ucd = g.D.BidiData.data c.args.self.now.tables.now in
    let body = c.args.self.now.body.now in
    let part = part-at ucd c.args.self.now.w body c.args.self.now.starts.now c.args.number _ c.start_of.result c.args.self.now.utf8 c.args.self.now.rows c.requires
    c.start_of.ensures in
    let here = units_of_row ucd c.args.self.now.w body c.args.number in
    (one_if_drawn ucd c.args.self.now.w body c.args.self.now.levels.now.paragraph c.args.self.now.levels.now.each.items here
    (row_levels ucd body c.args.self.now.levels.now.paragraph c.args.self.now.levels.now.each.items here) _ (returns-clause-picture g c)
    (faces ucd c.args.self.now.w body c.args.number c.most_units-count.result _ c.start_of.result _ c.args.self.now.utf8 part c.most_units-count.ensures) k d l).0

pub returns-clause-widths : goal.returns-clause-widths
returns-clause-widths g c k d l =
    let ucd = g.D.BidiData.data c.args.self.now.tables.now in
    let body = c.args.self.now.body.now in
    let part = part-at ucd c.args.self.now.w body c.args.self.now.starts.now c.args.number _ c.start_of.result c.args.self.now.utf8 c.args.self.now.rows c.requires
    c.start_of.ensures in
    let here = units_of_row ucd c.args.self.now.w body c.args.number in
    (one_if_drawn ucd c.args.self.now.w body c.args.self.now.levels.now.paragraph c.args.self.now.levels.now.each.items here
    (row_levels ucd body c.args.self.now.levels.now.paragraph c.args.self.now.levels.now.each.items here) _ (returns-clause-picture g c)
    (faces ucd c.args.self.now.w body c.args.number c.most_units-count.result _ c.start_of.result _ c.args.self.now.utf8 part c.most_units-count.ensures) k d l).1

pub returns-clause-columns : goal.returns-clause-columns
returns-clause-columns g c =
    let ucd = g.D.BidiData.data c.args.self.now.tables.now in
    let body = c.args.self.now.body.now in
    let part = part-at ucd c.args.self.now.w body c.args.self.now.starts.now c.args.number _ c.start_of.result c.args.self.now.utf8 c.args.self.now.rows c.requires
    c.start_of.ensures in
    let here = units_of_row ucd c.args.self.now.w body c.args.number in
    let each = row_levels ucd body c.args.self.now.levels.now.paragraph c.args.self.now.levels.now.each.items here in
    sum_if_drawn ucd c.args.self.now.w body c.args.self.now.levels.now.paragraph c.args.self.now.levels.now.each.items here each _ (returns-clause-picture g c)
    (faces ucd c.args.self.now.w body c.args.number c.most_units-count.result _ c.start_of.result _ c.args.self.now.utf8 part c.most_units-count.ensures)
    (one_each ucd body c.args.self.now.levels.now.paragraph c.args.self.now.levels.now.each.items here each refl)
    (fits ucd c.args.self.now.w body c.args.number c.most_units-count.result _ c.start_of.result _ c.args.self.now.utf8 part c.most_units-count.ensures)
