-- The glyphs of the units read so far are added, and a place of the body is counted.
use Rattle.std.proofs.Common.{◌≡◌, ◌++◌, [], map, take}
use Rattle.std.specs.Prelude.{flat_map, slice_index_or}
use Rattle.bx_rows.specs.RowPicture.{unit_glyphs}
use Rattle.bx_rows.specs.Shown.{glyph_of}
use Rattle.bx_rows.specs.UnitPlaces.{IsNear}
use Rattle.bx_rows.proofs.picture.push_units.Given as goal

abbrev pub invariant-loop-number : goal.invariant-loop-number
invariant-loop-number g l =
    let lines = l.row.lines in
    let each = lines.levels.now.each.items in
    (map glyph_of l.glyphs.items ≡ map glyph_of l.initial.glyphs.items
    ++ flat_map (λ k. slice_index_or (unit_glyphs (g.D.BidiData.data lines.tables.now) lines.w lines.body.now each l.row.units.items l.columns
    l.row.levels.items) k []) (take l.number-index l.order)) × IsNear lines.body.now each l.near
