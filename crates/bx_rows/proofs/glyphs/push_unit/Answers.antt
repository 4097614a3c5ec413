use Rattle.std.proofs.Common.{◌≡◌, ◌<◌, ◌++◌, ◌∙◌, All, length, get_or, map, refl, sym, subst, ap}
use Rattle.std.specs.Prelude.{OnOk}
use Rattle.bx_rows.specs.declared.cells.unit.Face.TheVariants.{Tab, Placeholder, Own}
use Rattle.bx_rows.specs.cells.Units.{unit_text}
use Rattle.bx_rows.specs.cells.UnitFacts.{HasFace, StandsIn}
use Rattle.bx_rows.specs.RowPicture.{text_glyphs}
use Rattle.bx_rows.specs.Shown.{glyph_of}
use Rattle.bx_rows.proofs.FaceGlyphs.{HasLetter, letter-face}
use Rattle.bx_rows.proofs.RowPlaces.{piece-near, stands-near}
use Rattle.bx_rows.proofs.Wraps.{no_unit}
use Rattle.bx_rows.proofs.glyphs.push_unit.Goals as goal

pub returns-in-Tab : goal.returns-in-Tab
returns-in-Tab g c =
    let row = c.args.row.now in
    let lines = row.lines in
    subst (λ piece. OnOk c.push_blanks.result (map glyph_of c.push_blanks.new.glyphs.items ≡ map glyph_of c.args.glyphs.now.items ++ piece))
    (sym (piece-near (g.D.BidiData.data lines.tables.now) lines.w lines.body.now lines.levels.now.each.items row.units.items
    c.as_slice-units.result.now c.args.columns.now row.levels.items c.as_slice-levels.result.now c.args.number Tab _ c.args.at
    c.as_slice-units.ensures.value c.as_slice-levels.ensures.value c.requires.number c.requires.columns row.counted c.requires.near c.requires.at
    refl c.in-Tab.is))
    c.push_blanks.ensures

pub returns-in-Placeholder : goal.returns-in-Placeholder
returns-in-Placeholder g c =
    let row = c.args.row.now in
    let lines = row.lines in
    subst (λ piece. OnOk c.push_letter.result (map glyph_of c.push_letter.new.glyphs.items ≡ map glyph_of c.args.glyphs.now.items ++ piece))
    (sym (piece-near (g.D.BidiData.data lines.tables.now) lines.w lines.body.now lines.levels.now.each.items row.units.items
    c.as_slice-units.result.now c.args.columns.now row.levels.items c.as_slice-levels.result.now c.args.number (Placeholder c.in-Placeholder.byte) _ c.args.at
    c.as_slice-units.ensures.value c.as_slice-levels.ensures.value c.requires.number c.requires.columns row.counted c.requires.near c.requires.at
    refl c.in-Placeholder.is))
    c.push_letter.ensures

pub returns-in_ok-shown-in-Own : goal.returns-in_ok-shown-in-Own
returns-in_ok-shown-in-Own g c =
    let row = c.args.row.now in
    let lines = row.lines in
    subst (λ piece. OnOk c.push_text.result (map glyph_of c.push_text.new.glyphs.items ≡ map glyph_of c.args.glyphs.now.items ++ piece))
    (sym ((piece-near (g.D.BidiData.data lines.tables.now) lines.w lines.body.now lines.levels.now.each.items row.units.items
    c.as_slice-units.result.now c.args.columns.now row.levels.items c.as_slice-levels.result.now c.args.number (Own c.in-Own.own) _ c.args.at
    c.as_slice-units.ensures.value c.as_slice-levels.ensures.value c.requires.number c.requires.columns row.counted c.requires.near c.requires.at
    c.range-text.ensures.value c.in-Own.is)
    ∙ ap (text_glyphs c.in-Own.own) (sym c.in_ok-shown-in-Own.ensures)))
    c.push_text.ensures

pub push_letter-requires : goal.push_letter-requires
push_letter-requires g c =
    let row = c.args.row.now in
    let ucd = g.D.BidiData.data row.lines.tables.now in
    let us = c.as_slice-units.result.now in
    let same : us ≡ row.units.items = c.as_slice-units.ensures.value in
    let faces : All (HasFace ucd row.lines.w row.lines.body.now) us = subst (All (HasFace ucd row.lines.w row.lines.body.now)) (sym same) row.faces in
    let within : c.args.number < length us = subst (λ n. c.args.number < n) (sym (ap length same)) c.requires.number in
    let u = get_or us c.args.number no_unit in
    subst HasLetter c.in-Placeholder.is (letter-face ucd row.lines.w (unit_text row.lines.body.now u) u.face (faces c.args.number no_unit within))

pub shown_text-requires : goal.shown_text-requires
shown_text-requires g c =
    let row = c.args.row.now in
    let body = row.lines.body.now in
    let us = c.as_slice-units.result.now in
    let same : us ≡ row.units.items = c.as_slice-units.ensures.value in
    let stand : All (StandsIn body) us = subst (All (StandsIn body)) (sym same) row.stand in
    let within : c.args.number < length us = subst (λ n. c.args.number < n) (sym (ap length same)) c.requires.number in
    stands-near body _ row.lines.levels.now.each.items (get_or us c.args.number no_unit) c.args.at c.requires.near
    (c.requires.at no_unit ∙ ap (λ xs. (get_or xs c.args.number no_unit).start) (sym same)) (stand c.args.number no_unit within) c.range-text.ensures.value
