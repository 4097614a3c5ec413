use Rattle.std.proofs.Common.{◌∙◌, map, length, ap, sym}
use Rattle.bx_rows.specs.PlainRows.{char_forms, leveled_glyphs}
use Rattle.bx_rows.specs.Shown.{glyph_of}
use Rattle.bx_rows.proofs.PlainDrawn.{arranged-are, written}
use Rattle.bx_rows.proofs.plain_picture.arranged.Goals as goal

pub returns-clause-order : goal.returns-clause-order
returns-clause-order g c = λ cs rest bytes e.
    let lines = c.args.lines.now in
    let ordered = c.reorder.ensures in
    let ucd = g.D.BidiData.data lines.tables.now in
    let forms = char_forms ucd lines.body.now lines.levels.now.each.items c.args.start.chars cs in
    let len = c.deref_mut.ensures.len in
    let len' = c.deref_mut-2.ensures.len in
    let first = written c.args.glyphs.len c.show_levels.new.glyphs c.args.glyphs.items (c.in_ok-show_levels.ensures.count ∙ len) in
    ap (map glyph_of) (written c.args.glyphs.len c.reorder.new.items _ (ordered.count ∙ len'))
    ∙ arranged-are (leveled_glyphs ucd lines.w cs c.args.levels.now forms) c.args.levels.now c.deref_mut-2.result.now c.reorder.new.items
    (len' ∙ sym len ∙ ap length c.deref_mut.ensures.value ∙ sym c.requires.levels) ordered.count
    (ap (map glyph_of) (c.deref_mut-2.ensures.value ∙ first)
    ∙ c.in_ok-show_levels.ensures.shown cs rest bytes (ap (map glyph_of) c.deref_mut.ensures.value ∙ e))
    ordered.order
