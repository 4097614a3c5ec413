use Rattle.std.proofs.Common.{◌%◌, ◌∙◌, sym}
use Rattle.bx_rows.specs.joining.Joining.{text_forms}
use Rattle.bx_rows.proofs.Leveled.{formless-text, mirrored-are, shown_if_odd}
use Rattle.bx_rows.proofs.glyphs.shown_text.Goals as goal

pub returns-then-not-has_forms : goal.returns-then-not-has_forms
returns-then-not-has_forms g c =
    let lines = c.args.lines.now in
    let ucd = g.D.BidiData.data lines.tables.now in
    let text = c.args.text.now in
    let at = c.args.at in
    shown_if_odd (c.args.level % 2) _ text _ c.if-level-eq0.false
    (c.in_ok-mirrored.ensures ∙ sym (formless-text ucd lines.w c.args.columns (text_forms ucd at.body.text.now at.body.each.now at.number text) text
    c.utf8.text (c.has_forms.ensures c.if-not-has_forms.true)))

pub joined-requires-clause-mirrored : goal.joined-requires-clause-mirrored
joined-requires-clause-mirrored g c =
    let lines = c.args.lines.now in
    mirrored-are (g.D.BidiData.data lines.tables.now) lines.w c.args.columns c.args.text.now _ c.utf8.text c.as_str-shown.utf8
    (c.as_str-shown.ensures.value ∙ c.in_ok-mirrored.ensures)
