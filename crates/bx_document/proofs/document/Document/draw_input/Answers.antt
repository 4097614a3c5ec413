use Rattle.std.proofs.Common.{◌≡◌, ◌∙◌, ◌++◌, ap, ap₂, drop, length, map, sym}
use Rattle.std.specs.Prelude.{option_map}
use Rattle.bx_rows.specs.RowPicture.{letter_glyphs}
use Rattle.bx_rows.specs.Shown.{glyph_of}
use Rattle.bx_view.specs.TextRef.{bytes}
use Rattle.bx_document.specs.Drawing.{glyph_row}
use Rattle.bx_document.specs.InputLine.{column_shown, glyphs_or, line_cell, line_glyphs}
use Rattle.bx_document.specs.StatusRow.{with_some_end}
use Rattle.bx_document.proofs.InputRow.{input-row, part-told, rest-drawn, rest-glyphs}
use Rattle.bx_document.proofs.document.Document.draw_input.Goals as goal

pub push_glyphs-requires : goal.push_glyphs-requires
push_glyphs-requires g c =
    record {
      drawn = rest-drawn c.deref-2.result.now c.in_ok-found.field-0.picture.glyphs.items c.part_for-part.result.left_out c.deref-2.ensures.value
          c.in_ok-found.ensures.drawn;
    }

pub returns-clause-row : goal.returns-clause-row
returns-clause-row g c =
    let w = c.args.self.now.document.w in
    let w' = c.width-width.result in
    let d = g.D.BidiData.data c.args.self.now.tables in
    let part = c.part_for-part.result in
    let tables : c.of-text_ref.result.tables.now ≡ c.args.self.now.tables =
    c.of-text_ref.ensures.tables ∙ c.tables-tables.ensures ∙ ap (λ s. s.tables) c.self.view_is in
    let text : bytes c.of-text_ref.result ≡ c.args.line.now = ap (λ t. t.edited.text) c.of-text_ref.ensures.text ∙ c.in_ok-typed.ensures.text in
    let found = c.in_ok-found.field-0.picture.glyphs.items in
    let line = map glyph_of (drop part.left_out found) in
    let end = option_map (λ e. (e.name.now, e.is_rtl)) c.args.end in
    let glyphs : map glyph_of found ≡ line_glyphs d c.args.line.now =
    c.in_ok-found.ensures.glyphs ∙ ap₂ (λ t s. line_glyphs (g.D.BidiData.data t) s) tables text in
    let cell : c.in_ok-found.field-0.cell ≡ line_cell d c.args.line.now c.args.place =
    c.in_ok-found.ensures.cell ∙ ap₂ (λ t s. line_cell (g.D.BidiData.data t) s c.args.place) tables text in
    input-row w w' c.args.text.now line end c.in_ok-picture.picture.glyphs.items c.push_glyphs.new.glyphs.items c.push_some_end.new.glyphs.items
    c.in_ok-row.row.columns c.width-width.ensures.width c.in_ok-picture.ensures.picture
    (c.in_ok-push_glyphs.ensures.glyphs
    ∙ ap (λ gs. map glyph_of c.in_ok-picture.picture.glyphs.items ++ gs) (rest-glyphs c.deref-2.result.now found part.left_out c.deref-2.ensures.value))
    c.in_ok-push_some_end.ensures.glyphs
    (c.in_ok-row.ensures.row ∙ ap (λ ds. glyph_row w' (map glyph_of ds)) c.deref-3.ensures.value)
    ∙ ap (λ gs. glyph_row w (with_some_end w (letter_glyphs c.args.text.now ++ gs) end))
    (ap (λ ds. map glyph_of (drop part.left_out ds)) (sym c.deref.ensures.value)
    ∙ c.part_for-part.ensures.shown
    ∙ part-told glyphs_or w w' (length c.args.text.now) c.deref.result.now found _ _ _ c.width-width.ensures.width c.deref.ensures.value glyphs cell)

pub returns-clause-column : goal.returns-clause-column
returns-clause-column g c =
    let d = g.D.BidiData.data c.args.self.now.tables in
    let tables : c.of-text_ref.result.tables.now ≡ c.args.self.now.tables =
    c.of-text_ref.ensures.tables ∙ c.tables-tables.ensures ∙ ap (λ s. s.tables) c.self.view_is in
    let text : bytes c.of-text_ref.result ≡ c.args.line.now = ap (λ t. t.edited.text) c.of-text_ref.ensures.text ∙ c.in_ok-typed.ensures.text in
    let found = c.in_ok-found.field-0.picture.glyphs.items in
    let glyphs : map glyph_of found ≡ line_glyphs d c.args.line.now =
    c.in_ok-found.ensures.glyphs ∙ ap₂ (λ t s. line_glyphs (g.D.BidiData.data t) s) tables text in
    let cell : c.in_ok-found.field-0.cell ≡ line_cell d c.args.line.now c.args.place =
    c.in_ok-found.ensures.cell ∙ ap₂ (λ t s. line_cell (g.D.BidiData.data t) s c.args.place) tables text in
    c.part_for-part.ensures.column
    ∙ part-told (λ _ shown. column_shown shown) c.args.self.now.document.w c.width-width.result (length c.args.text.now) c.deref.result.now found _ _ _
    c.width-width.ensures.width c.deref.ensures.value glyphs cell
