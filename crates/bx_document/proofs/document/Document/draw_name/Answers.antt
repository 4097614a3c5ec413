use Rattle.std.proofs.Common.{◌≡◌, ◌∙◌, ap, ap₂, map, sym, subst, take_all, arith}
use Rattle.std.specs.Prelude.{All}
use Rattle.bx_rows.specs.Shown.{glyph_of}
use Rattle.bx_document.specs.InputLine.{line_glyphs}
use Rattle.bx_view.specs.TextRef.{bytes}
use Rattle.bx_document.specs.StatusRow.{shown_name}
use Rattle.bx_document.specs.Narrow.{IsWellDrawn}
use Rattle.bx_document.proofs.InputRow.{copied-more}
use Rattle.bx_document.proofs.document.Document.draw_name.Goals as goal

pub loop-glyph-preserved : goal.loop-glyph-preserved
loop-glyph-preserved g c =
    let i = c.loop-glyph.glyph-index in
    let from = c.deref-glyph-items.result.now in
    let d = c.glyph-item.result in
    let drawn = subst (All IsWellDrawn) (sym c.deref-glyph-items.ensures.value) c.in_ok-line.ensures.drawn in
    copied-more from c.loop-glyph.glyphs.items c.push.new.self.items i d c.in_ok-owned.field-0 c.loop-glyph-test.true c.glyph-item.is
    c.in_ok-push.ensures.items c.in_ok-owned.ensures.same (c.in_ok-owned.ensures.drawn (subst IsWellDrawn (sym c.glyph-item.is) (drawn i d c.loop-glyph-test.true)))
    c.loop-glyph.invariant

pub returns : goal.returns
returns g c =
    let i = c.loop-glyph.glyph-index in
    let from = c.deref-glyph-items.result.now in
    let tables : c.of-text_ref.result.tables.now ≡ c.args.self.now.tables =
    c.of-text_ref.ensures.tables ∙ c.tables-tables.ensures ∙ ap (λ s. s.tables) c.self.view_is in
    let text : bytes c.of-text_ref.result ≡ shown_name (g.D.BidiData.data c.args.self.now.tables) c.args.name.now =
    ap (λ t. t.edited.text) c.of-text_ref.ensures.text ∙ c.in_ok-text.ensures.text ∙ c.as_str.ensures.value ∙ c.in_ok-shown.ensures in
    c.loop-glyph.invariant.0 ∙ ap (map glyph_of) (take_all i from (omega (arith, c.loop-glyph.auto.glyph-index-end, c.loop-glyph-test.false))) ∙ ap (map glyph_of) c.deref-glyph-items.ensures.value
    ∙ c.in_ok-line.ensures.glyphs ∙ ap₂ (λ t s. line_glyphs (g.D.BidiData.data t) s) tables text
