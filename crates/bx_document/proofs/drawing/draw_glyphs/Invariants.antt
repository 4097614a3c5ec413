use Rattle.bx_document.proofs.RowGlyphs.{IsPut}
use Rattle.bx_document.proofs.drawing.draw_glyphs.Given as goal

abbrev pub invariant-loop-glyph : goal.invariant-loop-glyph
invariant-loop-glyph l = IsPut l.fn.width l.fn.glyphs l.glyph-index l.grid l.column
