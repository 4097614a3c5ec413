use Rattle.std.proofs.Common.{◌≡◌, ◌++◌, drop, map}
use Rattle.std.specs.Prelude.{flat_map}
use Rattle.bx_rows.specs.Shown.{glyph_of}
use Rattle.bx_print.specs.Page.{glyph_bytes}
use Rattle.bx_print.proofs.line.push_glyphs.Given as goal

abbrev pub invariant-loop-glyph : goal.invariant-loop-glyph
invariant-loop-glyph l =
    l.page.items ++ flat_map (glyph_bytes l.placeholders) (map glyph_of (drop l.glyph-index l.glyphs))
    ≡ l.fn.page.items ++ flat_map (glyph_bytes l.placeholders) (map glyph_of l.glyphs)
