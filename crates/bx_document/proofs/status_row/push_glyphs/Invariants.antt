use Rattle.std.proofs.Common.{◌≡◌, ◌++◌, map, take}
use Rattle.std.specs.Prelude.{All}
use Rattle.bx_rows.specs.Shown.{glyph_of}
use Rattle.bx_document.specs.Narrow.{IsWellDrawn}
use Rattle.bx_document.proofs.status_row.push_glyphs.Given as goal

-- the glyphs read were appended
abbrev pub invariant-loop-glyph : goal.invariant-loop-glyph
invariant-loop-glyph l =
    (map glyph_of l.glyphs.items ≡ map glyph_of l.fn.glyphs.items ++ map glyph_of (take l.glyph-index l.fn.more))
    × (All IsWellDrawn l.fn.glyphs.items → All IsWellDrawn l.glyphs.items)
