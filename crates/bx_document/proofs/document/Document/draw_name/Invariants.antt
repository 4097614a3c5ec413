-- The glyphs read, each with a text of its own.
use Rattle.std.proofs.Common.{◌≡◌, map, take}
use Rattle.std.specs.Prelude.{All}
use Rattle.bx_rows.specs.Shown.{glyph_of}
use Rattle.bx_document.specs.Narrow.{IsWellDrawn}
use Rattle.bx_document.proofs.document.Document.draw_name.Given as goal

abbrev pub invariant-loop-glyph : goal.invariant-loop-glyph
invariant-loop-glyph g l = (map glyph_of l.glyphs.items ≡ map glyph_of (take l.glyph-index l.glyph-items)) × All IsWellDrawn l.glyphs.items
