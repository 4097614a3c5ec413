use Rattle.std.proofs.Common.{◌≡◌, ◌++◌, map, replicate}
use Rattle.std.specs.Prelude.{All}
use Rattle.bx_rows.specs.RowPicture.{blank}
use Rattle.bx_rows.specs.Shown.{glyph_of}
use Rattle.bx_document.specs.Narrow.{IsWellDrawn}
use Rattle.bx_document.proofs.status_row.push_blanks.Given as goal

-- the loop has appended `counter` blanks
abbrev pub invariant-loop : goal.invariant-loop
invariant-loop l =
    (map glyph_of l.glyphs.items ≡ map glyph_of l.fn.glyphs.items ++ replicate l.counter blank)
    × (All IsWellDrawn l.fn.glyphs.items → All IsWellDrawn l.glyphs.items)
