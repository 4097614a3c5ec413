-- A number of blanks is added.
use Rattle.std.proofs.Common.{◌≡◌, ◌++◌, map, replicate}
use Rattle.bx_rows.specs.RowPicture.{blank}
use Rattle.bx_rows.specs.Shown.{glyph_of}
use Rattle.bx_rows.proofs.glyphs.push_blanks.Given as goal

abbrev pub invariant-loop : goal.invariant-loop
invariant-loop l = map glyph_of l.glyphs.items ≡ map glyph_of l.initial.glyphs.items ++ replicate l.counter blank
