-- The glyphs of the characters read so far are added.
use Rattle.std.proofs.Common.{◌≡◌, ◌++◌, ◌∷◌, [], false, map, take}
use Rattle.bx_rows.specs.RowPicture.{glyph}
use Rattle.bx_rows.specs.Shown.{glyph_of}
use Rattle.bx_rows.proofs.glyphs.push_letters.Given as goal

abbrev pub invariant-loop-byte : goal.invariant-loop-byte
invariant-loop-byte l = map glyph_of l.glyphs.items ≡ map glyph_of l.initial.glyphs.items ++ map (λ b. glyph (b ∷ []) 1 false) (take l.byte-index l.text)
