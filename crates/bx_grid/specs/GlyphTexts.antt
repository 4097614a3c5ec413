-- The stored text of a glyph (`Stored` of `src/glyph_text.rt`).
use Rattle.std.specs.Prelude.{ℕ, ◌<◌, List, length, string_bytes}
use Rattle.bx_grid.specs.declared.glyph_text.Stored.{Stored}
use Rattle.bx_grid.specs.declared.glyph_text.Stored.TheVariants.{Short, Long}

-- the bytes of the text, wherever it is
abbrev pub bytes_of : Stored → List ℕ
bytes_of (Short text) = text
bytes_of (Long text) = string_bytes text

-- a text on the heap is not short
abbrev pub IsStored : Stored → Type 0
IsStored (Short text) = Unit {0}
IsStored (Long text) = 7 < length (string_bytes text)
