-- The texts that a terminal shows as one glyph, and the columns that a run of characters takes there.
use Rattle.std.specs.Prelude.{ℕ, Bool, false, not, ◌&&◌, ◌||◌, nat_le, if◌then◌else◌, List, length, chars}
use Rattle.unicode_width.specs.Width.{str_width}
use Rattle.bx_common.specs.Characters.{are_ascii_printable, are_printable, is_ascii_glyph}

-- the columns of a run of printable characters: one per character where all are printable ASCII, else the run's width with
-- East Asian ambiguous characters narrow
abbrev pub run_width : List ℕ → ℕ
run_width run = if are_ascii_printable run then length run else str_width false (chars run)

-- a terminal shows the text as one glyph: a single printable ASCII character, or printable characters, not all of them ASCII,
-- that take at least one column
abbrev pub is_one_glyph : List ℕ → Bool
is_one_glyph text = is_ascii_glyph text || ((are_printable text && not (are_ascii_printable text)) && nat_le 1 (str_width false (chars text)))
