-- Characters whose letters need no table of decompositions or foldings.
use Rattle.std.specs.Prelude.{ℕ, Bool, true, ◌||◌}
use Rattle.std.specs.Char.{to_ascii_lowercase}
use Rattle.bx_common.specs.Characters.{is_within}
use Rattle.bx_find.specs.Letters.{main_letter}
use Rattle.bx_find.specs.declared.letters.Reading.{Reading}
use Rattle.bx_find.specs.declared.letters.Reading.TheVariants.{Wide, Close}

-- ASCII, and of the blocks Hebrew and Arabic, up to YEH BARREE, characters with no decomposition: those left out, U+0622 to
-- U+0626, U+06C0 and U+06C2, have one, and U+06C1 is between them
abbrev pub is_short : ℕ → Bool
is_short c = is_within 0x0 0x7F c || (is_within 0x590 0x621 c || (is_within 0x627 0x6BF c || is_within 0x6C3 0x6D2 c))

-- a reading gives the character its simple letter, or none if it is passed over
abbrev pub is_simple : Reading → ℕ → Bool
is_simple Wide c = is_short c
is_simple Close c = true

-- the letter that a reading gives a simple character, unless it is passed over
abbrev pub simple_letter : Reading → ℕ → ℕ
simple_letter Wide c = main_letter (to_ascii_lowercase c)
simple_letter Close c = to_ascii_lowercase c
