-- Texts that are as wide as their first character, so that one look-up gives their width (`src/width.rt`).
use Rattle.std.specs.Prelude.{◌≡◌, ℕ, ◌<◌, Bool, true, false, ◌&&◌, ◌||◌, ◌==◌, nat_lt, List, ◌∷◌, drop, Option, Some, None}
use Rattle.std.specs.List.{list_all}
use Rattle.std.specs.Str.{chars}
use Rattle.unicode_width.specs.Width.{char_width}
use Rattle.bx_common.specs.Characters.{is_within}

-- a width in columns is known, and is 0
abbrev pub takes_none : Option ℕ → Bool
takes_none (Some columns) = columns == 0
takes_none None = false

-- the character takes no column, and is below the variation selectors (U+FE00), which change the width of the character before
-- them; up to U+00A0 are ASCII, controls and the no-break space
abbrev pub is_still : ℕ → Bool
is_still c = (nat_lt 0xA0 c && nat_lt c 0xFE00) && takes_none (char_width false c)

-- the text is this character, above U+00A0, followed by still ones
pub record IsBase (text : List ℕ) (c : ℕ) : Type 0 where
  pub first : chars text ≡ c ∷ drop 1 (chars text)
  pub high : 0xA0 < c
  pub still : list_all is_still (drop 1 (chars text)) ≡ true

-- marks of Latin, Hebrew and Arabic that take no column; `src/width.rt` says how they were chosen
abbrev pub is_mark : ℕ → Bool
is_mark c = ((is_within 0x300 0x36F c || is_within 0x591 0x5BD c) || is_within 0x5C1 0x5C2 c) || is_within 0x64B 0x65F c

-- letters of Latin, Cyrillic, Hebrew and Arabic, which take one column
abbrev pub is_letter : ℕ → Bool
is_letter c = ((is_within 0xC0 0xFF c || is_within 0x410 0x44F c) || is_within 0x5D0 0x5FF c) || is_within 0x620 0x64A c
