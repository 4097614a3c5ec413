-- Points: marks and joiners that are typed after a letter, and that Backspace removes one by one. Characters are their codes,
-- `ucd` is what the tables say.
use Rattle.std.specs.Prelude.{ℕ, ◌-◌, ◌==◌, nat_le, Bool, true, false, not, ◌&&◌, ◌||◌, List, take, length, chars, encode_utf8_all, slice_index_or}
use Rattle.bx_ucd.specs.Data.{Data}
use Rattle.bx_ucd.specs.Class.{is_nsm}

-- VARIATION SELECTOR-1 to -16 or COMBINING ENCLOSING KEYCAP: it chooses the look of the character before it, and goes with it
abbrev pub chooses_look : ℕ → Bool
chooses_look c = (nat_le 0xFE00 c && nat_le c 0xFE0F) || (c == 0x20E3)

-- ZERO WIDTH NON-JOINER or ZERO WIDTH JOINER
abbrev pub is_zero_width_joiner : ℕ → Bool
is_zero_width_joiner c = (c == 0x200C) || (c == 0x200D)

-- a character that is removed alone
abbrev pub is_point : Data → ℕ → Bool
is_point ucd c = (is_nsm (ucd.class c) && not (chooses_look c)) || is_zero_width_joiner c

-- the last of some characters (0 if there is none), and the bytes of those before it
abbrev pub last_character : List ℕ → ℕ
last_character cs = slice_index_or cs (length cs - 1) 0

abbrev pub before_last : List ℕ → List ℕ
before_last cs = encode_utf8_all (take (length cs - 1) cs)

-- Where the removal of a unit begins, as an offset in its bytes: before its last character, if that is a point, else 0. A unit
-- of one character is removed whole, point or not.
abbrev pub point_start : Data → List ℕ → ℕ
point_start ucd unit = elim (is_point ucd (last_character (chars unit))) [ true ↦ length (before_last (chars unit)) | false ↦ 0 ]
