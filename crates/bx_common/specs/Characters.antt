-- Kinds of characters and limits that several layers use. Characters are given by their codes, texts by their UTF-8 bytes.
use Rattle.std.specs.Prelude.{ℕ, Bool, not, ◌&&◌, ◌||◌, ◌==◌, nat_le, List, [], ◌∷◌, false, chars}
use Rattle.std.specs.List.{list_all}

-- the number lies from `low` to `high`, both included
abbrev pub is_within : ℕ → ℕ → ℕ → Bool
is_within low high c = nat_le low c && nat_le c high

-- a control character of C0 or C1 (ECMA-48), DELETE, LINE SEPARATOR or PARAGRAPH SEPARATOR: no glyph has one
abbrev pub is_control : ℕ → Bool
is_control c = (is_within 0x00 0x1F c || is_within 0x7F 0x9F c) || is_within 0x2028 0x2029 c

-- ARABIC LETTER MARK, LEFT-TO-RIGHT MARK or RIGHT-TO-LEFT MARK, the implicit directional marks of UAX #9
abbrev pub is_direction_mark : ℕ → Bool
is_direction_mark c = (c == 0x61C) || ((c == 0x200E) || (c == 0x200F))

-- printable ASCII, SPACE to TILDE, as a character or as its byte
abbrev pub is_ascii_printable : ℕ → Bool
is_ascii_printable c = is_within 0x20 0x7E c

-- all bytes are printable ASCII
abbrev pub are_ascii_printable : List ℕ → Bool
are_ascii_printable text = list_all is_ascii_printable text

-- none of the characters that the bytes encode is a control
abbrev pub are_printable : List ℕ → Bool
are_printable text = list_all (λ c. not (is_control c)) (chars text)

-- the text is a single printable ASCII character
abbrev pub is_ascii_glyph : List ℕ → Bool
is_ascii_glyph (c ∷ []) = is_ascii_printable c
is_ascii_glyph _ = false

-- a surrogate code point, which is not a character
abbrev pub is_surrogate : ℕ → Bool
is_surrogate code = nat_le 0xD800 code && nat_le code 0xDFFF

-- ---- the limits of a window and of a text

-- the largest number of rows or columns of a window, a chosen limit: larger sizes are refused
abbrev pub largest_side : ℕ
largest_side = 500

-- a window may have n rows or columns
abbrev pub is_side : ℕ → Bool
is_side n = is_within 1 largest_side n

-- the largest size of a text, in bytes (16 MiB), a chosen limit: a larger text is refused
abbrev pub largest_text : ℕ
largest_text = 16777216
