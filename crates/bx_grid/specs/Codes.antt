-- The codes of columns, numbers by which rows are compared. A code is, from the lowest bit on: whether the glyph is negative
-- (1 bit), the column's index in it and its number of columns (2 bits each), its packed text (57 bits).
use Rattle.std.specs.Prelude.{ℕ, ◌+◌, ◌*◌, ◌/◌, ◌%◌, ◌==◌, Bool, false, ◌&&◌, nat_le, nat_lt, List, [], ◌∷◌, map, length, if◌then◌else◌}
use Rattle.std.specs.List.{list_all}
use Rattle.bx_grid.specs.Columns.{Col, Unknown, Glyph}

-- the number fits one byte
abbrev pub is_byte : ℕ → Bool
is_byte b = nat_lt b 256

-- a text of at most seven bytes, which with its end mark is below 2^57
abbrev pub is_short : List ℕ → Bool
is_short text = nat_le (length text) 7 && list_all is_byte text

-- the bytes as one number: the first byte is the lowest, and a 1 above the last marks their count
abbrev pub packed : List ℕ → ℕ
packed [] = 1
packed (b ∷ bs) = packed bs * 256 + b

-- the common code of columns with no code of their own: the highest of 64 bits, which no other code has
abbrev pub no_code : ℕ
no_code = 0x8000_0000_0000_0000

-- a code of one column alone, not the common one
abbrev pub is_code : ℕ → Bool
is_code code = nat_lt code no_code

-- the code of a glyph's packed text, its number of columns, the index of a column in it, and its rendition
abbrev pub code_in : ℕ → ℕ → ℕ → Bool → ℕ
code_in number columns offset negative = ((number * 4 + columns) * 4 + offset) * 2 + (if negative then 1 else 0)

-- a column has a code of its own if its glyph has a short text and at most three columns
abbrev pub code_of : Col → ℕ
code_of Unknown = no_code
code_of (Glyph text columns offset negative) =
    if (nat_lt columns 4 && nat_lt offset 4) && is_short text then code_in (packed text) columns offset negative else no_code

-- the code of a blank: U+0020 in one column, not negative
abbrev pub blank_code : ℕ
blank_code = code_in (packed (0x20 ∷ [])) 1 0 false

-- the code of each column
abbrev pub codes_of : List Col → List ℕ
codes_of columns = map code_of columns

-- the number of columns of a glyph, from the code of one of its columns
abbrev pub columns_in : ℕ → ℕ
columns_in code = (code / 8) % 4

-- the index of a code's column in its glyph
abbrev pub offset_in : ℕ → ℕ
offset_in code = (code / 2) % 4

-- both codes identify the same column
abbrev pub are_same_code : ℕ → ℕ → Bool
are_same_code code other = (code == other) && is_code code
