-- What is told of a unit in the status row: its first four characters with their classes, and its level.
-- `ucd` is Unicode's data.
use Rattle.std.specs.Prelude.{ℕ, ◌+◌, ◌/◌, ◌%◌, nat_lt, List, [], ◌∷◌, ◌++◌, length, take, codes, decimal, Option, Some, None, if◌then◌else◌}
use Rattle.std.specs.List.{flat_map}
use Rattle.bx_ucd.specs.Class.{class_name}
use Rattle.bx_ucd.specs.Data.{Data}

-- ---- a character

-- a hexadecimal digit, 0 to 9 or A to F: A, 0x41, is 10
abbrev pub hex_digit : ℕ → ℕ
hex_digit digit = if nat_lt digit 10 then 0x30 + digit else 0x37 + digit

-- the hexadecimal digit of a code at a power of 16
abbrev pub digit_at : ℕ → ℕ → ℕ
digit_at code power = hex_digit (code / power % 16)

-- the last four digits of a code
abbrev pub last_four : ℕ → List ℕ
last_four code = digit_at code 0x1000 ∷ digit_at code 0x100 ∷ digit_at code 0x10 ∷ digit_at code 1 ∷ []

-- a code in hexadecimal, with four digits or more
abbrev pub code_text : ℕ → List ℕ
code_text code =
    if nat_lt code 0x10000 then last_four code
    else (if nat_lt code 0x100000 then digit_at code 0x10000 ∷ last_four code
    else digit_at code 0x100000 ∷ digit_at code 0x10000 ∷ last_four code)

-- a character with its code and its class
abbrev pub character_text : Data → ℕ → List ℕ
character_text ucd c = codes "U+" ++ code_text c ++ codes " " ++ class_name (ucd.class c)

-- ---- a unit

-- a blank and a character after it, if there is one
abbrev pub behind : Data → Option ℕ → List ℕ
behind ucd None = []
behind ucd (Some c) = codes " " ++ character_text ucd c

-- the characters after the first: three at most, and `...` if there are more
abbrev pub others_text : Data → List ℕ → List ℕ
others_text ucd cs = flat_map (λ c. behind ucd (Some c)) (take 3 cs) ++ (if nat_lt 3 (length cs) then codes " ..." else [])

-- a level, if there is one
abbrev pub level_text : Option ℕ → List ℕ
level_text None = []
level_text (Some level) = codes " level " ++ decimal level

-- the characters of a unit, and its level
abbrev pub told_text : Data → List ℕ → Option ℕ → List ℕ
told_text ucd [] level = level_text level
told_text ucd (c ∷ cs) level = character_text ucd c ++ others_text ucd cs ++ level_text level
