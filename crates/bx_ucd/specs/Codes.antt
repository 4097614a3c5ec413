-- Code points and ranges of them, as the files write them.
use Rattle.std.specs.Prelude.{ℕ, Bool, ◌&&◌, nat_le, nat_lt, ◌==◌, List, [], ◌∷◌, length, if◌then◌else◌, Result, Ok, Err}
use Rattle.std.specs.List.{slice_split, list_all}
use Rattle.std.specs.Char.{is_digit}
use Rattle.std.specs.Str.Parse.{digits_value}
use Rattle.bx_ucd.specs.Lines.{and_then}
use Rattle.bx_ucd.specs.declared.codes.CodeRange.{CodeRange}
use Rattle.bx_ucd.specs.declared.error.Cause.{Cause}
use Rattle.bx_ucd.specs.declared.error.Cause.TheVariants.{BadCode, BadRange}
use Rattle.bx_common.specs.Characters.{is_surrogate}

-- four to six hexadecimal digits, up to 10FFFF
abbrev pub is_code : List ℕ → Bool
is_code field = (nat_le 4 (length field) && nat_le (length field) 6) && (list_all (λ b. is_digit b 16) field && nat_le (digits_value 16 field) 0x10FFFF)

-- the code that a field writes
abbrev pub code_of : List ℕ → Result ℕ Cause
code_of field = if is_code field then Ok (digits_value 16 field) else Err BadCode

-- the character whose code a field writes
abbrev pub character_of : List ℕ → Result ℕ Cause
character_of field = and_then (code_of field) (λ code. if is_surrogate code then Err BadCode else Ok code)

-- a code is in a range, whose ends are included
abbrev pub covers : CodeRange → ℕ → Bool
covers range code = nat_le range.low code && nat_le code range.high

-- the range of two ends; refused if the second is below the first
abbrev pub range_between : ℕ → ℕ → Result CodeRange Cause
range_between low high = if nat_lt high low then Err BadRange else Ok (record { low = low; high = high })

-- a range split at its dots: one code, or two codes with an empty part between, the one between the two dots
abbrev pub range_of_codes : List (List ℕ) → Result CodeRange Cause
range_of_codes (code ∷ []) = and_then (code_of code) (λ c. Ok (record { low = c; high = c }))
range_of_codes (low ∷ [] ∷ high ∷ []) = and_then (code_of low) (λ l. and_then (code_of high) (λ h. range_between l h))
range_of_codes _ = Err BadCode

-- the range that a field writes: `CODE` or `CODE..CODE` (0x2E is the dot)
abbrev pub range_of : List ℕ → Result CodeRange Cause
range_of field = range_of_codes (slice_split (λ b. b == 0x2E) field)
