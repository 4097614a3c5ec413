-- The answer to the question for a character: a letter that names it, or its code.
use Rattle.std.specs.Prelude.{ℕ, ◌==◌, ◌||◌, Bool, List, [], ◌∷◌, find, Option, ◌&&◌, not, nat_le, nat_lt, length, Some, None}
use Rattle.std.specs.Option.{option_map}
use Rattle.std.specs.Prelude.{if◌then◌else◌}
use Rattle.std.specs.List.{list_all}
use Rattle.std.specs.Char.{is_digit}
use Rattle.std.specs.Str.Parse.{digits_value}
use Rattle.bx_common.specs.Characters.{is_surrogate}

-- the second of the first pair that has a letter as its first; None if no pair has
abbrev pub beside : ℕ → List (ℕ × ℕ) → Option ℕ
beside letter pairs = option_map (λ p. p.1) (find (λ p. p.0 == letter) pairs)

-- e LRE, E RLE, o LRO, O RLO, p PDF, i LRI, I RLI, f FSI, P PDI, l LRM, r RLM, a ALM, n ZWNJ, j ZWJ
abbrev pub names : List (ℕ × ℕ)
names =
    (0x65, 0x202A) ∷ (0x45, 0x202B) ∷ (0x6F, 0x202D) ∷ (0x4F, 0x202E) ∷ (0x70, 0x202C)
    ∷ (0x69, 0x2066) ∷ (0x49, 0x2067) ∷ (0x66, 0x2068) ∷ (0x50, 0x2069)
    ∷ (0x6C, 0x200E) ∷ (0x72, 0x200F) ∷ (0x61, 0x61C) ∷ (0x6E, 0x200C) ∷ (0x6A, 0x200D) ∷ []

-- by UAX #9, PDF ends what e, E, o and O begin, PDI what i, I and f begin
abbrev pub closings : List (ℕ × ℕ)
closings =
    (0x65, 0x202C) ∷ (0x45, 0x202C) ∷ (0x6F, 0x202C) ∷ (0x4F, 0x202C) ∷ (0x69, 0x2069) ∷ (0x49, 0x2069) ∷ (0x66, 0x2069) ∷ []

-- the character that a letter names
abbrev pub named : ℕ → Option ℕ
named letter = beside letter names

-- the character that ends what the named one begins
abbrev pub closing : ℕ → Option ℕ
closing letter = beside letter closings

-- u or +, which asks for a code
abbrev pub asks_code : ℕ → Bool
asks_code letter = (letter == 0x75) || (letter == 0x2B)

-- ---- by its code

-- a hexadecimal digit of either case
abbrev pub is_code_letter : ℕ → Bool
is_code_letter c = is_digit c 16

-- Unicode's scalar values: the codes up to 10FFFF but for surrogates
abbrev pub is_scalar : ℕ → Bool
is_scalar code = nat_le code 0x10FFFF && not (is_surrogate code)

-- hexadecimal digits, one at least
abbrev pub is_code : List ℕ → Bool
is_code answer = nat_lt 0 (length answer) && list_all is_code_letter answer

-- the character whose code an answer writes; None if there is none
abbrev pub coded : List ℕ → Option ℕ
coded answer = if is_code answer && is_scalar (digits_value 16 answer) then Some (digits_value 16 answer) else None
