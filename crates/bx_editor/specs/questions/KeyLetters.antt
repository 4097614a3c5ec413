-- The letter of a key under another layout. Who writes Hebrew or Arabic has that layout on when a letter is asked for, so the character
-- that the letter's key gives there counts as the letter: layouts il, ara and ir of xkeyboard-config.
use Rattle.std.specs.Prelude.{ℕ, ◌+◌, ◌-◌, ◌||◌, Bool, List, [], ◌∷◌, is_some, Option, Some, None, if◌then◌else◌}
use Rattle.bx_editor.specs.questions.Answers.{digit_of}
use Rattle.bx_editor.specs.questions.Names.{asks_code, beside, is_code_letter, named}

-- what the keys of letters give in the Hebrew layout: of e o p i f l r a n j u b c d
abbrev pub hebrew_keys : List (ℕ × ℕ)
hebrew_keys =
    (0x5E7, 0x65) ∷ (0x5DD, 0x6F) ∷ (0x5E4, 0x70) ∷ (0x5DF, 0x69) ∷ (0x5DB, 0x66) ∷ (0x5DA, 0x6C) ∷ (0x5E8, 0x72)
    ∷ (0x5E9, 0x61) ∷ (0x5DE, 0x6E) ∷ (0x5D7, 0x6A) ∷ (0x5D5, 0x75) ∷ (0x5E0, 0x62) ∷ (0x5D1, 0x63) ∷ (0x5D2, 0x64) ∷ []

-- in the Arabic layout: of e o p i f l r a n j u b c d, and of E O I P
abbrev pub arabic_keys : List (ℕ × ℕ)
arabic_keys =
    (0x62B, 0x65) ∷ (0x62E, 0x6F) ∷ (0x62D, 0x70) ∷ (0x647, 0x69) ∷ (0x628, 0x66) ∷ (0x645, 0x6C) ∷ (0x642, 0x72)
    ∷ (0x634, 0x61) ∷ (0x649, 0x6E) ∷ (0x62A, 0x6A) ∷ (0x639, 0x75) ∷ (0xFEFB, 0x62) ∷ (0x624, 0x63) ∷ (0x64A, 0x64)
    ∷ (0x64F, 0x45) ∷ (0xD7, 0x4F) ∷ (0xF7, 0x49) ∷ (0x61B, 0x50) ∷ []

-- in the Persian layout, where it differs from the Arabic one: of n b c d, and of E O I P
abbrev pub persian_keys : List (ℕ × ℕ)
persian_keys =
    (0x62F, 0x6E) ∷ (0x630, 0x62) ∷ (0x632, 0x63) ∷ (0x6CC, 0x64) ∷ (0x64D, 0x45) ∷ (0x5D, 0x4F) ∷ (0x651, 0x49) ∷ (0x5B, 0x50) ∷ []

-- the first that is there
abbrev pub or_letter : Option ℕ → Option ℕ → Option ℕ
or_letter None other = other
or_letter (Some letter) other = Some letter

-- the letter whose key gives a character in one of these layouts
abbrev pub key_letter : ℕ → Option ℕ
key_letter c = or_letter (beside c hebrew_keys) (or_letter (beside c arabic_keys) (beside c persian_keys))

-- a letter, if it has a property; else the character itself
abbrev pub letter_or : (ℕ → Bool) → ℕ → Option ℕ → ℕ
letter_or counts c None = c
letter_or counts c (Some letter) = if counts letter then letter else c

-- a letter that answers the question for a name: it names a character, or asks for a code
abbrev pub answers_name : ℕ → Bool
answers_name letter = is_some (named letter) || asks_code letter

-- the letter that a character is as the answer to the question for a name: itself if it answers, else the one on its key if that does
abbrev pub name_letter : ℕ → ℕ
name_letter c = if answers_name c then c else letter_or answers_name c (key_letter c)

-- the digit of ASCII that has the number of a digit, if it is one
abbrev pub ascii_digit : ℕ → Option ℕ → ℕ
ascii_digit c None = c
ascii_digit c (Some digit) = 0x30 + digit

-- the digit that a character is in a code: itself, or the letter on its key, or the digit of ASCII that has its number
abbrev pub code_letter : ℕ → ℕ
code_letter c = if is_code_letter c then c else ascii_digit (letter_or is_code_letter c (key_letter c)) (digit_of c)
