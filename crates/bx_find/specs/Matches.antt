-- The offsets at which a query's letters, the sought ones, match in a text, and where these matches end. `ucd` is Unicode's data.
use Rattle.std.specs.Prelude.{ℕ, ◌+◌, ◌==◌, ◌&&◌, Bool, true, false, List, [], ◌∷◌, length, nat_le, nat_lt, find, Option, Some, None, chars, encode_utf8}
use Rattle.std.specs.Prelude.{zero, suc, ◌-◌, ◌||◌, drop}
use Rattle.bx_ucd.specs.Data.{Data}
use Rattle.bx_ucd.specs.Class.{is_nsm}
use Rattle.bx_find.specs.Letters.{letters_of, letters}
use Rattle.bx_find.specs.declared.letters.Reading.{Reading}

-- the second list begins with the first
abbrev pub begins : List ℕ → List ℕ → Bool
begins [] cs = true
begins (q ∷ qs) [] = false
begins (q ∷ qs) (c ∷ cs) = (q == c) && begins qs cs

-- the second list begins with the first, which is not empty
abbrev pub begins_some : List ℕ → List ℕ → Bool
begins_some [] cs = false
begins_some (q ∷ qs) cs = begins (q ∷ qs) cs

-- a list is not empty
abbrev pub is_some : List ℕ → Bool
is_some [] = false
is_some (l ∷ ls) = true

-- the sought letters match at the first character: it gives a letter, and the letters from it on begin with the sought ones
abbrev pub is_match : Data → Reading → List ℕ → List ℕ → Bool
is_match ucd reading sought [] = false
is_match ucd reading sought (c ∷ cs) = is_some (letters_of ucd reading c) && begins_some sought (letters ucd reading (c ∷ cs))

-- the byte offsets at which the sought letters match, in order; the first character is at the offset `at`
abbrev pub matches : Data → Reading → List ℕ → ℕ → List ℕ → List ℕ
matches ucd reading sought at [] = []
matches ucd reading sought at (c ∷ cs) = elim (is_match ucd reading sought (c ∷ cs)) [
  | true ↦ at ∷ matches ucd reading sought (at + length (encode_utf8 c)) cs
  | false ↦ matches ucd reading sought (at + length (encode_utf8 c)) cs
]

-- the first match in a text at or after the offset x
abbrev pub first_from : Data → Reading → List ℕ → List ℕ → ℕ → Option ℕ
first_from ucd reading sought text x = find (nat_le x) (matches ucd reading sought 0 (chars text))

-- the last of the offsets below x; `found` if there is none
abbrev pub last_below : ℕ → Option ℕ → List ℕ → Option ℕ
last_below x found [] = found
last_below x found (at ∷ ats) = elim (nat_lt at x) [ true ↦ last_below x (Some at) ats | false ↦ last_below x found ats ]

-- the last match in a text before the offset x
abbrev pub last_before : Data → Reading → List ℕ → List ℕ → ℕ → Option ℕ
last_before ucd reading sought text x = last_below x None (matches ucd reading sought 0 (chars text))

-- ---- where a match ends, and matches without a common part

-- a character that goes with the letter before it: of class NSM, or ARABIC TATWEEL
abbrev pub is_attached : Data → ℕ → Bool
is_attached ucd c = is_nsm (ucd.class c) || (c == 0x640)

-- the offset after the attached characters with which a text begins; its first character is at the offset `at`
abbrev pub behind_attached : Data → ℕ → List ℕ → ℕ
behind_attached ucd at [] = at
behind_attached ucd at (c ∷ cs) = elim (is_attached ucd c) [ true ↦ behind_attached ucd (at + length (encode_utf8 c)) cs | false ↦ at ]

-- the offset after the character that gives the n-th letter, from 1, and after what is attached to it; the first character is at
-- the offset `at`
abbrev pub behind_letters : Data → Reading → ℕ → ℕ → List ℕ → ℕ
behind_letters ucd reading zero at cs = behind_attached ucd at cs
behind_letters ucd reading (suc n) at [] = at
behind_letters ucd reading (suc n) at (c ∷ cs) =
    behind_letters ucd reading (suc n - length (letters_of ucd reading c)) (at + length (encode_utf8 c)) cs

-- the end of the match of the sought letters at an offset of a text
abbrev pub match_end : Data → Reading → List ℕ → List ℕ → ℕ → ℕ
match_end ucd reading sought text at = behind_letters ucd reading (length sought) at (chars (drop at text))

-- the matches at or after the offset x, each with its end: the first one, and then each time the first at or after the end of the
-- one before; the first character is at the offset `at`
abbrev pub spans_of : Data → Reading → List ℕ → ℕ → ℕ → List ℕ → List (ℕ × ℕ)
spans_of ucd reading sought x at [] = []
spans_of ucd reading sought x at (c ∷ cs) = elim (nat_le x at && is_match ucd reading sought (c ∷ cs)) [
  | true ↦
      let end = behind_letters ucd reading (length sought) at (c ∷ cs) in (at, end) ∷ spans_of ucd reading sought end (at + length (encode_utf8 c)) cs
  | false ↦ spans_of ucd reading sought x (at + length (encode_utf8 c)) cs
]

-- the matches in a text at or after the offset x, each with its end, as `spans_of` lists them
abbrev pub spans_from : Data → Reading → List ℕ → List ℕ → ℕ → List (ℕ × ℕ)
spans_from ucd reading sought text x = spans_of ucd reading sought x 0 (chars text)
