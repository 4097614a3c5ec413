-- The paragraphs of a text: the text cut at each paragraph separator (UAX #9, P1), and where they stand. CR LF, 13 and 10, is one
-- separator. `ucd` is Unicode's data.
use Rattle.std.specs.Prelude.{ℕ, ◌-◌, ◌==◌, ◌&&◌, Bool, true, false, List, [], ◌∷◌, ◌++◌, map, length, chars, count_by, encode_utf8, ◌+◌}
use Rattle.std.specs.Prelude.{nat_le}
use Rattle.bx_ucd.specs.Data.{Data}
use Rattle.bx_ucd.specs.declared.class.Class.{Class}
use Rattle.bx_ucd.specs.declared.class.Class.TheVariants.{B}
use Rattle.bx_text.specs.declared.index.lengths.Lengths.{Lengths}

-- a paragraph: the bytes of its body, and the bytes of the separator that ends it, none in the last
pub record Paragraph : Type 0 where
  pub body : List ℕ
  pub separator : List ℕ

-- the class of paragraph separators
abbrev pub is_separator : Class → Bool
is_separator B = true
is_separator _ = false

-- the characters begin with an LF that is a separator
abbrev pub begins_with_lf : Data → List ℕ → Bool
begins_with_lf ucd [] = false
begins_with_lf ucd (c ∷ cs) = (c == 10) && is_separator (ucd.class c)

-- the first paragraph has one more character in front of its body
abbrev pub after_character : ℕ → List Paragraph → List Paragraph
after_character c [] = []
after_character c (p ∷ ps) = record p { body = encode_utf8 c ++ p.body } ∷ ps

-- the first paragraph has CR in front of its separator
abbrev pub after_cr : List Paragraph → List Paragraph
after_cr [] = []
after_cr (p ∷ ps) = record p { separator = encode_utf8 13 ++ p.separator } ∷ ps

-- a paragraph with an empty body
abbrev pub bare : List ℕ → Paragraph
bare separator = record { body = []; separator = separator }

-- the characters cut at each separator: CR goes with an LF after it
abbrev pub cut : Data → List ℕ → List Paragraph
cut ucd [] = bare [] ∷ []
cut ucd (c ∷ cs) = elim (is_separator (ucd.class c)) [
  | false ↦ after_character c (cut ucd cs)
  | true ↦ elim ((c == 13) && begins_with_lf ucd cs) [
    | true ↦ after_cr (cut ucd cs)
    | false ↦ bare (encode_utf8 c) ∷ cut ucd cs
  ]
]

-- the paragraphs of a text, which is its bytes
abbrev pub paragraphs : Data → List ℕ → List Paragraph
paragraphs ucd text = cut ucd (chars text)

-- the lengths of a paragraph, in bytes
abbrev pub lengths_of : Paragraph → Lengths
lengths_of p = record { body = length p.body; separator = length p.separator }

-- the lengths of each paragraph of a text, in bytes
abbrev pub lengths : Data → List ℕ → List Lengths
lengths ucd text = map lengths_of (paragraphs ucd text)

-- ---- positions, by the lengths of paragraphs; offsets count bytes

-- the length of a paragraph with its separator, in bytes
abbrev pub bytes_of : Lengths → ℕ
bytes_of p = p.body + p.separator

-- the total length of some paragraphs, in bytes
abbrev pub total : List Lengths → ℕ
total [] = 0
total (p ∷ ps) = bytes_of p + total ps

-- the offsets of each body's start and end, where the first paragraph begins at the offset `at`
abbrev pub spans_from : ℕ → List Lengths → List (ℕ × ℕ)
spans_from at [] = []
spans_from at (p ∷ ps) = (at, at + p.body) ∷ spans_from (at + bytes_of p) ps

-- the offsets of each body's start and end in the text
abbrev pub spans : List Lengths → List (ℕ × ℕ)
spans ps = spans_from 0 ps

-- the number of the paragraph that an offset falls in: the last that begins at or before it
abbrev pub paragraph_of : List Lengths → ℕ → ℕ
paragraph_of ps offset = count_by (λ s. nat_le s.0 offset) (spans ps) - 1
