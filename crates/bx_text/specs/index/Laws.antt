-- Laws of the paragraphs of any text. `ucd` is Unicode's data.
use Rattle.std.specs.Prelude.{◌≡◌, ◌-◌, ◌⊎◌, ℕ, true, List, [], ◌∷◌, ◌++◌, All, map, take, drop, chars, encode_utf8, IsUtf8}
use Rattle.bx_ucd.specs.Data.{Data}
use Rattle.bx_text.specs.index.Paragraphs.{Paragraph, is_separator, paragraphs, lengths, spans}
use Rattle.bx_text.specs.index.Scan.{HasNone}

-- paragraphs concatenated, each body with its separator after it
abbrev pub joined : List Paragraph → List ℕ
joined [] = []
joined (p ∷ ps) = p.body ++ (p.separator ++ joined ps)

-- the paragraphs of a text, concatenated, are the text
abbrev pub JoinToText : Type 0
JoinToText = (ucd : Data) (text : List ℕ) → IsUtf8 text → joined (paragraphs ucd text) ≡ text

-- the part of a text between two offsets
abbrev pub between : List ℕ → ℕ × ℕ → List ℕ
between text span = take (span.1 - span.0) (drop span.0 text)

-- the text at each span is the body of the paragraph
abbrev pub MatchSpans : Type 0
MatchSpans = (ucd : Data) (text : List ℕ) → IsUtf8 text
    → map (between text) (spans (lengths ucd text)) ≡ map (λ (p : Paragraph). p.body) (paragraphs ucd text)

-- no character of a body is a separator
abbrev pub BodiesHaveNone : Type 0
BodiesHaveNone = (ucd : Data) (text : List ℕ) → IsUtf8 text → All (λ (p : Paragraph). HasNone ucd (chars p.body)) (paragraphs ucd text)

-- the bytes of one separator: a character that is one, or CR and LF that both are
abbrev pub IsSeparator : Data → List ℕ → Type 0
IsSeparator ucd bs = ((c : ℕ) × (is_separator (ucd.class c) ≡ true) × (bs ≡ encode_utf8 c))
    ⊎ ((is_separator (ucd.class 13) ≡ true) × (is_separator (ucd.class 10) ≡ true) × (bs ≡ encode_utf8 13 ++ encode_utf8 10))

-- each paragraph but the last ends with one separator; the last has none
abbrev pub EachEnds : Data → List Paragraph → Type 0
EachEnds ucd [] = ⊥
EachEnds ucd (p ∷ []) = p.separator ≡ []
EachEnds ucd (p ∷ q ∷ ps) = IsSeparator ucd p.separator × EachEnds ucd (q ∷ ps)

-- the paragraphs of each text end so
abbrev pub EndWithSeparators : Type 0
EndWithSeparators = (ucd : Data) (text : List ℕ) → EachEnds ucd (paragraphs ucd text)

-- no CR LF is split: after a paragraph that ends with CR alone, the next one is not an LF alone
abbrev pub KeepCrLf : List Paragraph → Type 0
KeepCrLf [] = Unit {0}
KeepCrLf (p ∷ []) = Unit {0}
KeepCrLf (p ∷ q ∷ ps) = (p.separator ≡ encode_utf8 13 → q.body ≡ [] → q.separator ≡ encode_utf8 10 → ⊥) × KeepCrLf (q ∷ ps)

-- no CR LF of any text is split
abbrev pub KeepEachCrLf : Type 0
KeepEachCrLf = (ucd : Data) (text : List ℕ) → IsUtf8 text → KeepCrLf (paragraphs ucd text)
