-- The first separator of some characters, and that there is none: what a scan finds in a piece of a text.
-- `ucd` is Unicode's data.
use Rattle.std.specs.Prelude.{◌≡◌, ℕ, true, false, List, [], ◌∷◌, ◌++◌, length, drop, chars, encode_utf8_all, IsCharBoundary}
use Rattle.std.specs.Prelude.{count_by}
use Rattle.bx_ucd.specs.Data.{Data}
use Rattle.bx_text.specs.index.Paragraphs.{is_separator}

-- no character is a separator
abbrev pub HasNone : Data → List ℕ → Type 0
HasNone ucd [] = Unit {0}
HasNone ucd (c ∷ cs) = (is_separator (ucd.class c) ≡ false) × HasNone ucd cs

-- the first separator of the characters is `c`, with `before` bytes before it
pub record IsAt (ucd : Data) (cs : List ℕ) (before c : ℕ) : Type 0 where
  pub front : List ℕ
  pub rest : List ℕ
  pub whole : cs ≡ front ++ c ∷ rest
  pub none : HasNone ucd front
  pub bytes : length (encode_utf8_all front) ≡ before
  pub separates : is_separator (ucd.class c) ≡ true

-- no separator begins at an offset of a text
abbrev pub NoneAt : Data → List ℕ → ℕ → Type 0
NoneAt ucd text at =
    (front : List ℕ) (c : ℕ) (rest : List ℕ) → chars text ≡ front ++ c ∷ rest → length (encode_utf8_all front) ≡ at → is_separator (ucd.class c) ≡ false

-- the separator `c` begins at an offset of a text
pub record BeginsAt (ucd : Data) (text : List ℕ) (at c : ℕ) : Type 0 where
  pub bounds : IsCharBoundary text at
  pub rest : List ℕ
  pub begins : chars (drop at text) ≡ c ∷ rest
  pub separates : is_separator (ucd.class c) ≡ true

-- the number of characters of a text that are separators; CR and the LF after it are two
abbrev pub separating : Data → List ℕ → ℕ
separating ucd text = count_by (λ c. is_separator (ucd.class c)) (chars text)
