-- A paragraph of a text by its number, and the numbers of its rows in the text, all from 0. `ucd` is what the tables say, `w`
-- the window's columns.
use Rattle.std.specs.Prelude.{◌≡◌, ℕ, ◌+◌, ◌<◌, ◌≤◌, List, length, take, slice_range}
use Rattle.bx_ucd.specs.Data.{Data}
use Rattle.bx_common.specs.declared.base.Base.{Base}
use Rattle.bx_text.specs.Changes.{IsRange}
use Rattle.bx_text.specs.index.Paragraphs.{paragraphs}
use Rattle.bx_paragraph.specs.BodyRows.{BodyRow, body_rows}
use Rattle.bx_view.specs.TextRows.{rows_from}
use Rattle.bx_view.specs.Numbers.{body_at, count, start_at}

-- the body of paragraph `number` is the text's bytes from `a` to `b`
pub record IsSpan (ucd : Data) (text : List ℕ) (number a b : ℕ) : Type 0 where
  pub there : number < count ucd text
  pub start : a ≡ start_at ucd text number
  pub body : slice_range text a b ≡ body_at ucd text number
  pub range : IsRange text a b
  pub order : a ≤ b
  pub within : b ≤ length text

-- the rows of paragraph `number`
abbrev pub rows_in : Data → Base → ℕ → List ℕ → ℕ → List BodyRow
rows_in ucd base w text number = body_rows ucd base w (body_at ucd text number)

-- the number of rows of the paragraphs before paragraph `number`
abbrev pub rows_ahead : Data → Base → ℕ → List ℕ → ℕ → ℕ
rows_ahead ucd base w text number = length (rows_from ucd base w 0 (take number (paragraphs ucd text)))

-- row `k` of paragraph `number` is row `n` of the text
pub record IsRow (ucd : Data) (base : Base) (w : ℕ) (text : List ℕ) (number k n : ℕ) : Type 0 where
  pub paragraph : number < count ucd text
  pub row : k < length (rows_in ucd base w text number)
  pub is : n ≡ rows_ahead ucd base w text number + k
