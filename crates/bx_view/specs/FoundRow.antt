-- Rows found by a view (`v`). `ucd` is what the tables say, row numbers (`n`) count from 0.
use Rattle.std.specs.Prelude.{◌≡◌, ℕ, ◌+◌, ◌-◌, ◌<◌, true, List, length, Option, MatchOption}
use Rattle.bx_ucd.specs.Data.{Data}
use Rattle.bx_common.specs.Characters.{is_side}
use Rattle.bx_view.specs.declared.in_row.RowAt.{RowAt}
use Rattle.bx_view.specs.Caching.{Caches, IsViewBy, ViewState}
use Rattle.bx_view.specs.Standing.{IsRow}
use Rattle.bx_view.specs.Numbers.{body_at, start_at}
use Rattle.bx_view.specs.TextRows.{TextRow, row_at, text_rows}

-- `at` is row `n` of the text, and its paragraph is cached, in the view's width; this is within its limits, and all cached
-- paragraphs are laid out by what the tables say
pub record StandsOn (ucd : Data) (v : ViewState) (text : List ℕ) (at : RowAt) (n : ℕ) : Type 0 where
  pub by : IsViewBy ucd v
  pub side : is_side v.w ≡ true
  pub start_is : at.start ≡ start_at ucd text at.paragraph
  pub is : IsRow ucd v.base v.w text at.paragraph at.row n
  pub cached_is : Caches (body_at ucd text at.paragraph) v.w v.cache at.cached

-- `next` is the row after row `n` of the text, None after the last
abbrev pub IsNext : Data → ViewState → List ℕ → ℕ → Option RowAt → Type 0
IsNext ucd v text n next =
    MatchOption next (n + 1 ≡ length (text_rows ucd v.base v.w text)) (λ b. StandsOn ucd v text b (n + 1))

-- `before` is the row before row `n` of the text, None before the first
abbrev pub IsBefore : Data → ViewState → List ℕ → ℕ → Option RowAt → Type 0
IsBefore ucd v text n before = MatchOption before (n ≡ 0) (λ b. (0 < n) × StandsOn ucd v text b (n - 1))

-- if no row is found, the cached paragraphs are unchanged
abbrev pub IsSameAtEnd : ViewState → ViewState → Option RowAt → Type 0
IsSameAtEnd old new found = MatchOption found (new ≡ old) (λ _. Unit {0})

-- the rows of a text under a view's base direction and in its columns
abbrev pub rows_by : Data → ViewState → List ℕ → List TextRow
rows_by ucd v text = text_rows ucd v.base v.w text

-- the found row has the property `P`, whatever its number
abbrev pub OfRow : Data → ViewState → List ℕ → RowAt → (TextRow → Type 0) → Type 0
OfRow ucd v text at P = (n : ℕ) → StandsOn ucd v text at n → P (row_at (rows_by ucd v text) n)
