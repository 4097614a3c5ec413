-- The model of a view, and of the paragraphs that it caches: each is laid out under the view's base direction, in its width or
-- in an earlier one. `ucd` is what the tables say.
use Rattle.std.specs.Prelude.{◌≡◌, ℕ, ◌<◌, ◌≤◌, ◌⊎◌, true, List, length, sum_by, All, HoldsAt}
use Rattle.bx_ucd.specs.Data.{Data}
use Rattle.bx_common.specs.Characters.{is_side}
use Rattle.bx_common.specs.declared.base.Base.{Base}
use Rattle.bx_paragraph.specs.Layout.{IsLayoutBy, LayoutState, rows_by}
use Rattle.bx_view.specs.Standing.{rows_in}
use Rattle.bx_view.specs.Numbers.{body_at}

-- a view: the base direction, the window's columns (`w`), and the cached paragraphs, the oldest first
pub record ViewState : Type 0 where
  pub base : Base
  pub w : ℕ
  pub cache : List LayoutState

-- the layout `l` is by what the tables say, under a base direction, in any width
pub record IsCached (ucd : Data) (base : Base) (l : LayoutState) : Type 0 where
  pub base_is : l.base ≡ base
  pub rows : IsLayoutBy ucd l

-- the most paragraphs that are cached, a choice: more than the rows of any window (500), each of which may be a paragraph
abbrev pub most_cached : ℕ
most_cached = 512

-- at most `most_cached` paragraphs, laid out by what the tables say, under a base direction
pub record AreCached (ucd : Data) (base : Base) (cache : List LayoutState) : Type 0 where
  pub few : length cache ≤ most_cached
  pub laid_out : All (IsCached ucd base) cache

-- the bytes of all cached bodies
abbrev pub cached_bytes : List LayoutState → ℕ
cached_bytes cache = sum_by (λ l. length l.body) cache

-- the cached bodies are within a limit of bytes, or one paragraph is cached alone
abbrev pub FitsLimit : ℕ → List LayoutState → Type 0
FitsLimit limit cache = (cached_bytes cache ≤ limit) ⊎ (length cache ≡ 1)

-- the view `v` caches at most `most_cached` paragraphs, laid out by what the tables say
abbrev pub IsViewBy : Data → ViewState → Type 0
IsViewBy ucd v = AreCached ucd v.base v.cache

-- only the cached paragraphs changed: they are still at most `most_cached`, and laid out by what the tables say
pub record Keeps (ucd : Data) (old new : ViewState) : Type 0 where
  pub base : new.base ≡ old.base
  pub w : new.w ≡ old.w
  pub cache : IsViewBy ucd new

-- the cached paragraph at index `i` has this body
pub record HasBody (body : List ℕ) (cache : List LayoutState) (i : ℕ) : Type 0 where
  pub within : i < length cache
  pub body_is : HoldsAt (λ l. l.body ≡ body) cache i

-- the cached paragraph at index `i` has this body, in `w` columns
pub record Caches (body : List ℕ) (w : ℕ) (cache : List LayoutState) (i : ℕ) : Type 0 where
  pub within : i < length cache
  pub body_is : HoldsAt (λ l. l.body ≡ body) cache i
  pub w_is : HoldsAt (λ l. l.w ≡ w) cache i

-- the layout `l` of paragraph `number`, from 0, of a text has the view's width and the rows that the definitions give
pub record IsOfText (ucd : Data) (v : ViewState) (text : List ℕ) (number : ℕ) (l : LayoutState) : Type 0 where
  pub side : is_side v.w ≡ true
  pub by : IsLayoutBy ucd l
  pub w_is : l.w ≡ v.w
  pub body_is : l.body ≡ body_at ucd text number
  pub rows_are : rows_by ucd l ≡ rows_in ucd v.base v.w text number
  pub count_is : length l.starts ≡ length (rows_in ucd v.base v.w text number)
