-- Laws of the visual order and the picture of every row, with the units `us`, in a window of `w` columns. An order lists the
-- numbers of a row's units, from 0, from left to right. `ucd` is what any tables say.
use Rattle.std.specs.Prelude.{◌≡◌, ◌⊎◌, ◌+◌, ◌-◌, ◌%◌, ◌<◌, ◌≤◌, ℕ, All, Contains, HoldsAt, IsPermutation, List, ◌∷◌, ◌++◌, [], Option, flat_map, length, replicate, slice_index_or}
use Rattle.std.specs.List.{between, range_with_len}
use Rattle.bx_ucd.specs.Data.{Data}
use Rattle.bx_rows.specs.declared.cells.unit.Unit.{Unit}
use Rattle.bx_rows.specs.RowPicture.{Glyph, blank, columns_used, draw, unit_columns, unit_glyphs, with_blanks}
use Rattle.bx_rows.specs.RowLevels.{visual}

-- a visual order contains each unit's number once
abbrev pub OrdersArePermutations : Type 0
OrdersArePermutations = (levels : List ℕ) → IsPermutation (range_with_len 0 (length levels)) (visual levels)

-- in an order, `a` is left of `b`
pub record StandsLeft (order : List ℕ) (a b : ℕ) : Type 0 where
  pub front : List ℕ
  pub middle : List ℕ
  pub back : List ℕ
  pub order_is : order ≡ front ++ (a ∷ (middle ++ (b ∷ back)))

-- the lowest of some levels
pub record IsLowest (lowest : ℕ) (levels : List ℕ) : Type 0 where
  pub one : Contains levels lowest
  pub least : All (λ l. lowest ≤ l) levels

-- the unit `i` is left of `j` if the level is even, and right of it if the level is odd
pub record IsOrderAt (level : ℕ) (order : List ℕ) (i j : ℕ) : Type 0 where
  pub even : level % 2 ≡ 0 → StandsLeft order i j
  pub odd : level % 2 ≡ 1 → StandsLeft order j i

-- L2 without reversals: the lowest level from one unit to another determines their order
abbrev pub LowestLevelsOrder : Type 0
LowestLevelsOrder = (levels : List ℕ) (i j lowest : ℕ) → i < j → j < length levels → IsLowest lowest (between i (j + 1) levels)
    → IsOrderAt lowest (visual levels) i j

-- units `i` and `j` have the level `n`, and no unit between them a lower one
pub record AreAtLevel (n : ℕ) (levels : List ℕ) (i j : ℕ) : Type 0 where
  pub one : HoldsAt (λ l. l ≡ n) levels i
  pub other : HoldsAt (λ l. l ≡ n) levels j
  pub least : All (λ l. n ≤ l) (between i (j + 1) levels)

-- two units of one level with no lower level between them keep their order at an even level, and swap it at an odd one
abbrev pub EqualLevelsOrder : Type 0
EqualLevelsOrder = (levels : List ℕ) (i j n : ℕ) → i < j → j < length levels → AreAtLevel n levels i j → IsOrderAt n (visual levels) i j

-- in an order, `k` is between `a` and `b`
abbrev pub StandsBetween : List ℕ → ℕ → ℕ → ℕ → Type 0
StandsBetween order a k b = (StandsLeft order a k × StandsLeft order k b) ⊎ (StandsLeft order b k × StandsLeft order k a)

-- units between two units of one level in the text, with no lower level between these, are between them in the row
abbrev pub StaysBetween : Type 0
StaysBetween = (levels : List ℕ) (i k j n : ℕ) → i < k → k < j → j < length levels → AreAtLevel n levels i j → StandsBetween (visual levels) i k j

-- a unit that has the lowest level from one unit to another is also between them in the row
abbrev pub LowestStaysBetween : Type 0
LowestStaysBetween = (levels : List ℕ) (i k j n : ℕ) → i < k → k < j → j < length levels → HoldsAt (λ l. l ≡ n) levels k
    → All (λ l. n ≤ l) (between i (j + 1) levels) → StandsBetween (visual levels) i k j

-- in a row of glyphs, the glyphs `a` are together, and left of the glyphs `b`, which are together too
pub record ShowsLeft (row a b : List Glyph) : Type 0 where
  pub front : List Glyph
  pub middle : List Glyph
  pub back : List Glyph
  pub row_is : row ≡ front ++ (a ++ (middle ++ (b ++ back)))

-- lists of glyphs joined
abbrev pub joined : List (List Glyph) → List Glyph
joined pieces = flat_map (λ p. p) pieces

-- A row of glyphs shows each piece once, as a whole, and otherwise blanks at its end: its glyphs are those of the pieces and
-- the `blanks` blanks.
pub record ShowsEachOnce (paragraph blanks : ℕ) (pieces : List (List Glyph)) (row : List Glyph) : Type 0 where
  pub ordered : List (List Glyph)
  pub once : IsPermutation pieces ordered
  pub whole : row ≡ with_blanks paragraph blanks (joined ordered)
  pub glyphs : IsPermutation (joined pieces ++ replicate blanks blank) row

-- a row's picture shows the glyphs of each unit once, and otherwise blanks
abbrev pub PicturesShowUnits : Type 0
PicturesShowUnits = (ucd : Data) (w : ℕ) (body : List ℕ) (paragraph : ℕ) (each : List (Option ℕ)) (us : List Unit) (levels : List ℕ)
    → length levels ≡ length us → ShowsEachOnce paragraph (w - columns_used w us) (unit_glyphs ucd w body each us (unit_columns w 0 us) levels)
    (draw ucd w body paragraph each us levels)

-- the glyphs `one` are left of the glyphs `other` if the level is even, and right of them if it is odd
pub record IsShownAt (level : ℕ) (row one other : List Glyph) : Type 0 where
  pub even : level % 2 ≡ 0 → ShowsLeft row one other
  pub odd : level % 2 ≡ 1 → ShowsLeft row other one

-- the lowest level from one unit to another determines their order in a row's picture
abbrev pub PicturesGoByLevels : Type 0
PicturesGoByLevels = (ucd : Data) (w : ℕ) (body : List ℕ) (paragraph : ℕ) (each : List (Option ℕ)) (us : List Unit) (levels : List ℕ)
    (i j lowest : ℕ) → length levels ≡ length us → i < j → j < length us → IsLowest lowest (between i (j + 1) levels)
    → let pieces = unit_glyphs ucd w body each us (unit_columns w 0 us) levels in
    IsShownAt lowest (draw ucd w body paragraph each us levels) (slice_index_or pieces i []) (slice_index_or pieces j [])
