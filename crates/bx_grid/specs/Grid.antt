-- Grids and pictures of whole glyphs, and columns that are put in place of others.
use Rattle.std.specs.Prelude.{◌≡◌, replicate, ℕ, ◌+◌, List, ◌++◌, length, take, drop, ◌-◌, ◌*◌, ◌≤◌, ◌<◌, map, slice_index_or}
use Rattle.bx_grid.specs.Columns.{Col, blank, columns_before, turned}
use Rattle.bx_grid.specs.Glyphs.{AreWholeRows}
use Rattle.bx_grid.specs.Terminal.{Terminal, reads}
use Rattle.bx_grid.specs.Picture.{IsIdle, PictureState}
use Rattle.bx_common.specs.Characters.{largest_side}

-- the columns with `new` in place of those from index `k` on
abbrev pub paste : List Col → ℕ → List Col → List Col
paste columns k new = take k columns ++ new ++ drop (k + length new) columns

-- `count` columns from index `k` on are blanks
abbrev pub AreBlank : ℕ → ℕ → List Col → Type 0
AreBlank k count columns = take count (drop k columns) ≡ replicate count blank

-- the two lists agree except in `count` columns from index `k` on
pub record AreSameAround (k count : ℕ) (old new : List Col) : Type 0 where
  pub before : take k new ≡ take k old
  pub after : drop (k + count) new ≡ drop (k + count) old

-- the columns of a grid, row by row, with its numbers of rows and of columns in a row
pub record GridState : Type 0 where
  pub height : ℕ
  pub width : ℕ
  pub columns : List Col

-- these bytes leave nothing half read, if nothing was before
abbrev pub AreWholeTokens : List ℕ → Type 0
AreWholeTokens bytes = (t : Terminal) → IsIdle t → IsIdle (reads t bytes)

-- each side is from 1 to 500, and there is a column for each index
pub record IsSized (height width columns : ℕ) : Type 0 where
  pub low : 1 ≤ height
  pub high : height ≤ largest_side
  pub narrow : 1 ≤ width
  pub wide : width ≤ largest_side
  pub each : columns ≡ height * width

-- a grid's columns are all known, and each row is whole glyphs (`IsGlyph`)
pub record IsGrid (height width : ℕ) (columns : List Col) : Type 0 where
  pub sized : IsSized height width (length columns)
  pub rows : AreWholeRows height width columns

-- a cell, counted from line 1 and column 1, is in a grid of this size
pub record IsWithin (height width line column : ℕ) : Type 0 where
  pub top : 1 ≤ line
  pub bottom : line ≤ height
  pub left : 1 ≤ column
  pub right : column ≤ width

-- the `count` columns from a cell on lie in its row, and are blanks
pub record HasRoom (g : GridState) (line column count : ℕ) : Type 0 where
  pub fits : column - 1 + count ≤ g.width
  pub blank : AreBlank ((line - 1) * g.width + (column - 1)) count g.columns

-- a picture is a grid and a cursor inside
pub record IsPicture (p : PictureState) : Type 0 where
  pub grid : IsGrid p.height p.width p.columns
  pub row_inside : p.row < p.height
  pub column_inside : p.column < p.width

-- ---- columns in the other rendition

-- the columns, with `count` from index `k` on turned
abbrev pub turned_in : List Col → ℕ → ℕ → List Col
turned_in columns k count = paste columns k (map turned (take count (drop k columns)))

-- no glyph has columns on both sides of index `k`
abbrev pub IsBorder : List Col → ℕ → Type 0
IsBorder columns k = columns_before (slice_index_or columns k blank) ≡ 0
