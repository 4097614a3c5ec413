-- The cache of drawn rows: what an entry holds, and that its grid shows just the row that the rest of it names. `d` is the data
-- of Unicode's tables.
use Rattle.std.specs.Prelude.{◌≡◌, ℕ, ◌<◌, List, length, All, HoldsAt}
use Rattle.bx_common.specs.declared.base.Base.{Base}
use Rattle.bx_grid.specs.Columns.{Col}
use Rattle.bx_grid.specs.Grid.{GridState}
use Rattle.bx_paragraph.specs.BodyRows.{body_rows, row_at}
use Rattle.bx_ucd.specs.Data.{Data}
use Rattle.bx_document.specs.Drawing.{body_row_columns}

-- an entry: the body of a paragraph, the base direction, the number of a row in the body, from 0, and a grid of this row alone
pub record EntryState : Type 0 where
  pub body : List ℕ
  pub base : Base
  pub number : ℕ
  pub grid : GridState

-- the columns of row `number` of a body, under a base direction, in a window of `w` columns
unfoldable pub numbered_row_columns : Data → List ℕ → Base → ℕ → ℕ → List Col
numbered_row_columns d body base number w = body_row_columns d w (row_at (body_rows d base w body) number)

-- an entry's grid has the columns that its other parts determine; the window is as wide as the grid
pub record IsDrawnBy (d : Data) (r : EntryState) : Type 0 where
  pub grid_is : r.grid ≡ record { height = 1; width = r.grid.width; columns = numbered_row_columns d r.body r.base r.number r.grid.width }

-- each of these entries has such a grid
abbrev pub AreDrawnBy : Data → List EntryState → Type 0
AreDrawnBy d rows = All (IsDrawnBy d) rows

-- the entry is for row `k`, from 0, of a body with the bytes `text`, under the base direction `direction`, in a window of `w`
-- columns
pub record IsRowOf (text : List ℕ) (direction : Base) (k w : ℕ) (r : EntryState) : Type 0 where
  pub body_is : r.body ≡ text
  pub base_is : r.base ≡ direction
  pub number_is : r.number ≡ k
  pub width_is : r.grid.width ≡ w

-- there is an entry at index `i`, from 0, and it is for that row
pub record HoldsRow (text : List ℕ) (direction : Base) (k w : ℕ) (rows : List EntryState) (i : ℕ) : Type 0 where
  pub within : i < length rows
  pub is : HoldsAt (IsRowOf text direction k w) rows i
