-- Pointing at what the picture shows, in rows of `w` columns. Rows and columns of the picture count from 1, the numbers of the
-- text's rows (`k`) from 0; the first row that the picture shows is that of the offset `top`. `ucd` is what the tables say.
use Rattle.std.specs.Prelude.{◌≡◌, ◌⊎◌, ℕ, ◌+◌, ◌-◌, ◌<◌, ◌≤◌, true, List, length, sum_by}
use Rattle.bx_ucd.specs.Data.{Data}
use Rattle.bx_rows.specs.RowPicture.{columns_used}
use Rattle.bx_view.specs.Cells.{IsUnitCell, glyphs_of}
use Rattle.bx_view.specs.Top.{pointed_at, follow}
use Rattle.bx_view.specs.TextRows.{IsPlace, TextRow, cell_of, first, row_at, row_of}

-- the picture's row that shows row `k` of the text, which is the top one or below it
abbrev pub picture_row : List TextRow → ℕ → ℕ → ℕ
picture_row rows top k = k - row_of rows top + 1

-- the row shows a unit in the columns from `column` up to `stop`, and `place` is the unit's place
pub record ShowsUnit (ucd : Data) (w : ℕ) (r : TextRow) (place column stop : ℕ) : Type 0 where
  pub cell : IsUnitCell ucd w r place column
  pub stop_is : stop ≡ column + sum_by (λ g. g.columns) (glyphs_of ucd w r.row cell.number)

-- pointing at column `c` of row `k` leads to `place`, and the cursor is then in that row, in the column `column`
pub record LeadsTo (w : ℕ) (rows : List TextRow) (top k c place column : ℕ) : Type 0 where
  pub place_is : pointed_at w rows top (picture_row rows top k) c ≡ place
  pub row_is : row_of rows place ≡ k
  pub column_is : cell_of w rows place ≡ column

-- each column of a shown unit leads to the unit's place and leftmost column
abbrev pub UnitsAreTaken : Data → ℕ → List TextRow → Type 0
UnitsAreTaken ucd w rows =
    (top k place column stop c : ℕ) → row_of rows top ≤ k → k < length rows → ShowsUnit ucd w (row_at rows k) place column stop
    → column ≤ c → c < stop → LeadsTo w rows top k c place column

-- the place is its paragraph's end, in a row whose units fill the window's columns
pub record IsFullEnd (w : ℕ) (r : TextRow) (place : ℕ) : Type 0 where
  pub last : r.row.is_last ≡ true
  pub place_is : place ≡ r.start + length r.row.body
  pub full : columns_used w r.row.units ≡ w

-- the cell of a place leads to the place, but for an end that has no cell of its own
abbrev pub OwnCellsStay : ℕ → List TextRow → Type 0
OwnCellsStay w rows =
    (top place : ℕ) → IsPlace rows place → row_of rows top ≤ row_of rows place
    → (pointed_at w rows top (picture_row rows top (row_of rows place)) (cell_of w rows place) ≡ place)
    ⊎ IsFullEnd w (row_at rows (row_of rows place)) place

-- Pointing at one of the picture's `t` rows leaves the top row, and a second time at the same cell leads to the same place.
pub record TopStays (w : ℕ) (rows : List TextRow) (t : ℕ) : Type 0 where
  pub same : (top r column : ℕ) → r ≤ t → follow rows top (pointed_at w rows top r column) t ≡ first (row_at rows (row_of rows top))
  pub again : (top r column : ℕ) → r ≤ t
      → pointed_at w rows (follow rows top (pointed_at w rows top r column) t) r column ≡ pointed_at w rows top r column
