-- The slot by which a row is entered in a column, and the place that a move by rows leads to, in rows of `w` columns. Columns
-- count from 1, the numbers of rows from 0.
use Rattle.std.specs.Prelude.{◌≡◌, ◌≢◌, ◌⊎◌, ℕ, ◌+◌, ◌<◌, ◌≤◌, true, false, List, length, All, Contains}
use Rattle.bx_paragraph.specs.declared.slots.Slot.{Slot}
use Rattle.bx_paragraph.specs.Slots.{covers, row_slots}
use Rattle.bx_view.specs.declared.moves.Goal.{Goal}
use Rattle.bx_view.specs.declared.moves.Goal.TheVariants.{Column}
use Rattle.bx_view.specs.declared.moves.Vertical.{Vertical}
use Rattle.bx_view.specs.Moves.{row_away, rows_away}
use Rattle.bx_view.specs.TextRows.{TextRow, cell_of, row_at, row_of}

-- the slot `s` covers the column, and no slot of another place does
pub record Covers (slots : List Slot) (column : ℕ) (s : Slot) : Type 0 where
  pub is_covered : covers column s ≡ true
  pub alone : All (λ t. covers column t ≡ true → t.offset ≡ s.offset) slots

-- No slot covers the column. The slot `s` is the rightmost of those at or left of the column, or the leftmost if all are right
-- of it.
pub record IsNearest (slots : List Slot) (column : ℕ) (s : Slot) : Type 0 where
  pub uncovered : All (λ t. covers column t ≡ false) slots
  pub last : All (λ t. t.column ≤ column → (t.column ≤ s.column) × (s.column ≤ column)) slots
  pub else_first : All (λ t. column < t.column → s.column ≤ t.column) slots

-- a row is entered in a column at a place: the slot's that covers the column, or if none does, the nearest slot's
pub record IsEntry (w : ℕ) (r : TextRow) (column place : ℕ) : Type 0 where
  pub slot : Slot
  pub is_slot : Contains (row_slots w r.row) slot
  pub place_is : r.start + slot.offset ≡ place
  pub enters : Covers (row_slots w r.row) column slot ⊎ IsNearest (row_slots w r.row) column slot

-- A move by `n` rows to another row, `k`, enters it in the given column; Up, Down and the pages give the column of the place's
-- cell, which is one of the window's (`own`). A move to the place's own row stays at the place.
pub record RowsGoOn (w : ℕ) (rows : List TextRow) : Type 0 where
  pub own : (place : ℕ) → (1 ≤ cell_of w rows place) × (cell_of w rows place ≤ w)
  pub enters : (way : Vertical) (n column place k : ℕ) → 1 ≤ column → column ≤ w → k ≡ row_away (length rows) way n (row_of rows place)
      → k ≢ row_of rows place → IsEntry w (row_at rows k) column (rows_away w rows way n (Column column) place)
  pub stays : (way : Vertical) (n : ℕ) (goal : Goal) (place : ℕ) → row_away (length rows) way n (row_of rows place) ≡ row_of rows place
      → rows_away w rows way n goal place ≡ place
