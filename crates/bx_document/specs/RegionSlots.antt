-- The drawing of a region turns its units to the other rendition one after another, each in the columns of its slot.
use Rattle.std.specs.Prelude.{ℕ, ◌+◌, ◌-◌, ◌*◌, ◌≤◌, List, [], ◌∷◌, length, take, drop}
use Rattle.bx_grid.specs.Columns.{Col}
use Rattle.bx_grid.specs.Grid.{GridState, IsBorder, turned_in}
use Rattle.bx_paragraph.specs.declared.slots.Slot.{Slot}

-- the columns of row `row`, from 0, of a grid
abbrev pub row_in : GridState → ℕ → List Col
row_in g row = take g.width (drop (row * g.width) g.columns)

-- the slot's columns, which count from 1, lie in a row with these columns, and no glyph of the row crosses their edges
pub record IsSpan (columns : List Col) (s : Slot) : Type 0 where
  pub low : 1 ≤ s.column
  pub fits : s.column - 1 + s.columns ≤ length columns
  pub begins : IsBorder columns (s.column - 1)
  pub ends : IsBorder columns (s.column - 1 + s.columns)

-- a row's columns, once the columns of these slots are turned to the other rendition
abbrev pub turned_slots : List Slot → List Col → List Col
turned_slots [] columns = columns
turned_slots (s ∷ ss) columns = turned_slots ss (turned_in columns (s.column - 1) s.columns)
