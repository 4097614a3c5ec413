-- The starts of a body's rows, by which a row is read without those before it. `us` are the body's units, `w` is the window's
-- columns, `ucd` what the tables say.
use Rattle.std.specs.Prelude.{◌≡◌, ℕ, zero, suc, ◌-◌, List, [], map, length, take, drop, chars, slice_get, Option, Some, None}
use Rattle.std.specs.Str.{IsCharBoundary}
use Rattle.bx_ucd.specs.Data.{Data}
use Rattle.bx_rows.specs.declared.cells.unit.Unit.{Unit}
use Rattle.bx_rows.specs.cells.Units.{units}
use Rattle.bx_rows.specs.declared.wrapping.Row.{Row}
use Rattle.bx_rows.specs.declared.start_search.RowStart.{RowStart}
use Rattle.bx_rows.specs.Wrapping.{row_units, wrap}
pub use Rattle.bx_rows.specs.Wrapping.{first_offset}

-- the start of a row: the offset of its first unit, and the numbers of units and characters before it
abbrev pub start_of : List ℕ → List Unit → Row → RowStart
start_of body us r =
    let offset = first_offset (drop r.start us) in
    record { offset = offset; units = r.start; chars = length (chars (take offset body)) }

-- the starts of the rows of a body
abbrev pub row_starts : Data → ℕ → List ℕ → List RowStart
row_starts ucd w body = let us = units ucd w body in map (start_of body us) (wrap ucd w body us)

-- the units of a row; none if there is no row
abbrev pub units_in : List Unit → Option Row → List Unit
units_in us None = []
units_in us (Some r) = row_units us r

-- the units of row number `k` of a body, from 0; none if it has no such row
abbrev pub units_of_row : Data → ℕ → List ℕ → ℕ → List Unit
units_of_row ucd w body k = let us = units ucd w body in units_in us (slice_get (wrap ucd w body us) k)

-- An upper bound of the unit count of the row from `start` to `next`. The last row has no next one, and no more units than
-- the body has bytes. In a window of no columns each row is empty.
abbrev pub most_units : ℕ → List ℕ → RowStart → Option RowStart → ℕ
most_units zero body start next = 0
most_units (suc w) body start None = length body
most_units (suc w) body start (Some next) = next.units - start.units

-- a row starts at a character boundary of a body, and its start counts the characters before it
pub record StartsRow (body : List ℕ) (start : RowStart) : Type 0 where
  pub boundary : IsCharBoundary body start.offset
  pub chars : start.chars ≡ length (chars (take start.offset body))
