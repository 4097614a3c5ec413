-- Laws of units and rows of every body. `ucd` is what any tables say, `w` the window's columns, `us` are units.
use Rattle.std.specs.Prelude.{◌≡◌, ◌⊎◌, ◌+◌, ◌-◌, ◌<◌, ◌≤◌, ℕ, true, All, HoldsAt, IsUtf8, List, [], ◌∷◌, Some, drop, flat_map, length, map, slice_get}
use Rattle.bx_ucd.specs.Data.{Data}
use Rattle.bx_rows.specs.declared.cells.unit.Unit.{Unit}
use Rattle.bx_rows.specs.cells.Units.{units, unit_text}
use Rattle.bx_rows.specs.declared.wrapping.Row.{Row}
use Rattle.bx_rows.specs.declared.start_search.RowStart.{RowStart}
use Rattle.bx_rows.specs.RowPicture.{columns_used}
use Rattle.bx_rows.specs.RowStarts.{row_starts}
use Rattle.bx_rows.specs.Shown.{IsRowOf}
use Rattle.bx_rows.specs.Wrapping.{is_break, row_units, wrap}
use Rattle.bx_rows.specs.UnitPlaces.{FitsWindow}
use Rattle.bx_rows.specs.LaterRows.{behind, moved}

-- the units of a body joined are the body
abbrev pub UnitsMakeBody : Type 0
UnitsMakeBody = (ucd : Data) (w : ℕ) (body : List ℕ) → IsUtf8 body → flat_map (unit_text body) (units ucd w body) ≡ body

-- spans, each a start and a stop, are adjacent from `start` to `stop`, and none is empty
abbrev pub StandInTurn : ℕ → List (ℕ × ℕ) → ℕ → Type 0
StandInTurn start [] stop = start ≡ stop
StandInTurn start (s ∷ ss) stop = (s.0 ≡ start) × (start < s.1) × StandInTurn s.1 ss stop

-- the units of a body are adjacent from its start to its end
abbrev pub UnitsStandInTurn : Type 0
UnitsStandInTurn = (ucd : Data) (w : ℕ) (body : List ℕ) → IsUtf8 body
    → StandInTurn 0 (map (λ u. (u.start, u.stop)) (units ucd w body)) (length body)

-- each unit of a body fits in the window
abbrev pub UnitsFitWindow : Type 0
UnitsFitWindow = (ucd : Data) (w : ℕ) (body : List ℕ) → IsUtf8 body → All (λ u. FitsWindow w u.face) (units ucd w body)

-- Rows partition units: joined they are the units, so none is lost or in two rows. The rows are adjacent, and each has a
-- unit and no more columns than the window. No units make one row.
pub record CutUnits (w : ℕ) (us : List Unit) (rows : List Row) : Type 0 where
  pub joined : flat_map (row_units us) rows ≡ us
  pub in_turn : 0 < length us → StandInTurn 0 (map (λ r. (r.start, r.stop)) rows) (length us)
  pub fit : All (IsRowOf w us) rows
  pub one : length us ≡ 0 → length rows ≡ 1

-- the rows of units that each fit in the window
abbrev pub RowsCutUnits : Type 0
RowsCutUnits = (ucd : Data) (w : ℕ) (body : List ℕ) (us : List Unit) → 1 ≤ w → All (λ u. FitsWindow w u.face) us
    → CutUnits w us (wrap ucd w body us)

-- a row fills the window, or would exceed it with one more unit
abbrev pub IsFull : ℕ → List Unit → Row → Type 0
IsFull w us r = (w ≤ columns_used w (row_units us r)) ⊎ (w < columns_used w (row_units us (record { start = r.start; stop = r.stop + 1 })))

-- A row ends with the last unit, after a unit that allows a break, or where it is full. A longer row that ends in one of
-- the first two ways would not fit: it is full without its last unit.
pub record EndsWell (ucd : Data) (w : ℕ) (body : List ℕ) (us : List Unit) (r : Row) : Type 0 where
  pub ends : (r.stop ≡ length us) ⊎ (HoldsAt (λ u. is_break ucd body u ≡ true) us (r.stop - 1) ⊎ IsFull w us r)
  pub longest : (last : ℕ) → r.stop ≤ last → last < length us
      → (last + 1 ≡ length us) ⊎ HoldsAt (λ u. is_break ucd body u ≡ true) us last → IsFull w us (record { start = r.start; stop = last })

-- each row of units that each fit in the window ends well
abbrev pub RowsEndWell : Type 0
RowsEndWell = (ucd : Data) (w : ℕ) (body : List ℕ) (us : List Unit) → 1 ≤ w → All (λ u. FitsWindow w u.face) us
    → All (EndsWell ucd w body us) (wrap ucd w body us)

-- from any row on, the rows of a body are those of the rest of the body, taken as a body of its own
abbrev pub RowsAreOfRest : Type 0
RowsAreOfRest = (ucd : Data) (w : ℕ) (body : List ℕ) (k : ℕ) (s : RowStart) → IsUtf8 body → slice_get (row_starts ucd w body) k ≡ Some s
    → drop k (row_starts ucd w body) ≡ map (behind s) (row_starts ucd w (drop s.offset body))

-- If two bodies are equal from the start `s` of a row of the one and the start `r` of a row of the other on, their rows are
-- equal from there on, moved from `s` to `r`.
abbrev pub RowsMeetAgain : Type 0
RowsMeetAgain = (ucd : Data) (w : ℕ) (body other : List ℕ) (k j : ℕ) (s r : RowStart) → IsUtf8 body → IsUtf8 other
    → slice_get (row_starts ucd w body) k ≡ Some s → slice_get (row_starts ucd w other) j ≡ Some r → drop s.offset body ≡ drop r.offset other
    → drop j (row_starts ucd w other) ≡ map (moved s r) (drop k (row_starts ucd w body))
