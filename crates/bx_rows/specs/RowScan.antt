-- The current row of a scan over a body's units, and its invariants. `ucd` is what the tables say, `w` the window's columns;
-- offsets count bytes of the body, columns from 0.
use Rattle.std.specs.Prelude.{◌≡◌, ℕ, zero, suc, ◌+◌, ◌-◌, ◌≤◌, Bool, List, ◌∷◌, ◌++◌, map, length, take, drop, chars}
use Rattle.std.specs.Str.{IsCharBoundary}
use Rattle.bx_ucd.specs.Data.{Data}
use Rattle.bx_rows.specs.declared.cells.unit.Unit.{Unit}
use Rattle.bx_rows.specs.cells.Units.{units}
use Rattle.bx_rows.specs.cells.UnitFacts.{units_from}
use Rattle.bx_rows.specs.declared.row_scan.Extent.{Extent}
use Rattle.bx_rows.specs.declared.row_scan.Scan.{Scan}
use Rattle.bx_rows.specs.declared.start_search.RowStart.{RowStart}
use Rattle.bx_rows.specs.RowStarts.{start_of}
use Rattle.bx_rows.specs.Wrapping.{columns_at, fit_count_from, is_break, rows_from, up_to_last}

-- A row read up to the units `rest`; `p` tells after which units there is a break, where a row may end. `here` are the units
-- from the row's start on: `last` units up to its last break (0: it has none), then `count` units, with which `behind` begins.
-- Together they have `columns` columns; the last `count` would have `since` columns in a row of their own, where a tab may
-- differ.
pub record IsScan (p : Unit → Bool) (w : ℕ) (here behind rest : List Unit) (columns last count since : ℕ) : Type 0 where
  pub front : List Unit
  pub back : List Unit
  pub here_is : here ≡ front ++ (back ++ rest)
  pub behind_is : behind ≡ back ++ rest
  -- the `front` ends with a break, if it is not empty; the `back` has none
  pub ends : up_to_last p front ≡ length front
  pub none : up_to_last p back ≡ 0
  pub last_is : last ≡ length front
  pub count_is : count ≡ length back
  -- the units read fit, in this row and from `behind` on in a row of their own
  pub fits : fit_count_from w 0 here ≡ last + count + fit_count_from w columns rest
  pub fits_behind : fit_count_from w 0 behind ≡ count + fit_count_from w since rest
  pub within : columns ≤ w
  pub less : since ≤ columns

-- the current row, read up to the offset `at`: its offsets are in order, its columns fit, and its start counts the characters
-- before the row
pub record IsInOrder (w : ℕ) (body : List ℕ) (s : Scan) (at : ℕ) : Type 0 where
  pub start : IsCharBoundary body s.start.offset
  pub next : IsCharBoundary body s.next
  pub order : s.start.offset ≤ s.next
  pub behind : s.next ≤ at
  -- each unit has at least one byte
  pub bound : s.start.units + s.last + s.count ≤ at
  pub within : s.columns ≤ w
  pub less : s.since ≤ s.columns
  pub chars : s.start.chars ≡ length (chars (take s.start.offset body))

-- the units before `rest` are read: `starts`, and the starts from the current row on, are the starts of all rows
pub record IsRead (ucd : Data) (w : ℕ) (body : List ℕ) (starts : List RowStart) (s : Scan) (rest : List Unit) : Type 0 where
  pub scan : IsScan (is_break ucd body) w (units_from ucd w body s.start.offset) (units_from ucd w body s.next) rest s.columns s.last s.count s.since
  pub number : drop s.start.units (units ucd w body) ≡ units_from ucd w body s.start.offset
  pub chars : s.start.chars ≡ length (chars (take s.start.offset body))
  pub done : starts ++ map (start_of body (units ucd w body)) (rows_from (is_break ucd body) w s.start.units 0 (units_from ucd w body s.start.offset))
      ≡ map (start_of body (units ucd w body)) (rows_from (is_break ucd body) w 0 0 (units ucd w body))

-- a row with no unit yet
abbrev pub new_scan : RowStart → Scan
new_scan start = record { start = start; next = start.offset; columns = 0; last = 0; count = 0; since = 0 }

-- a row with `n` more units of one column each; `m` of them, up to the last after which a row may end, end at `next` (0: none)
abbrev pub with_run : Scan → ℕ → ℕ → ℕ → Scan
with_run s n zero next =
    record { start = s.start; next = s.next; columns = s.columns + n; last = s.last; count = s.count + n; since = s.since + n }
with_run s n (suc m) next =
    record { start = s.start; next = next; columns = s.columns + n; last = s.last + s.count + suc m; count = n - suc m; since = n - suc m }

-- The unit `u` has the columns of the extent `e`, and allows a break if `e` does. It is the body's unit at the offset `e.start`,
-- and `rest` are the units after it.
pub record HasExtent (ucd : Data) (w : ℕ) (body : List ℕ) (e : Extent) (u : Unit) (rest : List Unit) : Type 0 where
  pub columns : (c : ℕ) → columns_at w c u.face ≡ columns_at w c e.face
  pub breaks : is_break ucd body u ≡ e.is_break
  pub here : units_from ucd w body e.start ≡ u ∷ rest
  pub behind : units_from ucd w body e.stop ≡ rest

-- reading a unit of this extent makes of `starts` and the current row `s` the starts `new` and the current row `t`
abbrev pub Takes : ℕ → List ℕ → Extent → List RowStart → Scan → List RowStart → Scan → Type 0
Takes w body e starts s new t =
    (ucd : Data) (u : Unit) (rest : List Unit) → HasExtent ucd w body e u rest → IsRead ucd w body starts s (u ∷ rest)
    → IsRead ucd w body new t rest

-- a body has a unit of the extent
pub record HasUnit (ucd : Data) (w : ℕ) (body : List ℕ) (e : Extent) : Type 0 where
  pub unit : Unit
  pub extent : HasExtent ucd w body e unit (units_from ucd w body e.stop)
