-- Runs of units that have one column each at any column of a row. Wrapping adds such a run to a row at once. `ucd` is what the
-- tables say, `w` the window's columns; offsets count bytes of the body.
use Rattle.std.specs.Prelude.{◌≡◌, ℕ, ◌+◌, ◌≤◌, Bool, true, false, ⊤, List, [], ◌∷◌, ◌++◌, length, drop}
use Rattle.std.specs.Str.{IsCharBoundary}
use Rattle.bx_ucd.specs.Data.{Data}
use Rattle.bx_rows.specs.declared.cells.unit.Unit.{Unit}
use Rattle.bx_rows.specs.cells.UnitFacts.{units_from}
use Rattle.bx_rows.specs.declared.narrow_run.NarrowRun.{NarrowRun}
use Rattle.bx_rows.specs.Wrapping.{columns_at, is_break, up_to_last}

-- each unit has one column, at whichever column `c` of the row it begins
abbrev pub AreNarrow : ℕ → List Unit → Type 0
AreNarrow w [] = ⊤
AreNarrow w (u ∷ us) = ((c : ℕ) → columns_at w c u.face ≡ 1) × AreNarrow w us

-- the run consists of the units `us` of a body, from the offset `at` to the offset `r.stop`
pub record IsNarrowRun (ucd : Data) (w : ℕ) (body : List ℕ) (at : ℕ) (r : NarrowRun) : Type 0 where
  pub us : List Unit
  pub units : units_from ucd w body at ≡ us ++ units_from ucd w body r.stop
  pub narrow : AreNarrow w us
  pub count_is : length us ≡ r.count
  -- `last` counts the units up to the last after which a row may end
  pub last_is : up_to_last (is_break ucd body) us ≡ r.last
  -- `next` is the offset after these
  pub next_is : units_from ucd w body r.next ≡ drop r.last us ++ units_from ucd w body r.stop

-- the bounds of a run that begins at the offset `at` of a body
pub record IsRunIn (body : List ℕ) (at : ℕ) (r : NarrowRun) : Type 0 where
  pub last : r.last ≤ r.count
  pub from : at ≤ r.next
  pub order : r.next ≤ r.stop
  pub next : IsCharBoundary body r.next
  -- each unit has at least one byte
  pub sum : at + r.count ≤ r.stop
  pub boundary : IsCharBoundary body r.stop

-- a run with one more unit, which ends at `stop`; true: a row may end after it
abbrev pub grown : NarrowRun → ℕ → Bool → NarrowRun
grown r stop true = record { stop = stop; count = r.count + 1; last = r.count + 1; next = stop }
grown r stop false = record { stop = stop; count = r.count + 1; last = r.last; next = r.next }
