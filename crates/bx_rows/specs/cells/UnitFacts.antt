-- The units of a body from an offset on, and what holds of each unit. `ucd` is Unicode's data, `w` the columns of the window.
use Rattle.std.specs.Prelude.{◌≡◌, ℕ, ◌≤◌, true, List, map, drop}
use Rattle.std.specs.Str.{IsCharBoundary}
use Rattle.bx_ucd.specs.Data.{Data}
use Rattle.unicode_segmentation.specs.Grapheme.{graphemes}
use Rattle.unicode_segmentation.specs.Segments.{with_offsets}
use Rattle.bx_rows.specs.declared.cells.unit.Unit.{Unit}
use Rattle.bx_rows.specs.cells.Units.{face, unit_at, unit_text}

-- the units of a body from byte offset `at` on, taken as a text of its own
abbrev pub units_from : Data → ℕ → List ℕ → ℕ → List Unit
units_from ucd w body at = map (unit_at ucd w) (with_offsets at (graphemes true (drop at body)))

-- a unit begins and ends at character boundaries of a body, in this order
abbrev pub StandsIn : List ℕ → Unit → Type 0
StandsIn body u = (u.start ≤ u.stop) × IsCharBoundary body u.start × IsCharBoundary body u.stop

-- a unit shows the face of its text
abbrev pub HasFace : Data → ℕ → List ℕ → Unit → Type 0
HasFace ucd w body u = u.face ≡ face ucd w (unit_text body u)
