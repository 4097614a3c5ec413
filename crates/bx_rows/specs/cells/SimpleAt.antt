-- A cluster of simple characters in a body. `ucd` is Unicode's data, `w` the columns of the window.
use Rattle.std.specs.Prelude.{◌≡◌, ℕ, ◌<◌, cond, List, ◌∷◌, chars, slice_range, Some, None}
use Rattle.std.specs.Str.{IsCharBoundary}
use Rattle.bx_ucd.specs.Data.{Data}
use Rattle.bx_rows.specs.declared.cells.simple_clusters.SimpleCluster.{SimpleCluster}
use Rattle.bx_rows.specs.cells.Units.{only_char}
use Rattle.bx_rows.specs.cells.Simple.{own_columns}
use Rattle.bx_rows.specs.cells.SimpleFace.{simple_face}
use Rattle.bx_rows.specs.cells.UnitFacts.{units_from}

-- `s` is the first cluster of a body from the byte offset `at` on
pub record IsSimpleAt (body : List ℕ) (at : ℕ) (s : SimpleCluster) : Type 0 where
  pub units : (ucd : Data) (w : ℕ) → units_from ucd w body at
      ≡ record { start = at; stop = s.stop; face = simple_face ucd w s.first s.is_marked } ∷ units_from ucd w body s.stop
  pub only : only_char (chars (slice_range body at s.stop)) ≡ cond s.is_marked None (Some s.first)
  pub columns : own_columns s.first ≡ s.columns
  pub grows : at < s.stop
  pub boundary : IsCharBoundary body s.stop
