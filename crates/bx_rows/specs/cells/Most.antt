-- Bounds on the columns of a face.
use Rattle.std.specs.Prelude.{ℕ, ◌≤◌}
use Rattle.bx_rows.specs.declared.cells.unit.Face.{Face}
use Rattle.bx_rows.specs.declared.cells.unit.Face.TheVariants.{Tab, Placeholder, Own}

-- the face is not a tab, and has at most n columns
abbrev pub HasAtMost : ℕ → Face → Type 0
HasAtMost n Tab = ⊥
HasAtMost n (Placeholder letter) = 1 ≤ n
HasAtMost n (Own m) = m ≤ n
