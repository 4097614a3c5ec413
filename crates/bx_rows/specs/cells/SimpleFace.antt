-- The face of a cluster of simple characters, in a window of `w` columns. `ucd` is Unicode's data. Marks are combining marks here;
-- `Placeholder` is the face of a letter in negative.
use Rattle.std.specs.Prelude.{ℕ, Bool, cond, Some, None}
use Rattle.bx_ucd.specs.Data.{Data}
use Rattle.bx_rows.specs.declared.cells.unit.Face.{Face}
use Rattle.bx_rows.specs.declared.cells.unit.Face.TheVariants.{Placeholder}
use Rattle.bx_rows.specs.cells.Units.{format_letter, sized_face}
use Rattle.bx_rows.specs.cells.Simple.{own_columns}

-- the face of a cluster that begins with the character `c`, with marks after it or without; a formatting character has its letter only
-- where none follow
abbrev pub simple_face : Data → ℕ → ℕ → Bool → Face
simple_face ucd w c is_marked = elim (format_letter ucd (cond is_marked None (Some c))) [
  | Some letter ↦ Placeholder letter
  | None ↦ sized_face w (own_columns c)
]
