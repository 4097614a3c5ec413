-- The position of a place: the column of its cell, its paragraph's number, and its unit's in the paragraph, all from 1, and whether the
-- paragraph is read from right to left. `ucd` is what the tables say.
use Rattle.std.specs.Prelude.{◌≡◌, ℕ, ◌+◌, List}
use Rattle.bx_ucd.specs.Data.{Data}
use Rattle.bx_view.specs.declared.position.Position.{Position}
use Rattle.bx_view.specs.Numbers.{paragraph_number, unit_number}
use Rattle.bx_view.specs.TextRows.{TextRow, cell_of, row_at, row_of}
use Rattle.bx_paragraph.specs.Slots.{reads_on}
use Rattle.bx_paragraph.specs.declared.moves.Visual.TheVariants.{Left}

-- `p` is the position of a place of a text in these rows of `w` columns
pub record IsPosition (ucd : Data) (w : ℕ) (text : List ℕ) (rows : List TextRow) (place : ℕ) (p : Position) : Type 0 where
  pub column : p.column ≡ cell_of w rows place
  pub paragraph : p.paragraph ≡ paragraph_number ucd text place + 1
  pub unit : p.unit ≡ unit_number ucd text place
  pub direction : p.is_rtl ≡ reads_on Left (row_at rows (row_of rows place)).row
