-- The rows of a paragraph's body in a window of `w` columns, numbered from 0. Offsets count bytes of the body. `ucd` is what the
-- tables say.
use Rattle.std.specs.Prelude.{ℕ, ◌-◌, nat_le, Bool, true, false, List, [], ◌∷◌, ◌++◌, map, length, count_by, slice_index_or, Option, chars}
use Rattle.bx_ucd.specs.Data.{Data}
use Rattle.bx_common.specs.declared.base.Base.{Base}
use Rattle.bx_levels.specs.resolve.Levels.{paragraph_level_under, levels_under}
use Rattle.bx_rows.specs.declared.cells.unit.Unit.{Unit}
use Rattle.bx_rows.specs.cells.Units.{units}
use Rattle.bx_rows.specs.Wrapping.{wrap, row_units, first_offset}
use Rattle.bx_rows.specs.RowLevels.{row_levels}
use Rattle.bx_rows.specs.RowPicture.{Glyph, draw, own_glyphs}

-- a row: its paragraph's body, the paragraph level, the levels of all characters of the body (`each`), the row's units, the level of each
-- unit by L1 (`levels`), and whether it is the paragraph's last row
pub record BodyRow : Type 0 where
  pub body : List ℕ
  pub paragraph : ℕ
  pub each : List (Option ℕ)
  pub units : List Unit
  pub levels : List ℕ
  pub is_last : Bool

-- the row of some units, in a paragraph of the level `paragraph` whose characters have the levels `each`
abbrev pub row_with : Data → List ℕ → ℕ → List (Option ℕ) → Bool → List Unit → BodyRow
row_with ucd body paragraph each is_last us =
    record { body = body; paragraph = paragraph; each = each; units = us; levels = row_levels ucd body paragraph each us; is_last = is_last }

-- the rows made of the units of each row, in order, the last one marked as last
abbrev pub with_last : (Bool → List Unit → BodyRow) → List (List Unit) → List BodyRow
with_last row [] = []
with_last row (us ∷ []) = row true us ∷ []
with_last row (us ∷ vs ∷ rest) = row false us ∷ with_last row (vs ∷ rest)

-- the units of each row of a body
abbrev pub rows_units : Data → ℕ → List ℕ → List (List Unit)
rows_units ucd w body = let us = units ucd w body in map (row_units us) (wrap ucd w body us)

-- the rows of a body
abbrev pub body_rows : Data → Base → ℕ → List ℕ → List BodyRow
body_rows ucd base w body =
    let paragraph = paragraph_level_under ucd base (chars body) in
    let each = levels_under ucd base (chars body) in
    with_last (row_with ucd body paragraph each) (rows_units ucd w body)

-- the offset at which a row begins
abbrev pub first_of : BodyRow → ℕ
first_of r = first_offset r.units

-- the offsets of a row's places in order: the start of each unit, and in the last row the body's end
abbrev pub offsets_of : BodyRow → List ℕ
offsets_of r = map (λ u. u.start) r.units ++ elim (r.is_last) [ true ↦ length r.body ∷ [] | false ↦ [] ]

-- the last of some offsets; 0 if there is none
abbrev pub last_offset : List ℕ → ℕ
last_offset [] = 0
last_offset (p ∷ []) = p
last_offset (p ∷ q ∷ ps) = last_offset (q ∷ ps)

-- the offset of a row's last place: the body's end in the last row, else the start of the row's last unit
abbrev pub last_of : BodyRow → ℕ
last_of r = last_offset (offsets_of r)

-- the number, from 0, of the last of increasing starts that is at or before an offset
abbrev pub falls_in : List ℕ → ℕ → ℕ
falls_in beginnings offset = count_by (λ b. nat_le b offset) beginnings - 1

-- an empty row, for numbers without a row
abbrev pub no_row : BodyRow
no_row = record { body = []; paragraph = 0; each = []; units = []; levels = []; is_last = true }

-- a row by its number, from 0
abbrev pub row_at : List BodyRow → ℕ → BodyRow
row_at rows k = slice_index_or rows k no_row

-- the glyphs of a row from left to right, with the blanks that fill it to `w` columns
abbrev pub row_glyphs : Data → ℕ → BodyRow → List Glyph
row_glyphs ucd w r = draw ucd w r.body r.paragraph r.each r.units r.levels

-- the glyphs of a row's units from left to right
abbrev pub row_own_glyphs : Data → ℕ → BodyRow → List Glyph
row_own_glyphs ucd w r = own_glyphs ucd w r.body r.each r.units r.levels
