-- The cell of a place: one slot of one row, in the column at which the glyphs of its unit begin. `ucd` is what the tables say,
-- `w` the window's columns; columns count from 1, the numbers of units and of rows (`k`) from 0.
use Rattle.std.specs.Prelude.{◌≡◌, ◌≢◌, ◌⊎◌, ℕ, zero, suc, ◌+◌, ◌-◌, ◌%◌, ◌<◌, ◌==◌, true, List, [], ◌∷◌, ◌++◌, length, count_by, sum_by, flat_map}
use Rattle.std.specs.Prelude.{replicate, slice_index_or, HoldsAt, Option}
use Rattle.bx_ucd.specs.Data.{Data}
use Rattle.bx_ucd.specs.declared.joining.Form.{Form}
use Rattle.bx_ucd.specs.declared.joining.Joining.{Joining}
use Rattle.bx_rows.specs.RowPicture.{Glyph, blank, columns_used, unit_columns, unit_glyphs}
use Rattle.bx_rows.specs.RowLevels.{visual}
use Rattle.bx_paragraph.specs.BodyRows.{BodyRow}
use Rattle.bx_paragraph.specs.Slots.{end_column}
use Rattle.bx_view.specs.TextRows.{TextRow, cell_of, row_at, row_of, slots, text_row_glyphs}

-- how often an offset occurs in a list
abbrev pub times : ℕ → List ℕ → ℕ
times offset offsets = count_by (λ o. o == offset) offsets

-- a place has one slot in the row that it falls in, and none in any other row
pub record HasOneSlot (w : ℕ) (rows : List TextRow) (place : ℕ) : Type 0 where
  pub row : row_of rows place < length rows
  pub once : times place (slots w (row_at rows (row_of rows place))) ≡ 1
  pub elsewhere : (k : ℕ) → k < length rows → k ≢ row_of rows place → times place (slots w (row_at rows k)) ≡ 0

-- the glyphs of a row's unit `number`
abbrev pub glyphs_of : Data → ℕ → BodyRow → ℕ → List Glyph
glyphs_of ucd w r number = slice_index_or (unit_glyphs ucd w r.body r.each r.units (unit_columns w 0 r.units) r.levels) number []

-- the glyphs of a row left of a unit: the row's blanks in a paragraph of odd level, then the glyphs of the units `numbers`, from
-- left to right
abbrev pub glyphs_before : Data → ℕ → BodyRow → List ℕ → List Glyph
glyphs_before ucd w r numbers =
    elim (r.paragraph % 2) [ zero ↦ [] | suc _ ↦ replicate (w - columns_used w r.units) blank ] ++ flat_map (glyphs_of ucd w r) numbers

-- A unit of the row begins at the place, and its glyphs begin at the column: the first one after the row's blanks and the
-- glyphs of the units before it in visual order.
pub record IsUnitCell (ucd : Data) (w : ℕ) (r : TextRow) (place column : ℕ) : Type 0 where
  pub number : ℕ
  pub within : number < length r.row.units
  pub place_is : HoldsAt (λ u. r.start + u.start ≡ place) r.row.units number
  pub before : List ℕ
  pub behind : List ℕ
  pub order : visual r.row.levels ≡ before ++ number ∷ behind
  pub rest : List Glyph
  pub shown : text_row_glyphs ucd w r ≡ glyphs_before ucd w r.row before ++ (glyphs_of ucd w r.row number ++ rest)
  pub column_is : column ≡ sum_by (λ g. g.columns) (glyphs_before ucd w r.row before) + 1

-- the place is the paragraph's end, and its slot's column is next to the row's units, or the window's last on that side
pub record IsEndCell (w : ℕ) (r : TextRow) (place column : ℕ) : Type 0 where
  pub last : r.row.is_last ≡ true
  pub place_is : place ≡ r.start + length r.row.body
  pub column_is : column ≡ end_column w r.row

-- what the tables say, but with these mirrors, joining types and forms of letters
abbrev pub with_looks : Data → (ℕ → Option ℕ) → (ℕ → Joining) → (ℕ → Form → Option ℕ) → Data
with_looks ucd mirror joining form = record ucd { mirror = mirror; joining = joining; form = form }

-- the cell of a place in its row, whatever the mirrors and the forms of letters
abbrev pub HasCell : Data → ℕ → List TextRow → ℕ → Type 0
HasCell ucd w rows place =
    let r = row_at rows (row_of rows place) in
    let column = cell_of w rows place in
    (mirror : ℕ → Option ℕ) (joining : ℕ → Joining) (form : ℕ → Form → Option ℕ)
    → IsUnitCell (with_looks ucd mirror joining form) w r place column ⊎ IsEndCell w r place column
