-- The input line of a prompt: a small text that is laid out by itself, as a text under the base direction Auto in rows of 500 columns, the
-- widest window (`largest_side`), whatever window shows it. Its places count its bytes. `d` is the data of Unicode's tables.
use Rattle.std.specs.Prelude.{ℕ, zero, suc, ◌+◌, ◌-◌, ◌%◌, ◌==◌, nat_le, nat_lt, List, [], ◌∷◌, sum_by, Option, Some, None, if◌then◌else◌}
use Rattle.bx_common.specs.declared.base.Base.TheVariants.{Auto}
use Rattle.bx_paragraph.specs.BodyRows.{row_own_glyphs}
use Rattle.bx_rows.specs.RowPicture.{Glyph}
use Rattle.bx_ucd.specs.Data.{Data}
use Rattle.bx_view.specs.TextRows.{TextRow, cell_of, row_at, row_of, text_rows}

-- the rows of an input line
abbrev pub line_rows : Data → List ℕ → List TextRow
line_rows d line = text_rows d Auto 500 line

-- the glyphs of its first row from left to right
abbrev pub line_glyphs : Data → List ℕ → List Glyph
line_glyphs d line = row_own_glyphs d 500 (row_at (line_rows d line) 0).row

-- the columns that glyphs take
abbrev pub columns_taken : List Glyph → ℕ
columns_taken glyphs = sum_by (λ g. g.columns) glyphs

-- the free columns at the left of a row with these glyphs: none at level 0, at level 1 all that the glyphs leave
abbrev pub free_at_left : TextRow → List Glyph → ℕ
free_at_left r glyphs = elim (r.row.paragraph % 2) [ zero ↦ 0 | suc _ ↦ 500 - columns_taken glyphs ]

-- The column of a place's cell, counted from 1 at the first of the glyphs: 0 for the end of a line that runs from right to left, since that
-- is left of them. None in another row than the first.
abbrev pub line_cell : Data → List ℕ → ℕ → Option ℕ
line_cell d line place =
    let rows = line_rows d line in
    if row_of rows place == 0 then Some (cell_of 500 rows place - free_at_left (row_at rows 0) (line_glyphs d line)) else None

-- ---- what is shown of it

-- the glyphs of an input line that a row shows, and the column of the cursor in the row, from 1
pub record ShownLine : Type 0 where
  pub glyphs : List Glyph
  pub column : ℕ

-- The glyphs that stand in a row of `w` columns behind `before` other columns, with the cursor in their column `cell`. Where that is no
-- column of the row, the fewest glyphs by which it becomes one are left out at the left; none where the cursor's would be among them.
abbrev pub shown_line : ℕ → ℕ → List Glyph → ℕ → Option ShownLine
shown_line w before [] cell = if nat_le (before + cell) w then Some (record { glyphs = []; column = before + cell }) else None
shown_line w before (g ∷ gs) cell =
    if nat_le (before + cell) w
    then Some (record { glyphs = g ∷ gs; column = before + cell })
    else if nat_lt g.columns cell then shown_line w before gs (cell - g.columns) else None

-- where there is a cell
abbrev pub shown_with : ℕ → ℕ → List Glyph → Option ℕ → Option ShownLine
shown_with w before glyphs None = None
shown_with w before glyphs (Some cell) = shown_line w before glyphs cell

-- what a row of `w` columns shows of an input line, with its cursor at a place; None if the cursor has no room
abbrev pub input_line : Data → ℕ → ℕ → List ℕ → ℕ → Option ShownLine
input_line d w before line place = shown_with w before (line_glyphs d line) (line_cell d line place)

-- the glyphs that the row shows; all of them if the cursor has no room
abbrev pub glyphs_or : List Glyph → Option ShownLine → List Glyph
glyphs_or all None = all
glyphs_or all (Some shown) = shown.glyphs

-- the column of the cursor in the row, if it has room
abbrev pub column_shown : Option ShownLine → Option ℕ
column_shown None = None
column_shown (Some shown) = Some shown.column
