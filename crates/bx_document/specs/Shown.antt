-- The visible rows of a document `t`, from the row of the offset `top` on. `d` is the data of Unicode's tables.
use Rattle.std.specs.Prelude.{ℕ, ◌-◌, List, ◌*◌}
use Rattle.bx_grid.specs.Columns.{Col}
use Rattle.bx_grid.specs.Grid.{paste, GridState}
use Rattle.bx_view.specs.TextRows.{row_of}
use Rattle.bx_view.specs.Top.{shown_rows}
use Rattle.bx_ucd.specs.Data.{Data}
use Rattle.bx_document.specs.Document.{Document, rows}
use Rattle.bx_document.specs.Drawing.{region_rows}

-- the columns of `count` rows of the window, with the region turned to the other rendition
abbrev pub shown_columns : Data → Document → ℕ → ℕ × ℕ → ℕ → List Col
shown_columns d t top region count = region_rows d t.w region count (shown_rows (rows d t) top count)

-- the number of visible rows above the row of `place`
abbrev pub rows_above : Data → Document → ℕ → ℕ → ℕ
rows_above d t top place = row_of (rows d t) place - row_of (rows d t) top

-- the grid with these columns in place of its own, from row `row` on; rows count from 0
abbrev pub with_rows : GridState → ℕ → List Col → GridState
with_rows g row columns = record g { columns = paste g.columns (row * g.width) columns }
