-- The columns that show a row of text, and a region in it, and rows of glyphs that are cut where they have no room. `d` is the data of Unicode's tables, `w` or `width` the
-- window's columns.
use Rattle.std.specs.Prelude.{ℕ, ◌+◌, ◌*◌, ◌≤◌, ◌<◌, List, flat_map, ◌-◌, Bool, [], ◌∷◌, ◌++◌, length, replicate, if◌then◌else◌, nat_le}
use Rattle.std.specs.Prelude.{true, false, take}
use Rattle.bx_grid.specs.Columns.{Col, glyph_columns, blank, turned}
use Rattle.bx_paragraph.specs.BodyRows.{BodyRow, row_glyphs}
use Rattle.bx_rows.specs.RowPicture.{Glyph}
use Rattle.bx_view.specs.TextRows.{TextRow, row_of}
use Rattle.bx_view.specs.Top.{is_covered}
use Rattle.bx_ucd.specs.Data.{Data}

-- the columns of glyphs side by side
abbrev pub side_by_side : List Glyph → List Col
side_by_side glyphs = flat_map (λ g. glyph_columns g.text g.columns g.negative) glyphs

-- the columns of a row of a paragraph's body
abbrev pub body_row_columns : Data → ℕ → BodyRow → List Col
body_row_columns d width r = side_by_side (row_glyphs d width r)

-- the columns of a row of text
abbrev pub row_columns : Data → ℕ → TextRow → List Col
row_columns d width r = body_row_columns d width r.row

-- the row of `place` is one of the `count` rows that begin with the row of the offset `top`
pub record IsAmong (rows : List TextRow) (top place count : ℕ) : Type 0 where
  pub above : row_of rows top ≤ row_of rows place
  pub below : row_of rows place < row_of rows top + count

-- ---- a region, which is a part of the text, from one offset up to another: a pair

-- the columns, each whose number passes turned to the other rendition; the first column has the number `k`
abbrev pub turned_where : (ℕ → Bool) → ℕ → List Col → List Col
turned_where passes k [] = []
turned_where passes k (c ∷ cs) = (if passes k then turned c else c) ∷ turned_where passes (k + 1) cs

-- the columns of a row of text; units that begin in the region are in the other rendition
abbrev pub region_columns : Data → ℕ → ℕ × ℕ → TextRow → List Col
region_columns d w region r = turned_where (is_covered w region r) 1 (row_columns d w r)

-- the columns of `count` rows of the window: the shown rows of text, at most `count`, with the region, then blank rows
abbrev pub region_rows : Data → ℕ → ℕ × ℕ → ℕ → List TextRow → List Col
region_rows d w region count shown = flat_map (region_columns d w region) shown ++ replicate ((count - length shown) * w) blank

-- ---- a row that leaves out the glyphs that do not fit

-- the leftmost glyphs, up to but without the first one that does not fit into `w` columns
abbrev pub fitting : ℕ → List Glyph → List Glyph
fitting w [] = []
fitting w (g ∷ gs) = elim (nat_le g.columns w) [ true ↦ g ∷ fitting (w - g.columns) gs | false ↦ [] ]

-- a row of `w` columns: the glyphs that fit, and blanks on their right
abbrev pub glyph_row : ℕ → List Glyph → List Col
glyph_row w glyphs = take w (side_by_side (fitting w glyphs) ++ replicate w blank)
