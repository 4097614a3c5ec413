-- The changes between two pictures: the glyphs and the row ends for a painter to send, and the number of columns that differ.
use Rattle.std.specs.Prelude.{ℕ, zero, suc, ◌+◌, List, [], ◌∷◌, ◌++◌, length, take, drop, if◌then◌else◌}
use Rattle.std.specs.List.{list_all}
use Rattle.bx_grid.specs.Columns.{Col, Unknown, Glyph, is_blank, col_eq}
use Rattle.bx_grid.specs.Effects.{Effect, Puts, Erases}
use Rattle.bx_grid.specs.Picture.{PictureState}
use Rattle.bx_paint.specs.Painting.{before_tail, leading_blanks, is_sent}

-- The glyphs before a row's tail that differ in some column from the `old` columns in their place. The first column has the
-- index `index`, counted over all rows from 0.
abbrev pub glyphs_changed : ℕ → List Col → List Col → List Effect
glyphs_changed index old [] = []
glyphs_changed index old (Unknown ∷ cs) = glyphs_changed (index + 1) (drop 1 old) cs
glyphs_changed index old (Glyph text columns offset negative ∷ cs) =
    if is_sent old (Glyph text columns offset negative ∷ cs)
    then Puts index text negative ∷ glyphs_changed (index + 1) (drop 1 old) cs
    else glyphs_changed (index + 1) (drop 1 old) cs

-- the erasure of a row's tail, where the new columns are blanks, from the first old column that is not blank on; none if all old
-- ones are blank. `index` is that of the tail's first column.
abbrev pub tail_changed : ℕ → List Col → List Effect
tail_changed index old = if list_all is_blank old then [] else Erases (index + leading_blanks old) ∷ []

-- the changes of a row whose first column has this index
abbrev pub row_changed : ℕ → List Col → List Col → List Effect
row_changed index old new =
    let front = before_tail new in
    glyphs_changed index (take (length front) old) front ++ tail_changed (index + length front) (drop (length front) old)

-- the changes of a number of rows, the first of which begins at this index
abbrev pub rows_changed : ℕ → ℕ → ℕ → List Col → List Col → List Effect
rows_changed zero width index old new = []
rows_changed (suc count) width index old new =
    row_changed index (take width old) (take width new) ++ rows_changed count width (index + width) (drop width old) (drop width new)

-- the changes between two pictures of one size
abbrev pub changed : PictureState → PictureState → List Effect
changed old new = rows_changed new.height new.width 0 old.columns new.columns

-- the number of columns that differ
abbrev pub differing : List Col → List Col → ℕ
differing old [] = 0
differing [] (c ∷ cs) = 0
differing (d ∷ ds) (c ∷ cs) = (if col_eq d c then 0 else 1) + differing ds cs
