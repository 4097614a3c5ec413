-- The bytes that paint a picture: all of it, or its changes from the one before. Rows and columns count from 0, `old` are the
-- columns that the terminal shows before, a rendition is true if it is negative.
use Rattle.std.specs.Prelude.{ℕ, zero, suc, ◌+◌, ◌*◌, Bool, true, false, not, ◌&&◌, ◌==◌, List, [], ◌∷◌, ◌++◌, length, take, drop, replicate, if◌then◌else◌}
use Rattle.std.specs.Prelude.{decimal}
use Rattle.std.specs.List.{list_all}
use Rattle.bx_grid.specs.Columns.{Col, Unknown, Glyph, blank, is_blank, is_ascii_glyph, are_equal}
use Rattle.bx_grid.specs.Picture.{PictureState}

-- ---- sequences (ECMA-48, 8.3)

-- CUP, `\e[LINE;COLUMNH`, to a row and a column from 0
abbrev pub move_bytes : ℕ → ℕ → List ℕ
move_bytes row column = 0x1B ∷ 0x5B ∷ ((decimal (row + 1) ++ 0x3B ∷ decimal (column + 1)) ++ 0x48 ∷ [])

-- SGR, `\e[7m` for negative, `\e[0m` for normal
abbrev pub render_bytes : Bool → List ℕ
render_bytes negative = 0x1B ∷ 0x5B ∷ (if negative then 0x37 else 0x30) ∷ 0x6D ∷ []

-- SGR, if the rendition must change from the first to the second
abbrev pub render_change : Bool → Bool → List ℕ
render_change true true = []
render_change true false = render_bytes false
render_change false true = render_bytes true
render_change false false = []

-- EL, `\e[0K`: from the cursor to the row's end
abbrev pub erase_bytes : List ℕ
erase_bytes = 0x1B ∷ 0x5B ∷ 0x30 ∷ 0x4B ∷ []

-- ---- a row

-- bytes, and whether the rendition is negative after them
pub record Sent : Type 0 where
  pub bytes : List ℕ
  pub negative : Bool

-- these bytes, and then those of `s`
abbrev pub then_sent : List ℕ → Sent → Sent
then_sent bytes s = record { bytes = bytes ++ s.bytes; negative = s.negative }

-- the columns before the row's tail, which is the longest run of blanks at its end
abbrev pub before_tail : List Col → List Col
before_tail [] = []
before_tail (c ∷ cs) = if list_all is_blank (c ∷ cs) then [] else c ∷ before_tail cs

-- the number of blanks at the front
abbrev pub leading_blanks : List Col → ℕ
leading_blanks [] = 0
leading_blanks (c ∷ cs) = if is_blank c then leading_blanks cs + 1 else 0

-- these columns begin with a glyph that differs in some column from the old ones
abbrev pub is_sent : List Col → List Col → Bool
is_sent old [] = false
is_sent old (Unknown ∷ cs) = false
is_sent old (Glyph text columns offset negative ∷ cs) =
    (offset == 0) && not (are_equal (take columns old) (take columns (Glyph text columns offset negative ∷ cs)))

-- The bytes of a glyph. `near` says that a character from SPACE to TILDE was just sent for the column before, so that another
-- such character needs no move; any other glyph gets one, since a run with other characters is one glyph. `negative` is the
-- rendition before.
abbrev pub glyph_bytes : ℕ → ℕ → Bool → Bool → List ℕ → Bool → List ℕ
glyph_bytes row column near negative text glyph_negative =
    (if near && is_ascii_glyph text then [] else move_bytes row column) ++ (render_change negative glyph_negative ++ text)

-- the bytes sent for one column, whether a character from SPACE to TILDE was sent there, and the rendition after it
pub record Step : Type 0 where
  pub bytes : List ℕ
  pub near : Bool
  pub negative : Bool

-- a column for which nothing is sent, in this rendition
abbrev pub nothing_sent : Bool → Step
nothing_sent negative = record { bytes = []; near = false; negative = negative }

-- the bytes sent for column `column` of a row, the first of these new columns; `old` are the old ones from it on
abbrev pub column_sent : ℕ → ℕ → Bool → Bool → List Col → List Col → Step
column_sent row column near negative old [] = nothing_sent negative
column_sent row column near negative old (Unknown ∷ cs) = nothing_sent negative
column_sent row column near negative old (Glyph text columns offset glyph_negative ∷ cs) =
    if is_sent old (Glyph text columns offset glyph_negative ∷ cs)
    then record { bytes = glyph_bytes row column near negative text glyph_negative; near = is_ascii_glyph text; negative = glyph_negative }
    else nothing_sent negative

-- the bytes sent for the columns of a row before its tail, from column `column` on
abbrev pub columns_sent : ℕ → ℕ → Bool → Bool → List Col → List Col → Sent
columns_sent row column near negative old [] = record { bytes = []; negative = negative }
columns_sent row column near negative old (c ∷ cs) =
    let s = column_sent row column near negative old (c ∷ cs) in
    then_sent s.bytes (columns_sent row (column + 1) s.near s.negative (drop 1 old) cs)

-- the bytes sent for a row's tail in place of these old columns, of which the first is `column`: they erase from the first one
-- that is not blank; no bytes if all are blank
abbrev pub tail_sent : ℕ → ℕ → Bool → List Col → Sent
tail_sent row column negative old =
    if list_all is_blank old
    then record { bytes = []; negative = negative }
    else record { bytes = move_bytes row (column + leading_blanks old) ++ (render_change negative false ++ erase_bytes); negative = false }

-- what was sent before a row's tail, and then the tail
abbrev pub tail_after : ℕ → ℕ → List Col → Sent → Sent
tail_after row column old s = then_sent s.bytes (tail_sent row column s.negative old)

-- the bytes sent for a row in place of its old columns
abbrev pub row_sent : ℕ → Bool → List Col → List Col → Sent
row_sent row negative old new =
    let front = before_tail new in
    tail_after row (length front) (drop (length front) old) (columns_sent row 0 false negative (take (length front) old) front)

-- ---- a picture

-- what was sent for a row, and then the other rows, in the rendition that it left
abbrev pub rows_after : Sent → (Bool → Sent) → Sent
rows_after s more = then_sent s.bytes (more s.negative)

-- the bytes sent for a number of rows, from this one on
abbrev pub rows_sent : ℕ → ℕ → ℕ → Bool → List Col → List Col → Sent
rows_sent zero row width negative old new = record { bytes = []; negative = negative }
rows_sent (suc count) row width negative old new =
    rows_after (row_sent row negative (take width old) (take width new))
    (λ after. rows_sent count (row + 1) width after (drop width old) (drop width new))

-- the bytes sent for a picture in place of these old columns
abbrev pub columns_changed : List Col → PictureState → Sent
columns_changed old p = rows_sent p.height 0 p.width false old p.columns

-- what was sent, then normal rendition, if it is not so already, and a move to the cursor
abbrev pub ended : PictureState → Sent → List ℕ
ended p s = s.bytes ++ (render_change s.negative false ++ move_bytes p.row p.column)

-- the cursors of both pictures are in the same cell
abbrev pub is_at_cursor_of : PictureState → PictureState → Bool
is_at_cursor_of p q = (p.row == q.row) && (p.column == q.column)

-- there are no bytes
abbrev pub is_none : List ℕ → Bool
is_none [] = true
is_none (b ∷ bs) = false

-- nothing, where neither columns nor cursor changed
abbrev pub if_changed : PictureState → PictureState → Sent → List ℕ
if_changed old new s = if is_none s.bytes && is_at_cursor_of old new then [] else ended new s

-- the bytes that change one picture into another of its size
abbrev pub changes_bytes : PictureState → PictureState → List ℕ
changes_bytes old new = if_changed old new (columns_changed old.columns new)

-- `\e[0m\e[2J`, and then the picture, over blanks
abbrev pub whole_bytes : PictureState → List ℕ
whole_bytes p = 0x1B ∷ 0x5B ∷ 0x30 ∷ 0x6D ∷ 0x1B ∷ 0x5B ∷ 0x32 ∷ 0x4A ∷ ended p (columns_changed (replicate (p.height * p.width) blank) p)
