-- The visible rows, in rows of `w` columns: which row of the text is the top one, which place is pointed at in them, and which columns
-- show a part of the text. `t` is the number of rows that the window has for text, rows are numbered from 0.
use Rattle.std.specs.Prelude.{ℕ, ◌+◌, ◌-◌, ◌/◌, min, max, List, take, drop, length, unwrap_or, nat_le, nat_lt, Bool, true, false, ◌&&◌, Option}
use Rattle.std.specs.Prelude.{Some, None}
use Rattle.bx_view.specs.TextRows.{TextRow, first, row_at, row_of}
use Rattle.bx_view.specs.declared.moves.Goal.{Goal}
use Rattle.bx_view.specs.declared.moves.Vertical.{Vertical}
use Rattle.bx_view.specs.declared.moves.Vertical.TheVariants.{Up, Down}
use Rattle.bx_view.specs.Moves.{entry_in, row_away, place_in, to_row}
use Rattle.bx_paragraph.specs.Slots.{covering}

-- The number of the top row nearest to row `top` that has row `cursor` among the `t` rows from it on: it is from
-- `cursor + 1 - t` to `cursor`.
abbrev pub nearest_top : ℕ → ℕ → ℕ → ℕ
nearest_top top cursor t = max (cursor + 1 - t) (min top cursor)

-- the offset of the new top row, by which the row of `place` is visible; the old top row is that of the offset `top`
abbrev pub follow : List TextRow → ℕ → ℕ → ℕ → ℕ
follow rows top place t = first (row_at rows (nearest_top (row_of rows top) (row_of rows place) t))

-- ---- keys that move the top themselves; what each gives is the offset of the new top row

-- the number of the last row that may be the top one with no row of the window left blank, among `count` rows; 0 in a shorter text
abbrev pub last_top : ℕ → ℕ → ℕ
last_top count t = count - t

-- the number of the top row by which row `cursor` stands in the middle of the window, or as near to it as the text's ends allow
abbrev pub middle_top : ℕ → ℕ → ℕ → ℕ
middle_top count cursor t = min (cursor - t / 2) (last_top count t)

-- row `cursor` is one of the `t` rows from row `top` on
abbrev pub is_among : ℕ → ℕ → ℕ → Bool
is_among top cursor t = nat_le top cursor && nat_lt cursor (top + t)

-- the row of a place is visible
abbrev pub is_shown : List TextRow → ℕ → ℕ → ℕ → Bool
is_shown rows top place t = is_among (row_of rows top) (row_of rows place) t

-- After a search or another key that may lead far: the old top row where the place's row is visible, else the one by which that
-- stands in the middle.
abbrev pub centred : List TextRow → ℕ → ℕ → ℕ → ℕ
centred rows top place t =
    first (row_at rows (elim (is_shown rows top place t) [
      | true ↦ row_of rows top
      | false ↦ middle_top (length rows) (row_of rows place) t
    ]))

-- the number of the top row `n` rows above row `top`, or below it: at most the last top row, and row `top` where that is past it
-- already
abbrev pub top_row_away : ℕ → Vertical → ℕ → ℕ → ℕ → ℕ
top_row_away count Up n top t = top - n
top_row_away count Down n top t = max top (min (top + n) (last_top count t))

-- the view `n` rows up or down
abbrev pub top_away : List TextRow → Vertical → ℕ → ℕ → ℕ → ℕ
top_away rows way n top t = first (row_at rows (top_row_away (length rows) way n (row_of rows top) t))

-- the view by which no row of the window is left blank that could show text
abbrev pub filled : List TextRow → ℕ → ℕ → ℕ
filled rows top t = first (row_at rows (min (row_of rows top) (last_top (length rows) t)))

-- the number of the visible row nearest to row `cursor`, where row `top` is the top one
abbrev pub nearest_row : ℕ → ℕ → ℕ → ℕ
nearest_row top cursor t = max top (min cursor (top + t - 1))

-- a place that stays where its row is visible, and goes to the nearest visible row by a goal where it is not
abbrev pub to_shown : ℕ → List TextRow → ℕ → ℕ → Goal → ℕ → ℕ
to_shown w rows top t goal place = to_row w rows goal place (nearest_row (row_of rows top) (row_of rows place) t)

-- the visible rows, where the top one is that of the offset `top`: `t`, or fewer at the text's end
abbrev pub shown_rows : List TextRow → ℕ → ℕ → List TextRow
shown_rows rows top t = take t (drop (row_of rows top) rows)

-- ---- the place that is pointed at, by a row (`r`) and a column of the picture, both from 1

-- the number of the row that the picture shows in row `r`; of the text's last row, if it shows no text there
abbrev pub pointed_row : List TextRow → ℕ → ℕ → ℕ
pointed_row rows top r = row_away (length rows) Down (r - 1) (row_of rows top)

-- the place at which that row is entered in the column; each row has one
abbrev pub pointed_at : ℕ → List TextRow → ℕ → ℕ → ℕ → ℕ
pointed_at w rows top r column = unwrap_or (entry_in w (row_at rows (pointed_row rows top r)) column) 0

-- ---- a part of a text, from the offset `part.0` up to `part.1`

-- an offset lies in a part of the text
abbrev pub is_in : ℕ × ℕ → ℕ → Bool
is_in part offset = nat_le part.0 offset && nat_lt offset part.1

-- there is an offset, and it lies in the part
abbrev pub is_some_in : ℕ × ℕ → Option ℕ → Bool
is_some_in part None = false
is_some_in part (Some offset) = is_in part offset

-- a column of a row, from 1, belongs to a unit that begins in a part of the text
abbrev pub is_covered : ℕ → ℕ × ℕ → TextRow → ℕ → Bool
is_covered w part r column = is_some_in part (place_in r (covering w r.row column))
