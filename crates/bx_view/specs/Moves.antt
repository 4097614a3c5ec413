-- The cursor's moves, from place to place, in rows of `w` columns. Row numbers (`k`) count from 0, columns from 1.
use Rattle.std.specs.Prelude.{ℕ, zero, suc, ◌+◌, ◌-◌, ◌==◌, nat_le, nat_lt, min, Bool, true}
use Rattle.std.specs.Prelude.{false, List, length, reverse, find, slice_get, Option, Some, None, option_map, unwrap_or}
use Rattle.bx_ucd.specs.Data.{Data}
use Rattle.bx_paragraph.specs.declared.moves.Visual.{Visual}
use Rattle.bx_paragraph.specs.BodyRows.{last_of, last_offset}
use Rattle.bx_paragraph.specs.Slots.{beside, entry, or_else, reading_end, reading_start, reads_on}
use Rattle.bx_view.specs.declared.moves.Goal.{Goal}
use Rattle.bx_view.specs.declared.moves.Goal.TheVariants as goals
use Rattle.bx_view.specs.declared.moves.Logical.{Logical}
use Rattle.bx_view.specs.declared.moves.Logical.TheVariants.{Back, Forward}
use Rattle.bx_view.specs.declared.moves.Vertical.{Vertical}
use Rattle.bx_view.specs.declared.moves.Vertical.TheVariants.{Up, Down}
use Rattle.bx_view.specs.TextRows.{TextRow, cell_of, first, places, row_at, row_of}
use Rattle.bx_view.specs.Words.{step_word}

-- the first place at or after an offset, or the last place
abbrev pub place_from : List TextRow → ℕ → ℕ
place_from rows offset = unwrap_or (find (nat_le offset) (places rows)) (last_offset (places rows))

-- the place of an offset: the last one at or before it; 0 is a place of every text
abbrev pub place_at : List TextRow → ℕ → ℕ
place_at rows offset = unwrap_or (find (λ p. nat_le p offset) (reverse (places rows))) 0

-- Forward and Back: the next and the previous place; at the text's ends the place itself
abbrev pub step_logical : List TextRow → Logical → ℕ → ℕ
step_logical rows Forward place = unwrap_or (find (nat_lt place) (places rows)) place
step_logical rows Back place = unwrap_or (find (λ p. nat_lt p place) (reverse (places rows))) place

-- the place at an offset of a row's body
abbrev pub place_in : TextRow → Option ℕ → Option ℕ
place_in r offset = option_map (λ o. r.start + o) offset

-- the places at the reading start and end of a row, if there is such a row
abbrev pub start_of : ℕ → Option TextRow → Option ℕ
start_of w None = None
start_of w (Some r) = place_in r (reading_start w r.row)

abbrev pub end_of : ℕ → Option TextRow → Option ℕ
end_of w None = None
end_of w (Some r) = place_in r (reading_end w r.row)

-- the row after number `k` and the row before it, if there are such rows
abbrev pub row_after : List TextRow → ℕ → Option TextRow
row_after rows k = slice_get rows (k + 1)

abbrev pub row_before : List TextRow → ℕ → Option TextRow
row_before rows zero = None
row_before rows (suc k) = slice_get rows k

-- The place past the last slot of row `k` on a side: on the side that the row is read toward, the next row's reading start, on
-- the other the previous row's reading end; None if there is no such row.
abbrev pub past : ℕ → List TextRow → Visual → ℕ → Option ℕ
past w rows side k = elim (reads_on side (row_at rows k).row) [ true ↦ start_of w (row_after rows k) | false ↦ end_of w (row_before rows k) ]

-- Right and Left: the next slot of the row on that side, or past its last slot; if there is no row, the place itself
abbrev pub step_visual : ℕ → List TextRow → Visual → ℕ → ℕ
step_visual w rows side place =
    let k = row_of rows place in
    let r = row_at rows k in
    unwrap_or (or_else (place_in r (beside w r.row side (place - r.start))) (past w rows side k)) place

-- the place at which a row is entered in a column
abbrev pub entry_in : ℕ → TextRow → ℕ → Option ℕ
entry_in w r column = place_in r (entry w r.row column)

-- the place at which a row is entered: in a column, at its first place, or at its end as RowEnd's
abbrev pub goal_in : ℕ → TextRow → Goal → Option ℕ
goal_in w r (goals.Column column) = entry_in w r column
goal_in w r goals.Start = Some (first r)
goal_in w r goals.End = Some (r.start + last_of r.row)

-- from a place to row `k`, which is entered by a goal; in the place's own row, the place itself
abbrev pub to_row : ℕ → List TextRow → Goal → ℕ → ℕ → ℕ
to_row w rows goal place k = elim (k == row_of rows place) [
  | true ↦ place
  | false ↦ unwrap_or (goal_in w (row_at rows k) goal) place
]

-- the number of the row `n` rows above or below row `k` of `count` rows, at most the first or the last
abbrev pub row_away : ℕ → Vertical → ℕ → ℕ → ℕ
row_away count Up n k = k - n
row_away count Down n k = min (k + n) (count - 1)

-- `n` rows up or down, by a goal
abbrev pub rows_away : ℕ → List TextRow → Vertical → ℕ → Goal → ℕ → ℕ
rows_away w rows way n goal place = to_row w rows goal place (row_away (length rows) way n (row_of rows place))

-- `n` rows up or down, in the column of the place's cell
abbrev pub rows_straight : ℕ → List TextRow → Vertical → ℕ → ℕ → ℕ
rows_straight w rows way n place = rows_away w rows way n (goals.Column (cell_of w rows place)) place

-- Up and Down: the previous or the next row
abbrev pub vertical : ℕ → List TextRow → Vertical → ℕ → ℕ
vertical w rows way place = rows_straight w rows way 1 place

-- PageUp and PageDown: `t` rows, the number of visible ones
abbrev pub page : ℕ → List TextRow → Vertical → ℕ → ℕ → ℕ
page w rows way t place = rows_straight w rows way t place

-- RowHome: the row's first offset
abbrev pub row_home : List TextRow → ℕ → ℕ
row_home rows place = first (row_at rows (row_of rows place))

-- the goal that is kept from a place on: the start where the place is its row's first one, else the column of its cell
abbrev pub goal_of : ℕ → List TextRow → ℕ → Goal
goal_of w rows place = elim (row_home rows place == place) [ true ↦ goals.Start | false ↦ goals.Column (cell_of w rows place) ]

-- RowEnd: the paragraph's end in its last row, else the start of the row's last unit
abbrev pub row_end : List TextRow → ℕ → ℕ
row_end rows place = let r = row_at rows (row_of rows place) in r.start + last_of r.row

-- the way of a move by words toward a side: forward if the paragraph is read toward that side (true), else back
abbrev pub word_way : Bool → Logical
word_way true = Forward
word_way false = Back

-- WordRight and WordLeft: WordForward toward the side that the place's paragraph is read toward, else WordBack
abbrev pub word_towards : Data → List ℕ → List TextRow → Visual → ℕ → ℕ
word_towards ucd text rows side place = step_word ucd text (word_way (reads_on side (row_at rows (row_of rows place)).row)) place
