-- The slots of a row of a body: its places from left to right, each with its columns. Columns count from 1, offsets bytes of the body, and
-- `w` is the number of the window's columns.
use Rattle.std.specs.Prelude.{ℕ, zero, suc, ◌+◌, ◌-◌, ◌%◌, ◌==◌, ◌&&◌, nat_le, nat_lt, min, max, true, false}
use Rattle.std.specs.Prelude.{Bool, List, [], ◌∷◌, ◌++◌, map, length, reverse, find, slice_index_or, Option, Some, None, option_map, unwrap_or}
use Rattle.std.specs.List.{zip}
use Rattle.bx_rows.specs.declared.cells.unit.Unit.{Unit}
use Rattle.bx_rows.specs.RowLevels.{visual}
use Rattle.bx_rows.specs.RowPicture.{unit_columns, columns_used}
use Rattle.bx_paragraph.specs.declared.moves.Visual.{Visual}
use Rattle.bx_paragraph.specs.declared.moves.Visual.TheVariants.{Left, Right}
use Rattle.bx_paragraph.specs.declared.slots.Slot.{Slot}
use Rattle.bx_paragraph.specs.BodyRows.{BodyRow}

-- a slot by its offset, its leftmost column and its number of columns
abbrev pub slot : ℕ → ℕ → ℕ → Slot
slot offset column columns = record { offset = offset; column = column; columns = columns }

-- the slots of units side by side, each by its offset and columns, from column `at` on
abbrev pub side_by_side : ℕ → List (ℕ × ℕ) → List Slot
side_by_side at [] = []
side_by_side at (u ∷ us) = slot u.0 at u.1 ∷ side_by_side (at + u.1) us

-- the column of a row's leftmost unit: at level 0 a row begins at the left edge, at level 1 at the right edge
abbrev pub left_column : ℕ → BodyRow → ℕ
left_column w r = elim (r.paragraph % 2) [ zero ↦ 1 | suc _ ↦ w - columns_used w r.units + 1 ]

-- the offset and the columns of unit `k`, among units of these columns
abbrev pub extent_of : List Unit → List ℕ → ℕ → ℕ × ℕ
extent_of us columns k = slice_index_or (zip (map (λ u. u.start) us) columns) k (0, 0)

-- the slots of a row's units, from left to right
abbrev pub unit_slots : ℕ → BodyRow → List Slot
unit_slots w r = side_by_side (left_column w r) (map (extent_of r.units (unit_columns w 0 r.units)) (visual r.levels))

-- the column of the slot of the paragraph's end: next to the units, or the last one at the edge
abbrev pub end_column : ℕ → BodyRow → ℕ
end_column w r = elim (r.paragraph % 2) [ zero ↦ min (columns_used w r.units + 1) w | suc _ ↦ max (w - columns_used w r.units) 1 ]

-- the slot of the paragraph's end, which covers no column
abbrev pub end_slot : ℕ → BodyRow → Slot
end_slot w r = slot (length r.body) (end_column w r) 0

-- the end's slot is right of the units at level 0, left of them at level 1
abbrev pub with_end : ℕ → Slot → List Slot → List Slot
with_end paragraph end ss = elim (paragraph % 2) [ zero ↦ ss ++ end ∷ [] | suc _ ↦ end ∷ ss ]

-- the slots of a row from left to right: its units, and in the paragraph's last row its end
abbrev pub row_slots : ℕ → BodyRow → List Slot
row_slots w r = elim (r.is_last) [ true ↦ with_end r.paragraph (end_slot w r) (unit_slots w r) | false ↦ unit_slots w r ]

-- the offsets of a row's slots from left to right
abbrev pub slot_offsets : ℕ → BodyRow → List ℕ
slot_offsets w r = map (λ s. s.offset) (row_slots w r)

-- the first offset, if there is one
abbrev pub first_in : List ℕ → Option ℕ
first_in [] = None
first_in (p ∷ ps) = Some p

-- the offset that follows a given one in a list; `None` after the last
abbrev pub next_in : ℕ → List ℕ → Option ℕ
next_in offset [] = None
next_in offset (p ∷ ps) = elim (p == offset) [ true ↦ first_in ps | false ↦ next_in offset ps ]

-- offsets, given from left to right, in the order of a move to a side
abbrev pub toward : Visual → List ℕ → List ℕ
toward Right offsets = offsets
toward Left offsets = reverse offsets

-- the offset of a row's next slot on a side
abbrev pub beside : ℕ → BodyRow → Visual → ℕ → Option ℕ
beside w r side offset = next_in offset (toward side (slot_offsets w r))

-- the side toward which a paragraph of this level is read: right at level 0, left at level 1
abbrev pub reading_side : ℕ → Visual
reading_side paragraph = elim (paragraph % 2) [ zero ↦ Right | suc _ ↦ Left ]

-- the other side
abbrev pub opposite : Visual → Visual
opposite Right = Left
opposite Left = Right

-- the offsets of a row's slots in reading order: from left to right at level 0, from right to left at level 1
abbrev pub reading_order : ℕ → BodyRow → List ℕ
reading_order w r = toward (reading_side r.paragraph) (slot_offsets w r)

-- the offset of a row's slot at its reading start: the leftmost at level 0, the rightmost at level 1
abbrev pub reading_start : ℕ → BodyRow → Option ℕ
reading_start w r = first_in (reading_order w r)

-- the offset of the slot at a row's reading end: the rightmost at level 0, the leftmost at level 1
abbrev pub reading_end : ℕ → BodyRow → Option ℕ
reading_end w r = first_in (toward (opposite (reading_side r.paragraph)) (slot_offsets w r))

-- a row is read toward this side
abbrev pub reads_on : Visual → BodyRow → Bool
reads_on Right r = elim (r.paragraph % 2) [ zero ↦ true | suc _ ↦ false ]
reads_on Left r = elim (r.paragraph % 2) [ zero ↦ false | suc _ ↦ true ]

-- the leftmost column, from 1, of the slot at an offset; 1 if there is none
abbrev pub column_in : List Slot → ℕ → ℕ
column_in ss offset = unwrap_or (option_map (λ s. s.column) (find (λ s. s.offset == offset) ss)) 1

-- the leftmost column, from 1, of a row's slot at an offset; 1 if there is none
abbrev pub column_of : ℕ → BodyRow → ℕ → ℕ
column_of w r offset = column_in (row_slots w r) offset

-- a slot covers a column
abbrev pub covers : ℕ → Slot → Bool
covers column s = nat_le s.column column && nat_lt column (s.column + s.columns)

-- the offset of the slot that covers a column
abbrev pub covering_in : List Slot → ℕ → Option ℕ
covering_in ss column = option_map (λ s. s.offset) (find (covers column) ss)

-- the offset of the unit that covers a column of a row
abbrev pub covering : ℕ → BodyRow → ℕ → Option ℕ
covering w r column = covering_in (row_slots w r) column

-- the first of two offsets if it is there, else the second
abbrev pub or_else : Option ℕ → Option ℕ → Option ℕ
or_else None other = other
or_else (Some p) other = Some p

-- the offset at which a row is entered in a column: the unit that covers it, else the row's reading end
abbrev pub entry : ℕ → BodyRow → ℕ → Option ℕ
entry w r column = or_else (covering w r column) (reading_end w r)
