-- A part of a text, from the offset `part.0` up to `part.1`, and the units that begin in it of a row in `w` columns.
use Rattle.std.specs.Prelude.{ℕ, ◌+◌, nat_lt, ◌&&◌, List, filter}
use Rattle.bx_paragraph.specs.declared.slots.Slot.{Slot}
use Rattle.bx_paragraph.specs.Slots.{row_slots}
use Rattle.bx_view.specs.TextRows.{TextRow}
use Rattle.bx_view.specs.Top.{is_in}

-- the slots, from left to right, of a row's units that begin in a part of the text; the slot of the end covers no column
abbrev pub slots_in : ℕ → ℕ × ℕ → TextRow → List Slot
slots_in w part r = filter (λ s. nat_lt 0 s.columns && is_in part (r.start + s.offset)) (row_slots w r.row)
