-- An editable text laid out in a window, and what each of its edits makes of it. Offsets and places count bytes of the text.
-- `d` is the data of Unicode's tables (`ucd` in other files of this folder), `t` the document before an edit.
use Rattle.std.specs.Prelude.{ℕ, ◌+◌, List, [], length}
use Rattle.bx_common.specs.declared.base.Base.{Base}
use Rattle.bx_document.specs.declared.edits.RegionEnd.{RegionEnd}
use Rattle.bx_document.specs.History.{exchange, insertion, insertion_before, removal, wrap, wrap_place}
use Rattle.bx_text.specs.Edits.{Edited, opened, splice}
use Rattle.bx_view.specs.Moves.{place_from}
use Rattle.bx_view.specs.TextRows.{TextRow, text_rows}
use Rattle.bx_ucd.specs.Data.{Data}

-- a text with its past and future, the base direction, and the window's width
pub record Document : Type 0 where
  pub content : Edited
  pub base : Base
  -- the window's columns
  pub w : ℕ

-- the value of a `Document` (`src/document.rt`): Unicode's tables, and the document that they lay out
pub record DocumentState (D : Type 0) : Type 0 where
  pub tables : D
  pub document : Document

-- the document once a text is opened, in a window of `w` columns: nothing can be undone or redone
abbrev pub at_opening : List ℕ → ℕ → Base → Document
at_opening text w base = record { content = opened text; base = base; w = w }

-- the rows of any text in the document's view
abbrev pub rows_of : Data → Document → List ℕ → List TextRow
rows_of d t text = text_rows d t.base t.w text

-- the rows of the document's text
abbrev pub rows : Data → Document → List TextRow
rows d t = rows_of d t t.content.text

-- the place after an edit that replaces the bytes from `start` to `stop` with `new`: the first one at or after the end
-- of `new`
abbrev pub place_after : Data → Document → ℕ → ℕ → List ℕ → ℕ
place_after d t start stop new = place_from (rows_of d t (splice t.content.text start stop new)) (start + length new)

-- the place after the bytes from `start` to `stop` are removed: the first one at or after `start`
abbrev pub place_after_removal : Data → Document → ℕ → ℕ → ℕ
place_after_removal d t start stop = place_from (rows_of d t (splice t.content.text start stop [])) start

-- after bytes are inserted at a place
abbrev pub after_insertion : Data → Document → ℕ → List ℕ → Document
after_insertion d t place new = record t { content = insertion (rows_of d t) t.content place new place }

-- after bytes are inserted at an offset before the cursor, which was at `place`
abbrev pub after_insertion_before : Data → Document → ℕ → List ℕ → ℕ → Document
after_insertion_before d t at new place = record t { content = insertion_before (rows_of d t) t.content at new place }

-- the place after that: where the cursor stood, moved on
abbrev pub place_behind_insertion : Data → Document → ℕ → List ℕ → ℕ → ℕ
place_behind_insertion d t at new place = place_from (rows_of d t (splice t.content.text at at new)) (place + length new)

-- after the bytes from `start` to `stop` are removed; the cursor was at `place`
abbrev pub after_removal : Data → Document → ℕ → ℕ → ℕ → Document
after_removal d t start stop place = record t { content = removal (rows_of d t) t.content start stop place }

-- the text without the bytes from `start` to `stop`, and with `new` inserted at the place that their removal leads to
abbrev pub replaced_text : Data → Document → ℕ → ℕ → List ℕ → List ℕ
replaced_text d t start stop new =
    let between = place_after_removal d t start stop in splice (splice t.content.text start stop []) between between new

-- the place after that replacement: the first one of `replaced_text` at or after the end of `new`
abbrev pub place_after_replacement : Data → Document → ℕ → ℕ → List ℕ → ℕ
place_after_replacement d t start stop new =
    place_from (rows_of d t (replaced_text d t start stop new)) (place_after_removal d t start stop + length new)

-- after the bytes from `start` to `stop` are removed and then `new` is inserted at the place after that; the cursor was at
-- `place`
abbrev pub after_replacement : Data → Document → ℕ → ℕ → List ℕ → ℕ → Document
after_replacement d t start stop new place = after_insertion d (after_removal d t start stop place) (place_after_removal d t start stop) new

-- after the bytes from `start` to `stop` are removed and then, if they are not empty, other bytes are inserted at `start`; the
-- cursor was at `place`
abbrev pub after_exchange : Data → Document → ℕ → ℕ → List ℕ → ℕ → Document
after_exchange d t start stop new place = record t { content = exchange (rows_of d t) t.content start stop new place }

-- the place after a wrap of the bytes from `start` to `stop`, for a cursor that was at their end `at`: the first one at or after
-- that end in the wrapped text
abbrev pub place_after_wrap : Data → Document → ℕ → ℕ → List ℕ → List ℕ → RegionEnd → ℕ
place_after_wrap d t start stop front back at = wrap_place (rows_of d t) t.content.text start stop front back at

-- after two edits: `back` is inserted at `stop`, then `front` at `start`; the cursor was at `place`, the end `at` of the bytes
-- between
abbrev pub after_wrap : Data → Document → ℕ → ℕ → List ℕ → List ℕ → ℕ → RegionEnd → Document
after_wrap d t start stop front back place at = record t { content = wrap (rows_of d t) t.content start stop front back place at }
