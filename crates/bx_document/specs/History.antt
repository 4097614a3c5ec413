-- What edits, undo and redo make of a text `t` with its past and future, and the change of its bytes by which index and view follow.
-- `rows` gives the rows of any text; before an edit the cursor was at `place`.
use Rattle.std.specs.Prelude.{ℕ, ◌+◌, List, [], ◌∷◌, length, Option}
use Rattle.bx_text.specs.declared.change.Change.{Change}
use Rattle.bx_text.specs.Edits.{Edited, inserted, next_redos, next_undos, redone_times, removed, splice, undone_times, wrapped}
use Rattle.bx_view.specs.Moves.{place_from}
use Rattle.bx_view.specs.TextRows.{TextRow}
use Rattle.bx_document.specs.declared.edits.RegionEnd.{RegionEnd}
use Rattle.bx_document.specs.declared.history.HistoryStep.{HistoryStep}
use Rattle.bx_document.specs.declared.history.HistoryStep.TheVariants.{Undo, Redo}
use Rattle.bx_document.specs.Swapped.{wrapped_end, wrapped_text}

-- bytes are inserted at an offset; the cursor goes to the first place at or after their end
abbrev pub insertion : (List ℕ → List TextRow) → Edited → ℕ → List ℕ → ℕ → Edited
insertion rows t at new place = inserted t at new place (place_from (rows (splice t.text at at new)) (at + length new))

-- bytes are inserted at an offset before the cursor; it goes to the first place at or after where it stood, moved on by their length
abbrev pub insertion_before : (List ℕ → List TextRow) → Edited → ℕ → List ℕ → ℕ → Edited
insertion_before rows t at new place = inserted t at new place (place_from (rows (splice t.text at at new)) (place + length new))

-- the bytes from `start` to `stop` are removed; the cursor goes to the first place at or after `start`
abbrev pub removal : (List ℕ → List TextRow) → Edited → ℕ → ℕ → ℕ → Edited
removal rows t start stop place = removed t start stop place (place_from (rows (splice t.text start stop [])) start)

-- the bytes from `start` to `stop` are removed, and then others, if there are any, are inserted where they stood
abbrev pub exchange : (List ℕ → List TextRow) → Edited → ℕ → ℕ → List ℕ → ℕ → Edited
exchange rows t start stop [] place = removal rows t start stop place
exchange rows t start stop (b ∷ bs) place = insertion rows (removal rows t start stop place) start (b ∷ bs) (place_from (rows (splice t.text start stop [])) start)

-- the first place at or after the end `at` of the bytes from `start` to `stop`, once they stand between `front` and `back`
abbrev pub wrap_place : (List ℕ → List TextRow) → List ℕ → ℕ → ℕ → List ℕ → List ℕ → RegionEnd → ℕ
wrap_place rows text start stop front back at = place_from (rows (wrapped_text text start stop front back)) (wrapped_end at start stop front)

-- two edits: `back` is inserted at `stop`, and then `front` at `start`; the cursor goes to the end `at` of the bytes between
abbrev pub wrap : (List ℕ → List TextRow) → Edited → ℕ → ℕ → List ℕ → List ℕ → ℕ → RegionEnd → Edited
wrap rows t start stop front back place at =
    wrapped t start stop front back place (place_from (rows (splice t.text stop stop back)) (stop + length back)) (wrap_place rows t.text start stop front back at)

-- the text after `n` steps, or after all if there are fewer
abbrev pub stepped_times : HistoryStep → ℕ → Edited → Edited
stepped_times Undo n t = undone_times n t
stepped_times Redo n t = redone_times n t

-- the one change that these steps make together; None if there is no step
abbrev pub next_changes : HistoryStep → ℕ → Edited → Option Change
next_changes Undo n t = next_undos n t
next_changes Redo n t = next_redos n t
