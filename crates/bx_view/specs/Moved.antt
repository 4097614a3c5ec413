-- The place to which each move leads.
use Rattle.std.specs.Prelude.{ℕ, Bool, true, false, List, length}
use Rattle.bx_ucd.specs.Data.{Data}
use Rattle.bx_view.specs.declared.moves.Move.{Move}
use Rattle.bx_view.specs.declared.moves.Move.TheVariants as moves
use Rattle.bx_view.specs.TextRows.{TextRow}
use Rattle.bx_view.specs.Words.{step_word}
use Rattle.bx_view.specs.Moves.{row_end, row_home, rows_away, rows_straight, step_logical, step_visual, word_towards}

-- the place to which a move leads, in the rows of a text; `ucd` is what the tables say
abbrev pub moved : Data → List ℕ → ℕ → List TextRow → Move → ℕ → ℕ
moved ucd text w rows (moves.Logical way) place = step_logical rows way place
moved ucd text w rows (moves.Visual side) place = step_visual w rows side place
moved ucd text w rows (moves.Rows way n) place = rows_straight w rows way n place
moved ucd text w rows (moves.RowsIn way n goal) place = rows_away w rows way n goal place
moved ucd text w rows moves.RowHome place = row_home rows place
moved ucd text w rows moves.RowEnd place = row_end rows place
moved ucd text w rows (moves.Word way) place = step_word ucd text way place
moved ucd text w rows (moves.WordTowards side) place = word_towards ucd text rows side place
moved ucd text w rows moves.TextStart place = 0
moved ucd text w rows moves.TextEnd place = length text

-- the moves to an end of the row, which lead to a place from any offset
abbrev pub is_to_row_end : Move → Bool
is_to_row_end moves.RowHome = true
is_to_row_end moves.RowEnd = true
is_to_row_end _ = false
