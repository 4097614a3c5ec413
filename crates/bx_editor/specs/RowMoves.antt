-- Moves from row to row, which keep a column, and the wheel. `d` is Unicode's data, `e` the editor.
use Rattle.std.specs.Prelude.{ℕ, ◌==◌, Bool, Option, Some, None, unwrap_or, if◌then◌else◌}
use Rattle.bx_ucd.specs.Data.{Data}
use Rattle.bx_keys.specs.declared.key.Key.{Key}
use Rattle.bx_keys.specs.declared.key.Key.TheVariants.{LineUp, LineDown, PageBack, PageOn, Repaint, RowEnd, ScrollBack, ScrollOn, Select}
use Rattle.bx_view.specs.declared.moves.Goal.{Goal}
use Rattle.bx_view.specs.declared.moves.Goal.TheVariants.{End}
use Rattle.bx_view.specs.declared.moves.Vertical.{Vertical}
use Rattle.bx_view.specs.Moves.{goal_of, row_home, rows_away}
use Rattle.bx_view.specs.Top.{is_shown, to_shown, top_away}
use Rattle.bx_editor.specs.declared.questions.answers.Prompt.TheVariants as prompts
use Rattle.bx_editor.specs.declared.search_state.SearchState.TheVariants as search_states
use Rattle.bx_editor.specs.Before.{Before}
use Rattle.bx_editor.specs.Editor.{Editor, rows, text_height}
use Rattle.bx_editor.specs.Region.{aged, soft_left, unselected}
use Rattle.bx_editor.specs.Scrolling.{wheel_rows}

-- the column or the edge of a row that moves from row to row keep, else the row's start where the cursor is there, else its column
abbrev pub kept_goal : Data → Editor → Goal
kept_goal d e = unwrap_or e.goal (goal_of e.width (rows d e) e.place)

-- up or down by `n` rows, in the kept column
abbrev pub after_row_move : Data → Editor → Vertical → ℕ → Editor
after_row_move d e way n =
    let goal = kept_goal d e in
    record e { place = rows_away e.width (rows d e) way n goal e.place; goal = Some goal }

-- to the row's end, which is kept
abbrev pub after_row_end : Editor → ℕ → Editor
after_row_end e place = record e { place = place; goal = Some End }

-- the kept column after a key that the user presses: any other key than these forgets it
abbrev pub goal_behind : Key → Option Goal → Option Goal
goal_behind LineUp goal = goal
goal_behind LineDown goal = goal
goal_behind PageBack goal = goal
goal_behind PageOn goal = goal
goal_behind RowEnd goal = goal
goal_behind ScrollBack goal = goal
goal_behind ScrollOn goal = goal
goal_behind Repaint goal = goal
goal_behind Select goal = goal
goal_behind _ goal = None

-- the top row once the wheel has moved the view
abbrev pub wheel_top : Data → Editor → Vertical → ℕ
wheel_top d e way = top_away (rows d e) way wheel_rows e.top (text_height e.height)

-- the cursor's row is shown, where the row of this offset is the top one
abbrev pub shows_place : Data → Editor → ℕ → Bool
shows_place d e top = is_shown (rows d e) top e.place (text_height e.height)

-- the cursor goes to the nearest shown row, in the kept column, as a move goes: it ends what is asked and sought
abbrev pub carried : Data → Editor → ℕ → Editor
carried d e top =
    let goal = kept_goal d e in
    record (unselected e) {
      place = to_shown e.width (rows d e) top (text_height e.height) goal e.place;
      goal = Some goal;
      soft = aged (soft_left e.soft);
      prompt = prompts.Off;
      search_state = search_states.Off;
    }

-- the wheel moves the view, and the cursor only where its row is not shown then; where nothing moves the message stays
abbrev pub after_wheel : Data → Before → Editor → Vertical → Editor
after_wheel d was e way =
    let top = wheel_top d e way in
    if shows_place d e top
    then (if top == row_home (rows d e) e.top then record e { message = was.message } else e)
    else carried d e top
