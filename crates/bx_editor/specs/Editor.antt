-- The editor's state, and its changes. Offsets and places count bytes of the text. `d` is Unicode's data, `e` the editor.
use Rattle.std.specs.Prelude.{ℕ, ◌+◌, ◌-◌, Bool, true, false, not, ◌||◌, nat_le, nat_lt, List, [], ◌∷◌, length, Option, Some, None, if◌then◌else◌}
use Rattle.std.specs.Prelude.{◌==◌, ◌≡◌, ◌<◌, ◌≤◌, take, IsUtf8}
use Rattle.bx_common.specs.declared.base.Base.{Base}
use Rattle.bx_common.specs.declared.base.Base.TheVariants.{Auto, Ltr, Rtl}
use Rattle.bx_common.specs.Characters.{largest_text}
use Rattle.bx_editor.specs.declared.questions.answers.Prompt.{Prompt}
use Rattle.bx_editor.specs.declared.questions.answers.Prompt.TheVariants as prompts
use Rattle.bx_editor.specs.declared.clicks.Clicks.{Clicks}
use Rattle.bx_editor.specs.declared.clicks.Pressed.{Pressed}
use Rattle.bx_keys.specs.declared.notice.Notice.{Notice}
use Rattle.bx_text.specs.Edits.{Edited, Edit, opened, undone, redone}
use Rattle.bx_text.specs.declared.change.Change.{Change}
use Rattle.bx_view.specs.TextRows.{TextRow, text_rows}
use Rattle.bx_view.specs.declared.moves.Goal.{Goal}
use Rattle.bx_view.specs.Moves.{place_from}
use Rattle.bx_document.specs.declared.history.HistoryStep.{HistoryStep}
use Rattle.bx_document.specs.History.{exchange, insertion, next_changes, removal, stepped_times}
use Rattle.bx_document.specs.declared.history.HistoryStep.TheVariants.{Undo, Redo}
use Rattle.bx_editor.specs.declared.search_state.SearchPurpose.{SearchPurpose}
use Rattle.bx_editor.specs.declared.search_state.SearchPurpose.TheVariants as purposes
use Rattle.bx_editor.specs.declared.message.Message.{Message}
use Rattle.bx_editor.specs.declared.message.Message.TheVariants as messages
use Rattle.bx_editor.specs.declared.search_state.SearchState.{SearchState}
use Rattle.bx_editor.specs.declared.search_state.SearchState.TheVariants as search_states
use Rattle.bx_editor.specs.declared.cursor.Soft.{Soft}
use Rattle.bx_editor.specs.declared.cursor.Soft.TheVariants as softness
use Rattle.bx_editor.specs.declared.opening.OpenError.{OpenError}
use Rattle.bx_editor.specs.declared.opening.OpenError.TheVariants.{NotUtf8, OutOfMemory, SizeOutOfRange, TooLong}
use Rattle.bx_editor.specs.declared.undo_groups.typing.Typing.{Typing}
use Rattle.bx_editor.specs.declared.undo_groups.typing.Typing.TheVariants as typings
use Rattle.bx_editor.specs.undo_groups.Groups.{edited, run_end, run_start}
use Rattle.bx_ucd.specs.Data.{Data}
use Rattle.bx_grid.specs.Picture.{is_size}

-- an editor's state, without Unicode's tables
pub record Editor : Type 0 where
  -- the text, with its past and its future
  pub content : Edited
  -- the cursor's place
  pub place : ℕ
  -- the mark's place: the region lies between it and the cursor's place
  pub mark : Option ℕ
  -- how fresh a selection is
  pub soft : Soft
  -- presses at one cell, one after the other
  pub clicks : Option Clicks
  -- what was pressed last, from which a drag begins
  pub pressed : Option Pressed
  -- the text copied or cut last, in UTF-8
  pub held : List ℕ
  -- it is a whole line, which is put over another
  pub whole_line : Bool
  -- the query of the search, or of the latest one: at most 64 characters, in UTF-8
  pub query : List ℕ
  -- how far the search is
  pub search_state : SearchState
  -- what the search, or the latest one, is for
  pub purpose : SearchPurpose
  -- the place at which the latest search began
  pub origin : ℕ
  -- the text that replaces matches: at most 64 characters, in UTF-8
  pub replacement : List ℕ
  -- where the match that is shown, or the latest one, begins: maybe inside a unit
  pub at : ℕ
  -- how many matches were replaced since the replacement was asked for last
  pub count : ℕ
  -- what the user is asked, and the answer as far as it is typed, in UTF-8
  pub prompt : Prompt
  pub answer : List ℕ
  -- the cursor's place in the input line that a prompt shows: the query, the replacement or the answer
  pub input_cursor : ℕ
  -- what a paste has brought so far, in UTF-8; none while none is under way that goes into the text
  pub pasted : Option (List ℕ)
  -- the lengths of the past at which undo groups begin
  pub undo_groups : List ℕ
  -- what the next edit may go on with
  pub typing : Typing
  -- the length of the past at which the text is the one that was stored or opened last; none if no undo or redo leads there
  pub stored : Option ℕ
  -- there was an edit since the opening or the last save, or the text is not the one that was stored
  pub changed : Bool
  pub message : Option Message
  -- the last key of the user was Quit
  pub quit_before : Bool
  pub ended : Bool
  pub base : Base
  -- the column, or the edge of a row, that moves from row to row keep, if one is kept
  pub goal : Option Goal
  -- the window's rows and columns
  pub height : ℕ
  pub width : ℕ
  -- the offset whose row was last shown first
  pub top : ℕ
  -- text that is copied or cut goes out to a clipboard
  pub clipboard : Bool
  -- nothing changes the text
  pub read_only : Bool
  -- a new line is indented as the one before
  pub auto_indent : Bool
  -- a tab that is typed becomes spaces up to the next multiple of this number of units; 0: it is a tab
  pub tab_width : ℕ
  -- the file's name, in UTF-8, if the session has one; empty: the text has no name yet
  pub name : Option (List ℕ)
  -- saves go to the file that the session was opened with, or to the name under which a save succeeded last
  pub home : Bool

-- at opening
abbrev pub at_start : List ℕ → ℕ → ℕ → Base → Editor
at_start text height width base = record {
  content = opened text;
  place = 0;
  mark = None;
  soft = softness.Off;
  clicks = None;
  pressed = None;
  held = [];
  whole_line = false;
  query = [];
  search_state = search_states.Off;
  purpose = purposes.Find;
  origin = 0;
  replacement = [];
  at = 0;
  count = 0;
  prompt = prompts.Off;
  answer = [];
  input_cursor = 0;
  pasted = None;
  undo_groups = [];
  typing = typings.Off;
  stored = Some 0;
  changed = false;
  message = None;
  quit_before = false;
  ended = false;
  base = base;
  goal = None;
  height = height;
  width = width;
  top = 0;
  clipboard = false;
  read_only = false;
  auto_indent = false;
  tab_width = 0;
  name = None;
  home = true;
}

-- the rows of any text in the editor's layout
abbrev pub rows_of : Data → Editor → List ℕ → List TextRow
rows_of d e text = text_rows d e.base e.width text

-- the rows of the editor's text
abbrev pub rows : Data → Editor → List TextRow
rows d e = rows_of d e e.content.text

-- the number of the window's text rows: all but the status row, which is the last; a window of one row has no status row
abbrev pub text_height : ℕ → ℕ
text_height height = if nat_le 2 height then height - 1 else 1

-- ---- edits: each that changes the text removes the mark, ends the search and forgets what was pressed

-- `stored` once an edit was made where the past has `n` edits: a stored text with a longer past is reached no more, since an edit
-- drops what could be redone
abbrev pub stored_behind : ℕ → Option ℕ → Option ℕ
stored_behind n None = None
stored_behind n (Some stored) = if nat_lt n stored then None else Some stored

-- the first place of a new text at or after an offset
abbrev pub place_after : Data → Editor → List ℕ → ℕ → ℕ
place_after d e text offset = place_from (rows_of d e text) offset

-- the editor once the text was edited: `content` with its past and future, and the cursor at the first place at or after `offset`.
-- `goes_on`: the edit goes on with the undo group before; else it begins one
abbrev pub with_edit : Data → Editor → Edited → ℕ → Bool → Editor
with_edit d e content offset goes_on =
    let n = length e.content.past in
    record e {
      content = content;
      place = place_after d e content.text offset;
      mark = None;
      soft = softness.Off;
      search_state = search_states.Off;
      clicks = None;
      pressed = None;
      undo_groups = edited e.undo_groups n goes_on;
      stored = stored_behind n e.stored;
      changed = true;
    }

-- bytes are inserted at the place
abbrev pub with_insertion : Data → Editor → List ℕ → Bool → Editor
with_insertion d e new goes_on = with_edit d e (insertion (rows_of d e) e.content e.place new e.place) (e.place + length new) goes_on

-- the bytes from `start` to `stop` are removed
abbrev pub with_removal : Data → Editor → ℕ → ℕ → Bool → Editor
with_removal d e start stop goes_on = with_edit d e (removal (rows_of d e) e.content start stop e.place) start goes_on

-- the bytes from `start` to `stop` give way to others: edits of one undo group
abbrev pub with_exchange : Data → Editor → ℕ → ℕ → List ℕ → Editor
with_exchange d e start stop new = with_edit d e (exchange (rows_of d e) e.content start stop new e.place) (start + length new) false

-- ---- undo and redo

-- the text after undoing or redoing, with the cursor at this place. `changed`: it counts as changed
abbrev pub with_step : Editor → Edited → ℕ → Bool → Editor
with_step e content place changed = record e {
  content = content;
  place = place;
  mark = None;
  soft = softness.Off;
  search_state = search_states.Off;
  clicks = None;
  pressed = None;
  changed = changed;
}

-- the latest edit is undone, and the cursor returns to its place before it. One edit undone or redone counts as a change, even
-- where it gives the stored text again
abbrev pub after_undo : Editor → List Edit → Editor
after_undo e [] = record e { message = Some messages.NothingToUndo }
after_undo e (edit ∷ past) = with_step e (undone e.content) edit.before.place true

-- the next edit is redone, and the cursor goes to its place after it
abbrev pub after_redo : Editor → List Edit → Editor
after_redo e [] = record e { message = Some messages.NothingToRedo }
after_redo e (edit ∷ future) = with_step e (redone e.content) edit.after.place true

-- one edit is undone, or redone
abbrev pub after_step : HistoryStep → Editor → Editor
after_step Undo e = after_undo e e.content.past
after_step Redo e = after_redo e e.content.future

-- the message where there is no edit to undo, or to redo
abbrev pub nothing_left : HistoryStep → Message
nothing_left Undo = messages.NothingToUndo
nothing_left Redo = messages.NothingToRedo

-- ---- keys that do not edit

-- the session ends if there are no unsaved changes or the key before was Quit too
abbrev pub after_quit : Editor → Bool → Editor
after_quit e again =
    if not e.changed || again
    then record e { quit_before = true; ended = true }
    else record e { quit_before = true; message = Some messages.Unsaved }

-- the next base direction in the cycle Auto, Ltr, Rtl
abbrev pub next_base : Base → Base
next_base Auto = Ltr
next_base Ltr = Rtl
next_base Rtl = Auto

-- paragraphs get this base direction, and it is told
abbrev pub with_base : Editor → Base → Editor
with_base e base = record e { base = base; message = Some (messages.Direction base) }

-- the first list of keys, or the second one if the message before was the first
abbrev pub help_behind : Option Message → Message
help_behind (Some messages.Help) = messages.MoreHelp
help_behind _ = messages.Help

-- `told`: the message before
abbrev pub after_help : Editor → Option Message → Editor
after_help e told = record e { message = Some (help_behind told) }

-- the window gets this size, in rows and columns, so that no press is at the same cell as one before
abbrev pub with_size : Editor → ℕ → ℕ → Editor
with_size e height width = record e { height = height; width = width; clicks = None }

-- the row of this offset is shown first
abbrev pub with_top : Editor → ℕ → Editor
with_top e top = record e { top = top }

-- text that is copied or cut goes out to a clipboard
abbrev pub with_clipboard : Editor → Editor
with_clipboard e = record e { clipboard = true }

-- no press is behind, and nothing was pressed
abbrev pub unpressed : Editor → Editor
unpressed e = record e { clicks = None; pressed = None }

abbrev pub with_place : Editor → ℕ → Editor
with_place e place = record e { place = place }

-- what the next edit may go on with
abbrev pub with_typing : Editor → Typing → Editor
with_typing e typing = record e { typing = typing }

-- a notice is the message, and all else stays
abbrev pub with_notice : Editor → Notice → Editor
with_notice e notice = record e { message = Some (messages.Notice notice) }

-- what a key that the user presses finds: no message, no earlier Quit, and nothing that the next edit goes on with
abbrev pub cleared : Editor → Editor
cleared e = record e { message = None; quit_before = false; typing = typings.Off }

-- ---- undo and redo by undo groups; `n` is a length of the past: its number of edits

-- the length of the past to which an undo group is undone, or redone
abbrev pub group_goal : HistoryStep → Editor → ℕ
group_goal Undo e = run_start e.undo_groups (length e.content.past)
group_goal Redo e = run_end e.undo_groups (length e.content.past) (length e.content.past + length e.content.future)

-- how many edits are undone, or redone, for that
abbrev pub group_length : HistoryStep → Editor → ℕ
group_length Undo e = length e.content.past - group_goal Undo e
group_length Redo e = group_goal Redo e - length e.content.past

-- whether the text with a past of this length is not the one that was stored
abbrev pub is_changed_at : ℕ → Option ℕ → Bool
is_changed_at n None = true
is_changed_at n (Some stored) = not (n == stored)

-- the text after the one change that these edits make; a message where there are none
abbrev pub by_group : HistoryStep → Editor → Option Change → Editor
by_group step e None = record e { message = Some (nothing_left step) }
by_group step e (Some change) =
    with_step e (stepped_times step (group_length step e) e.content) change.place (is_changed_at (group_goal step e) e.stored)

-- all edits of an undo group are undone, or redone; the text is changed unless it is the stored one
abbrev pub after_group_step : HistoryStep → Editor → Editor
after_group_step step e = by_group step e (next_changes step (group_length step e) e.content)

-- ---- errors of opening a file

-- the longest UTF-8 prefix has `n` bytes
pub record IsLongestUtf8 (bytes : List ℕ) (n : ℕ) : Type 0 where
  pub utf8 : IsUtf8 (take n bytes)
  pub longest : (more : ℕ) → n < more → more ≤ length bytes → ¬ (IsUtf8 (take more bytes))

-- the cause of each error, the earlier causes excluded
abbrev pub Causes : List ℕ → ℕ → ℕ → OpenError → Type 0
Causes bytes height width TooLong = largest_text < length bytes
Causes bytes height width (NotUtf8 n) = (length bytes ≤ largest_text) × (n < length bytes) × IsLongestUtf8 bytes n
Causes bytes height width SizeOutOfRange = (length bytes ≤ largest_text) × IsUtf8 bytes × (is_size height width ≡ false)
Causes bytes height width OutOfMemory = (length bytes ≤ largest_text) × IsUtf8 bytes × (is_size height width ≡ true)
