-- The effect of each key on the editor's state. `d`: Unicode's data; `fault`: why a Save failed, None if it succeeded; `was`: what
-- the key before left; `e`: the editor, from which `after_user` clears that.
use Rattle.std.specs.Prelude.{ℕ, ◌==◌, Bool, true, false, ◌&&◌, ◌||◌, not, if◌then◌else◌, is_some, List, length, Option, Some, None}
use Rattle.bx_keys.specs.declared.key.Key.{Key}
use Rattle.bx_keys.specs.declared.key.Key.TheVariants.{Insert, Erase, Delete, Back, Forward, Up, Down, Right, Left, RowHome, RowEnd, PageUp, PageDown}
use Rattle.bx_keys.specs.declared.key.Key.TheVariants.{Save, Quit, UndoEdit, RedoEdit, Repaint, Direction, Size, Mark, Copy, Cut, Put}
use Rattle.bx_keys.specs.declared.key.Key.TheVariants.{Find, FindBack, WordLeft, WordRight, TextStart, TextEnd, Help, Notice}
use Rattle.bx_keys.specs.declared.key.Key.TheVariants.{EraseWord, DeleteWord, ErasePoint, NewLine, FindNext, Cancel, LineUp, LineDown, PageBack, PageOn}
use Rattle.bx_keys.specs.declared.key.Key.TheVariants.{AskOverwrite, Drag, Fill, FindPrevious, SaveAs, ScrollBack, ScrollOn, SelectAll}
use Rattle.bx_keys.specs.declared.key.Key.TheVariants.{Select, Undo, Redo, GoTo, Replace, Name, Tell, PasteStart, PasteEnd, Point}
use Rattle.bx_store.specs.declared.store.StoreFault.{StoreFault}
use Rattle.bx_document.specs.declared.history.HistoryStep.TheVariants as steps
use Rattle.bx_paragraph.specs.declared.moves.Visual.TheVariants as visual
use Rattle.bx_editor.specs.declared.undo_groups.typing.Removal.TheVariants as removals
use Rattle.bx_view.specs.declared.moves.Logical.TheVariants as logical
use Rattle.bx_view.specs.declared.moves.Vertical.{Vertical}
use Rattle.bx_view.specs.declared.moves.Vertical.TheVariants as ways
use Rattle.bx_view.specs.Moves.{step_logical, step_visual, vertical, page, row_home, row_end, word_towards}
use Rattle.bx_view.specs.Words.{step_word}
use Rattle.bx_ucd.specs.Data.{Data}
use Rattle.bx_editor.specs.declared.search_state.SearchPurpose.TheVariants as purposes
use Rattle.bx_editor.specs.declared.search_state.SearchState.{SearchState}
use Rattle.bx_editor.specs.declared.search_state.SearchState.TheVariants.{Off, Begun, Typed, WithBegun, WithTyped, Replacing}
use Rattle.bx_editor.specs.declared.questions.answers.Prompt.{Prompt}
use Rattle.bx_editor.specs.declared.questions.answers.Prompt.TheVariants as prompts
use Rattle.bx_editor.specs.declared.answer.Answer.{Answer}
use Rattle.bx_editor.specs.declared.answer.Answer.TheVariants.{Letter, Erases, Moves, PutsIn, Passes, GoesBack, Next, Previous, Replaces, Scrolls, Stays, Ends}
use Rattle.bx_editor.specs.Answering.{answer_of, without_line}
use Rattle.bx_editor.specs.declared.undo_groups.typing.Typing.{Typing}
use Rattle.bx_editor.specs.declared.undo_groups.typing.Typing.TheVariants.{Paste, Spent}
use Rattle.bx_editor.specs.Asking.{after_answer_letter, after_erasing_answer, after_name_key, without_prompt}
use Rattle.bx_editor.specs.InputLines.{after_taking}
use Rattle.bx_editor.specs.LinePuts.{after_line_put}
use Rattle.bx_editor.specs.Saving.{Saving, after_deciding, can_save, confirms, own_saving, saving_over, saving_under}
use Rattle.bx_editor.specs.Editor.{Editor, cleared, rows, text_height, with_notice, with_size, with_typing}
use Rattle.bx_editor.specs.Effects.{Effect, Types, BeginsLine, Puts, Removes, RemovesWord, Steps, StepsGroup, Goes, GoesByRows, GoesToRowEnd, Clicks, SeeksPrevious, AsksFile, AsksOverwrite}
use Rattle.bx_editor.specs.Effects.{Drags, Wheels, Marks, Selects, SelectsAll, Unmarks, Copies, Cuts, Seeks, SeeksNext, Saves, Quits, Turns, Helps}
use Rattle.bx_editor.specs.Effects.{AsksLine, AsksName, Tells, Refuses, Rests, by}
use Rattle.bx_editor.specs.Before.{Before, before}
use Rattle.bx_editor.specs.Clicks.{clicks_behind, pressed_behind}
use Rattle.bx_editor.specs.Erasing.{erased_from}
use Rattle.bx_editor.specs.RowMoves.{after_wheel, goal_behind}
use Rattle.bx_editor.specs.Scrolling.{page_rows}
use Rattle.bx_editor.specs.Putting.{after_paste_end, after_paste_start, after_pasted_letter, is_paste, paste_ended, only_paste}
use Rattle.bx_editor.specs.Replacing.{after_asking_replacement, after_ending, after_erasing_replacement, after_match_letter, after_passing_over}
use Rattle.bx_editor.specs.Replacing.{after_replacement_letter, after_replacing_all, after_showing, after_sought_letter}
use Rattle.bx_editor.specs.Search.{after_erasing_query, after_find, after_find_back, after_giving_up, after_moving_in, without_search}
use Rattle.bx_editor.specs.Region.{soft_behind}

-- ---- outside a search and a question

-- what a key does, with its offsets; the last clause is Repaint's, since a size, a notice and a paste's ends do not come here
abbrev pub effect_of : Data → Editor → Key → Effect
effect_of d e (Insert c) = Types c
effect_of d e NewLine = BeginsLine
effect_of d e Erase = Removes removals.Erase (step_logical (rows d e) logical.Back e.place) e.place
effect_of d e ErasePoint = Removes removals.Erase (erased_from d e) e.place
effect_of d e Delete = Removes removals.Delete e.place (step_logical (rows d e) logical.Forward e.place)
effect_of d e EraseWord = RemovesWord (step_word d e.content.text logical.Back e.place) e.place
effect_of d e DeleteWord = RemovesWord e.place (step_word d e.content.text logical.Forward e.place)
effect_of d e Back = Goes (step_logical (rows d e) logical.Back e.place)
effect_of d e Forward = Goes (step_logical (rows d e) logical.Forward e.place)
effect_of d e Up = Goes (vertical e.width (rows d e) ways.Up e.place)
effect_of d e Down = Goes (vertical e.width (rows d e) ways.Down e.place)
effect_of d e Right = Goes (step_visual e.width (rows d e) visual.Right e.place)
effect_of d e Left = Goes (step_visual e.width (rows d e) visual.Left e.place)
effect_of d e RowHome = Goes (row_home (rows d e) e.place)
effect_of d e RowEnd = GoesToRowEnd (row_end (rows d e) e.place)
effect_of d e PageUp = Goes (page e.width (rows d e) ways.Up (text_height e.height) e.place)
effect_of d e PageDown = Goes (page e.width (rows d e) ways.Down (text_height e.height) e.place)
effect_of d e WordLeft = Goes (word_towards d e.content.text (rows d e) visual.Left e.place)
effect_of d e WordRight = Goes (word_towards d e.content.text (rows d e) visual.Right e.place)
effect_of d e TextStart = Goes 0
effect_of d e TextEnd = Goes (length e.content.text)
effect_of d e LineUp = GoesByRows ways.Up 1
effect_of d e LineDown = GoesByRows ways.Down 1
effect_of d e PageBack = GoesByRows ways.Up (page_rows (text_height e.height))
effect_of d e PageOn = GoesByRows ways.Down (page_rows (text_height e.height))
effect_of d e (Point row column) = Clicks row column
effect_of d e (Drag row column) = Drags row column
effect_of d e ScrollBack = Wheels ways.Up
effect_of d e ScrollOn = Wheels ways.Down
effect_of d e UndoEdit = Steps steps.Undo
effect_of d e RedoEdit = Steps steps.Redo
effect_of d e Undo = StepsGroup steps.Undo
effect_of d e Redo = StepsGroup steps.Redo
effect_of d e Mark = Marks
effect_of d e Select = Selects
effect_of d e SelectAll = SelectsAll
effect_of d e Cancel = Unmarks
effect_of d e Copy = Copies
effect_of d e Cut = Cuts
effect_of d e Put = Puts
effect_of d e Find = Seeks purposes.Find
effect_of d e FindBack = Seeks purposes.Find
effect_of d e Replace = Seeks purposes.Replace
effect_of d e FindNext = SeeksNext
effect_of d e FindPrevious = SeeksPrevious
effect_of d e Save = Saves
effect_of d e Quit = Quits
effect_of d e Direction = Turns
effect_of d e Help = Helps
effect_of d e GoTo = AsksLine
effect_of d e Name = AsksName
effect_of d e SaveAs = AsksFile
effect_of d e AskOverwrite = AsksOverwrite
effect_of d e Tell = Tells
effect_of d e _ = Rests

-- keys that change the text, or begin to, outside a search and a question
abbrev pub changes_text : Key → Bool
changes_text (Insert c) = true
changes_text NewLine = true
changes_text Erase = true
changes_text ErasePoint = true
changes_text Delete = true
changes_text EraseWord = true
changes_text DeleteWord = true
changes_text Cut = true
changes_text Put = true
changes_text UndoEdit = true
changes_text RedoEdit = true
changes_text Undo = true
changes_text Redo = true
changes_text Replace = true
changes_text Name = true
changes_text Save = true
changes_text _ = false

-- such a key is refused where the text is only looked at
abbrev pub allowed_effect : Data → Editor → Key → Effect
allowed_effect d e key = if changes_text key && e.read_only then Refuses else effect_of d e key

-- the editor after a key, outside a search and a question
abbrev pub after_pressing : Data → Option StoreFault → Before → Editor → Key → Editor
after_pressing d fault was e key = by d fault was e (allowed_effect d e key)

-- ---- while the query is asked for: a key answers, or ends the search and does what it always does

abbrev pub answered : Data → Option StoreFault → Before → Editor → Key → Answer → Editor
answered d fault was e key (Letter c) = after_taking d was.typing c e (after_sought_letter d e c)
answered d fault was e key (Erases how) = after_erasing_query d e how
answered d fault was e key (Moves m) = after_moving_in d e e.query m
answered d fault was e key PutsIn = after_line_put d e
answered d fault was e key Passes = e
answered d fault was e key GoesBack = after_giving_up e
answered d fault was e key Next = after_find d e
answered d fault was e key Previous = after_find_back d e
answered d fault was e key Replaces = after_asking_replacement d e
answered d fault was e key (Scrolls way) = after_wheel d was e way
answered d fault was e key Stays = with_typing e was.typing
answered d fault was e key Ends = after_pressing d fault was (without_search e) key

-- ---- while the replacement is asked for

-- Next and Previous begin another search, and Replaces shows the first match
abbrev pub answered_replacement : Data → Option StoreFault → Before → Editor → Key → Answer → Editor
answered_replacement d fault was e key (Letter c) = after_taking d was.typing c e (after_replacement_letter d e c)
answered_replacement d fault was e key (Erases how) = after_erasing_replacement d e how
answered_replacement d fault was e key (Moves m) = after_moving_in d e e.replacement m
answered_replacement d fault was e key PutsIn = after_line_put d e
answered_replacement d fault was e key Passes = e
answered_replacement d fault was e key GoesBack = after_giving_up e
answered_replacement d fault was e key Next = by d fault was (without_search e) (Seeks purposes.Find)
answered_replacement d fault was e key Previous = by d fault was (without_search e) (Seeks purposes.Find)
answered_replacement d fault was e key Replaces = after_showing d e
answered_replacement d fault was e key (Scrolls way) = after_wheel d was e way
answered_replacement d fault was e key Stays = with_typing e was.typing
answered_replacement d fault was e key Ends = after_pressing d fault was (without_search e) key

-- ---- while a match is shown: a key replaces it, passes it over, or ends replacing and does what it always does

-- Previous begins another search, and Replaces replaces this match and all that follow
abbrev pub answered_match : Data → Option StoreFault → Before → Editor → Key → Answer → Editor
answered_match d fault was e key (Letter c) = with_typing (after_match_letter d was.typing e c) (only_paste was.typing)
answered_match d fault was e key (Erases how) = e
answered_match d fault was e key GoesBack = after_ending e
answered_match d fault was e key Next = after_passing_over d e
answered_match d fault was e key Previous = by d fault was (without_search e) (Seeks purposes.Find)
answered_match d fault was e key Replaces = after_replacing_all d e
answered_match d fault was e key (Scrolls way) = after_wheel d was e way
answered_match d fault was e key Stays = with_typing e was.typing
answered_match d fault was e key _ = after_pressing d fault was (without_search e) key

-- ---- in any state of a search

-- a key while no question is on, by the state of the search: as a key of a query, of a replacement, or of a match that is shown
abbrev pub after_searching : Data → Option StoreFault → Before → SearchState → Editor → Key → Editor
after_searching d fault was Off e key = after_pressing d fault was e key
after_searching d fault was Begun e key = answered d fault was e key (answer_of key)
after_searching d fault was Typed e key = answered d fault was e key (answer_of key)
after_searching d fault was WithBegun e key = answered_replacement d fault was e key (answer_of key)
after_searching d fault was WithTyped e key = answered_replacement d fault was e key (answer_of key)
after_searching d fault was Replacing e key = answered_match d fault was e key (without_line (answer_of key))

-- ---- in a question: a key answers it, or ends it and does what it always does

-- in one with an input line
abbrev pub answered_question : Data → Option StoreFault → Before → Editor → Key → Answer → Editor
answered_question d fault was e key (Letter c) = after_taking d was.typing c e (after_answer_letter d fault e.prompt e c)
answered_question d fault was e key (Erases how) = after_erasing_answer d e.prompt e how
answered_question d fault was e key (Moves m) = after_moving_in d e e.answer m
answered_question d fault was e key PutsIn = after_line_put d e
answered_question d fault was e key Passes = e
answered_question d fault was e key GoesBack = without_prompt e
answered_question d fault was e key (Scrolls way) = after_wheel d was e way
answered_question d fault was e key Stays = with_typing e was.typing
answered_question d fault was e key _ = after_pressing d fault was (without_prompt e) key

-- in the question for a character's name; what is pasted answers nothing
abbrev pub answered_name : Data → Option StoreFault → Before → Editor → Key → Answer → Editor
answered_name d fault was e key (Letter c) = if is_paste was.typing then with_typing e was.typing else after_name_key d e c
answered_name d fault was e key (Erases how) = e
answered_name d fault was e key GoesBack = without_prompt e
answered_name d fault was e key (Scrolls way) = after_wheel d was e way
answered_name d fault was e key Stays = with_typing e was.typing
answered_name d fault was e key _ = after_pressing d fault was (without_prompt e) key

-- in the question whether to overwrite: a letter confirms it, and any other key only declines; what is pasted does neither
abbrev pub answered_overwrite : Option StoreFault → Before → Editor → Answer → Editor
answered_overwrite fault was e (Letter c) = if is_paste was.typing then with_typing e was.typing else after_deciding fault (without_prompt e) c
answered_overwrite fault was e Stays = with_typing e was.typing
answered_overwrite fault was e _ = without_prompt e

-- by what is asked
abbrev pub after_asking : Data → Option StoreFault → Before → Prompt → Editor → Key → Editor
after_asking d fault was prompts.Name e key = answered_name d fault was e key (without_line (answer_of key))
after_asking d fault was prompts.Overwrite e key = answered_overwrite fault was e (answer_of key)
after_asking d fault was _ e key = answered_question d fault was e key (answer_of key)

-- ---- any key

abbrev pub is_overwrite : Prompt → Bool
is_overwrite prompts.Overwrite = true
is_overwrite _ = false

-- where the text is only looked at, Replace neither begins nor ends anything, but where the question is whether to overwrite
abbrev pub refuses_replacing : Editor → Key → Bool
refuses_replacing e Replace = e.read_only && not (is_overwrite e.prompt)
refuses_replacing e _ = false

-- a question has the key before a search has
abbrev pub after_any : Data → Option StoreFault → Before → Prompt → SearchState → Editor → Key → Editor
after_any d fault was prompts.Off search_state e key = after_searching d fault was search_state e key
after_any d fault was prompt _ e key = after_asking d fault was prompt e key

-- with the kept column, the selection and the presses that a key leaves
abbrev pub as_left : Key → Editor → Editor
as_left key e = record e {
  goal = goal_behind key e.goal;
  soft = soft_behind key e.soft;
  clicks = clicks_behind key e.clicks;
  pressed = pressed_behind key e.pressed;
}

-- a key that the user presses where no paste is under way
abbrev pub after_user : Data → Option StoreFault → Editor → Key → Editor
after_user d fault e key = as_left key (
    if refuses_replacing e key
    then by d fault (before e) (cleared e) Refuses
    else after_any d fault (before e) e.prompt e.search_state (cleared e) key
    )

-- ---- while a paste is under way: a character goes into it, and Repaint leaves it; any other key first ends it

abbrev pub after_in_paste : Data → Option StoreFault → Editor → Key → Editor
after_in_paste d fault e (Insert c) = after_pasted_letter d e c
after_in_paste d fault e Repaint = after_user d fault e Repaint
after_in_paste d fault e key = after_user d fault (paste_ended d e) key

-- a key that the user presses; `pasted` is what a paste has brought, if one is under way
abbrev pub after_press : Data → Option StoreFault → Option (List ℕ) → Editor → Key → Editor
after_press d fault None e key = after_user d fault e key
after_press d fault (Some list) e key = after_in_paste d fault e key

-- any key
abbrev pub after_key : Data → Option StoreFault → Editor → Key → Editor
after_key d fault e (Size height width) = with_size e height width
after_key d fault e (Notice notice) = with_notice e notice
after_key d fault e Fill = e
after_key d fault e PasteStart = after_paste_start e
after_key d fault e PasteEnd = after_paste_end d e
after_key d fault e key = after_press d fault e.pasted e key

-- ---- kinds of keys

-- a key that edits, undoes, redoes, moves, copies or finds
abbrev pub is_edit_or_move : Key → Bool
is_edit_or_move Save = false
is_edit_or_move Quit = false
is_edit_or_move Repaint = false
is_edit_or_move Direction = false
is_edit_or_move Mark = false
is_edit_or_move Help = false
is_edit_or_move GoTo = false
is_edit_or_move Name = false
is_edit_or_move Tell = false
is_edit_or_move Cancel = false
is_edit_or_move Select = false
is_edit_or_move Fill = false
is_edit_or_move SaveAs = false
is_edit_or_move AskOverwrite = false
is_edit_or_move PasteStart = false
is_edit_or_move PasteEnd = false
is_edit_or_move (Size height width) = false
is_edit_or_move (Notice notice) = false
is_edit_or_move _ = true

-- a key that ends a paste
abbrev pub ends_paste : Key → Bool
ends_paste (Insert c) = false
ends_paste Repaint = false
ends_paste Fill = false
ends_paste PasteStart = false
ends_paste (Size height width) = false
ends_paste (Notice notice) = false
ends_paste _ = true

-- only such a key may be refused for want of memory; while a paste is under way also one that ends it
abbrev pub may_refuse : Editor → Key → Bool
may_refuse e key = is_edit_or_move key || (is_some e.pasted && ends_paste key)

-- a key that changes only what a paste has brought, or nothing: a character, or PasteStart once more
abbrev pub is_of_paste : Key → Bool
is_of_paste (Insert c) = true
is_of_paste PasteStart = true
is_of_paste _ = false

-- such a key while a paste is under way needs no painting: the picture stays as it is
abbrev pub needs_no_painting : Editor → Key → Bool
needs_no_painting e key = is_some e.pasted && is_of_paste key

abbrev pub is_save : Key → Bool
is_save Save = true
is_save _ = false

-- ---- which keys store the text

-- what is typed is no part of a paste
abbrev pub is_typed : Typing → Bool
is_typed Paste = false
is_typed Spent = false
is_typed _ = true

-- the answer that saves under a name is complete
abbrev pub ends_name : Editor → ℕ → Bool
ends_name e c = (c == 0xA) && is_typed e.typing && not (length e.answer == 0)

-- a letter that confirms overwriting, where the text can be saved
abbrev pub overwrites : Editor → ℕ → Bool
overwrites e c = confirms c && not (is_paste e.typing) && can_save e

-- where a key stores the text: a Save, or an answer
abbrev pub saving_by : Editor → Prompt → Key → Answer → Option Saving
saving_by e prompts.File key (Letter c) = if ends_name e c then Some (saving_under e e.answer) else None
saving_by e prompts.Overwrite key (Letter c) = if overwrites e c then Some (saving_over e) else None
saving_by e prompts.Overwrite key answer = None
saving_by e prompt key answer = if is_save key && can_save e then Some (own_saving e e.name) else None

-- where a key stores the text, if it does; while a paste is under way only a Save, which ends it first
abbrev pub saving_of : Editor → Key → Option Saving
saving_of e key = if is_some e.pasted && not (is_save key) then None else saving_by e e.prompt key (answer_of key)

-- a key after which the screen's content counts as unknown, so that all of it is painted
abbrev pub asks_for_whole : Key → Bool
asks_for_whole Repaint = true
asks_for_whole (Size height width) = true
asks_for_whole _ = false
