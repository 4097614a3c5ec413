-- What keys do outside a search and a question, in kinds: each key has one. `e` is the editor.
use Rattle.std.specs.Prelude.{ℕ, Option, Some, length}
use Rattle.bx_store.specs.declared.store.StoreFault.{StoreFault}
use Rattle.bx_ucd.specs.Data.{Data}
use Rattle.bx_document.specs.declared.history.HistoryStep.{HistoryStep}
use Rattle.bx_editor.specs.declared.undo_groups.typing.Removal.{Removal}
use Rattle.bx_view.specs.declared.moves.Vertical.{Vertical}
use Rattle.bx_editor.specs.declared.questions.answers.Prompt.TheVariants.{Line, Name}
use Rattle.bx_editor.specs.declared.search_state.SearchPurpose.{SearchPurpose}
use Rattle.bx_editor.specs.declared.message.Message.TheVariants.{Told, ViewOnly}
use Rattle.bx_editor.specs.Asking.{asking}
use Rattle.bx_editor.specs.Before.{Before}
use Rattle.bx_editor.specs.Editor.{Editor, after_help, after_quit, after_step, next_base, with_base, with_place, with_typing}
use Rattle.bx_editor.specs.Editor.{after_group_step}
use Rattle.bx_editor.specs.Erasing.{after_erasing, after_erasing_word}
use Rattle.bx_editor.specs.Putting.{after_character, after_new_line, after_put}
use Rattle.bx_editor.specs.Pointing.{after_drag, after_point, selecting_part}
use Rattle.bx_editor.specs.Region.{after_copy, after_cut, after_mark, without_mark, after_select, unselected}
use Rattle.bx_editor.specs.RowMoves.{after_row_end, after_row_move, after_wheel}
use Rattle.bx_editor.specs.Saving.{after_saving, asking_name, asking_over}
use Rattle.bx_editor.specs.Search.{after_beginning, after_find_next, after_find_previous}

-- what a key does
pub data Effect : Type 0 where
  -- a character is typed; a line is begun; the held text is put in
  Types : ℕ → Effect
  BeginsLine : Effect
  Puts : Effect
  -- the bytes from one offset to another are removed: removals of one kind after one another are one undo group, but each of a word
  -- is an undo group of its own
  Removes : Removal → ℕ → ℕ → Effect
  RemovesWord : ℕ → ℕ → Effect
  -- one edit, or an undo group, is undone or redone
  Steps : HistoryStep → Effect
  StepsGroup : HistoryStep → Effect
  -- the cursor goes to a place, to the row's end, or by a number of rows in the kept column
  Goes : ℕ → Effect
  GoesToRowEnd : ℕ → Effect
  GoesByRows : Vertical → ℕ → Effect
  -- a click at, or a drag to, a row and a column of the picture; the wheel
  Clicks : ℕ → ℕ → Effect
  Drags : ℕ → ℕ → Effect
  Wheels : Vertical → Effect
  -- the mark is set, or removed where it is; a selection begins or goes on; the mark is removed
  Marks : Effect
  Selects : Effect
  SelectsAll : Effect
  Unmarks : Effect
  -- the region, or the line if it is empty, is held; Cuts removes it too
  Copies : Effect
  Cuts : Effect
  -- a search begins, or the next or the previous match is sought
  Seeks : SearchPurpose → Effect
  SeeksNext : Effect
  SeeksPrevious : Effect
  Saves : Effect
  Quits : Effect
  -- the next base direction is taken; the next list of keys is shown
  Turns : Effect
  Helps : Effect
  -- a line is asked for, a character's name, a name to save under, or whether to overwrite; what stands at the place is told
  AsksLine : Effect
  AsksName : Effect
  AsksFile : Effect
  AsksOverwrite : Effect
  Tells : Effect
  -- nothing, since the text is only looked at
  Refuses : Effect
  -- nothing; what is typed goes on
  Rests : Effect

-- the effect on an editor whose message is cleared. `d`: Unicode's data; `fault`: why a Save failed, None if it succeeded; `was`:
-- what the key before left
abbrev pub by : Data → Option StoreFault → Before → Editor → Effect → Editor
by d fault was e (Types c) = after_character d was.typing e c
by d fault was e BeginsLine = after_new_line d was.typing e
by d fault was e Puts = after_put d e
by d fault was e (Removes how start stop) = after_erasing d was.typing how e start stop
by d fault was e (RemovesWord start stop) = after_erasing_word d e start stop
by d fault was e (Steps step) = after_step step e
by d fault was e (StepsGroup step) = after_group_step step e
by d fault was e (Goes place) = with_place (unselected e) place
by d fault was e (GoesToRowEnd place) = after_row_end (unselected e) place
by d fault was e (GoesByRows way n) = after_row_move d (unselected e) way n
by d fault was e (Clicks row column) = after_point d e row column
by d fault was e (Drags row column) = after_drag d e row column e.pressed
by d fault was e (Wheels way) = after_wheel d was e way
by d fault was e Marks = after_mark e
by d fault was e Selects = after_select e
by d fault was e SelectsAll = selecting_part e 0 (length e.content.text)
by d fault was e Unmarks = without_mark e
by d fault was e Copies = after_copy d e
by d fault was e Cuts = after_cut d e
by d fault was e (Seeks purpose) = after_beginning purpose (unselected e)
by d fault was e SeeksNext = after_find_next d (unselected e)
by d fault was e SeeksPrevious = after_find_previous d (unselected e)
by d fault was e Saves = after_saving fault e
by d fault was e Quits = after_quit e was.again
by d fault was e Turns = with_base e (next_base e.base)
by d fault was e Helps = after_help e was.message
by d fault was e AsksLine = asking (unselected e) Line
by d fault was e AsksName = asking e Name
by d fault was e AsksFile = asking_name e
by d fault was e AsksOverwrite = asking_over e
by d fault was e Tells = record e { message = Some Told }
by d fault was e Refuses = record e { message = Some ViewOnly }
by d fault was e Rests = with_typing e was.typing
