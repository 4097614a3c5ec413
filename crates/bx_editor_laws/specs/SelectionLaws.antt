-- Laws of selections. `d`, `e` and `new` are as in Laws.antt.
use Rattle.std.specs.Prelude.{◌≡◌, ◌≢◌, ℕ, ◌+◌, ◌==◌, ◌||◌, ◌&&◌, not, ◌≤◌, ◌<◌, Bool, true, false, List, [], ◌∷◌, ◌++◌, length, take, drop, encode_utf8, replicate}
use Rattle.std.specs.Prelude.{unwrap_or, Some, None, if◌then◌else◌}
use Rattle.bx_common.specs.Characters.{largest_text}
use Rattle.bx_keys.specs.declared.key.Key.{Key}
use Rattle.bx_keys.specs.declared.key.Key.TheVariants.{Insert, Erase, Delete, Back, Forward, Up, Down, Right, Left, RowHome, RowEnd}
use Rattle.bx_keys.specs.declared.key.Key.TheVariants.{PageUp, PageDown, Put}
use Rattle.bx_keys.specs.declared.key.Key.TheVariants.{WordLeft, WordRight, TextStart, TextEnd, Find, FindBack, FindNext, FindPrevious, Replace}
use Rattle.bx_keys.specs.declared.key.Key.TheVariants.{EraseWord, DeleteWord, ErasePoint, NewLine}
use Rattle.bx_keys.specs.declared.key.Key.TheVariants.{Cancel, LineUp, LineDown, PageBack, PageOn, Point, Select, Undo}
use Rattle.bx_ucd.specs.Data.{Data}
use Rattle.bx_editor.specs.declared.questions.answers.Prompt.TheVariants as prompts
use Rattle.bx_editor.specs.declared.message.Message.TheVariants.{TextFull}
use Rattle.bx_editor.specs.declared.search_state.SearchState.TheVariants as searches
use Rattle.bx_editor.specs.declared.answer.Answer.{Answer}
use Rattle.bx_editor.specs.declared.answer.Answer.TheVariants.{Ends}
use Rattle.bx_editor.specs.declared.clicks.Extent.TheVariants as extents
use Rattle.bx_editor.specs.declared.cursor.Soft.TheVariants.{Off, Old}
use Rattle.bx_editor.specs.Answering.{answer_of}
use Rattle.bx_editor.specs.Editor.{Editor, place_after}
use Rattle.bx_editor.specs.Keys.{after_key}
use Rattle.bx_editor.specs.Functions.{after_keys}
use Rattle.bx_editor_laws.specs.Laws.{IsPart}
use Rattle.bx_editor.specs.PasteLaws.{cuts_in}
use Rattle.bx_editor.specs.Pointing.{press_extent}
use Rattle.bx_editor.specs.Putting.{line_end, new_indent, spaces_on, units_in_line, yielding}
use Rattle.bx_editor.specs.Region.{region, aged}
use Rattle.bx_editor_laws.specs.RunLaws.{IsBackBefore}
use Rattle.bx_editor.specs.declared.undo_groups.typing.Typing.TheVariants as typings

-- ---- moves

-- keys that only move the cursor
abbrev pub is_move : Key → Bool
is_move Back = true
is_move Forward = true
is_move Right = true
is_move Left = true
is_move Up = true
is_move Down = true
is_move PageUp = true
is_move PageDown = true
is_move LineUp = true
is_move LineDown = true
is_move PageBack = true
is_move PageOn = true
is_move RowHome = true
is_move RowEnd = true
is_move WordLeft = true
is_move WordRight = true
is_move TextStart = true
is_move TextEnd = true
is_move (Point row column) = true
is_move _ = false

-- a Point is no second or third press at one cell
abbrev pub IsFirstPress : Editor → Key → Type 0
IsFirstPress e (Point row column) = press_extent e.clicks row column ≡ extents.Unit
IsFirstPress e key = Unit {0}

-- the key ends an input line, so that it has its usual effect there
abbrev pub is_ending : Answer → Bool
is_ending Ends = true
is_ending _ = false

-- A move takes an old selection (`Soft`) off, and leaves any other mark. Right after Select there is a mark, the one before or one at the
-- place, and the move leaves it; in an input line Select does nothing.
pub record LeavesMark (d : Data) (e : Editor) (move : Key) : Type 0 where
  pub old : e.soft ≡ Old → (after_key d None e move).mark ≡ None
  pub other : e.soft ≢ Old → (after_key d None e move).mark ≡ e.mark
  pub selecting : cuts_in e.prompt e.search_state ≡ true → (after_keys d None e (Select ∷ move ∷ [])).mark ≡ Some (unwrap_or e.mark e.place)

-- so it is outside a paste and the question whether to overwrite, where no input line is shown in which the move goes, and at a first press
abbrev pub MoveTakesSelectionOff : Type 0
MoveTakesSelectionOff =
    (d : Data) (e : Editor) (move : Key) → e.pasted ≡ None → e.prompt ≢ prompts.Overwrite → is_move move ≡ true → IsFirstPress e move
    → (cuts_in e.prompt e.search_state || is_ending (answer_of move)) ≡ true → LeavesMark d e move

-- a key that begins a search or goes to another match
abbrev pub seeks : Key → Bool
seeks Find = true
seeks FindBack = true
seeks FindNext = true
seeks FindPrevious = true
seeks Replace = true
seeks _ = false

-- Outside a search, a paste and the question whether to overwrite, a key that seeks leaves or removes the mark as a move does; Replace only
-- where the text is not only looked at.
abbrev pub SeekingTakesSelectionOff : Type 0
SeekingTakesSelectionOff =
    (d : Data) (e : Editor) (key : Key) → e.search_state ≡ searches.Off → e.pasted ≡ None → e.prompt ≢ prompts.Overwrite → seeks key ≡ true
    → (key ≡ Replace → e.read_only ≡ false) → LeavesMark d e key

-- ---- Cancel

-- Outside a question Cancel removes the mark, a selection's too; in one it ends the question, and the mark stays. The message, an
-- earlier Quit, a kept column and what was pressed are gone, and the next edit begins an undo group; nothing else changes.
pub record IsCancelled (e new : Editor) : Type 0 where
  pub unmarked : e.prompt ≡ prompts.Off
      → new ≡ record e { mark = None; soft = Off; typing = typings.Off; message = None; quit_before = false; goal = None; clicks = None; pressed = None }
  pub unasked : e.prompt ≢ prompts.Off
      → new ≡ record e {
        prompt = prompts.Off;
        soft = aged e.soft;
        typing = typings.Off;
        message = None;
        quit_before = false;
        goal = None;
        clicks = None;
        pressed = None;
      }

-- outside a search and a paste
abbrev pub CancelUnmarks : Type 0
CancelUnmarks = (d : Data) (e : Editor) → e.search_state ≡ searches.Off → e.pasted ≡ None → IsCancelled e (after_key d None e Cancel)

-- ---- a selection gives way

-- nothing is asked, no search is on, no paste is under way, the text is not only looked at, and the region is a selection
pub record HasSelection (e : Editor) : Type 0 where
  pub no_question : e.prompt ≡ prompts.Off
  pub no_search : e.search_state ≡ searches.Off
  pub no_paste : e.pasted ≡ None
  pub writes : e.read_only ≡ false
  pub soft : e.soft ≢ Off
  pub part : IsPart e (region e)

-- the text without the region
abbrev pub rest : Editor → List ℕ
rest e = take (region e).0 e.content.text ++ drop (region e).1 e.content.text

-- the first place, in the text without the region, at or after the region's start
abbrev pub seam : Data → Editor → ℕ
seam d e = place_after d e (rest e) (region e).0

-- keys that remove text
abbrev pub is_removal : Key → Bool
is_removal Erase = true
is_removal ErasePoint = true
is_removal Delete = true
is_removal EraseWord = true
is_removal DeleteWord = true
is_removal _ = false

-- the text is that without the region, the cursor stands at its seam, and no mark is set
pub record IsRest (d : Data) (e new : Editor) : Type 0 where
  pub text_is : new.content.text ≡ rest e
  pub place_is : new.place ≡ seam d e
  pub mark_is : new.mark ≡ None

-- a key that removes text removes the selection, and no more
abbrev pub SelectionIsRemoved : Type 0
SelectionIsRemoved = (d : Data) (e : Editor) (key : Key) → HasSelection e → is_removal key ≡ true → IsRest d e (after_key d None e key)

-- what a typed character puts in: its bytes, or the spaces that a tab becomes
abbrev pub typed_bytes : Data → Editor → ℕ → List ℕ
typed_bytes d e c =
    if (c == 0x9) && not (e.tab_width == 0)
    then replicate (spaces_on e.tab_width (units_in_line d e (yielding e).0)) 0x20
    else encode_utf8 c

-- the bytes that a key puts in; empty for a key that neither types nor puts
abbrev pub bytes_put : Data → Editor → Key → List ℕ
bytes_put d e (Insert c) = typed_bytes d e c
bytes_put d e NewLine = line_end d (rest e) ++ new_indent d e
bytes_put d e Put = e.held
bytes_put d e _ = []

-- the text without the region, with the bytes `new` at its seam
abbrev pub rest_with : Data → Editor → List ℕ → List ℕ
rest_with d e new = take (seam d e) (rest e) ++ new ++ drop (seam d e) (rest e)

-- the bytes stand in place of the selection, and the cursor at the first place at or after their end
pub record IsReplacedBy (d : Data) (e : Editor) (bytes : List ℕ) (new : Editor) : Type 0 where
  pub text_is : new.content.text ≡ rest_with d e bytes
  pub place_is : new.place ≡ place_after d e (rest_with d e bytes) (seam d e + length bytes)
  pub mark_is : new.mark ≡ None

-- without room text, place and mark stay
pub record IsRefused (e new : Editor) : Type 0 where
  pub content_is : new.content ≡ e.content
  pub place_is : new.place ≡ e.place
  pub mark_is : new.mark ≡ e.mark
  pub message_is : new.message ≡ Some TextFull

-- what is typed or put in takes the selection's place, if the new text is within the limit
pub record TakesItsPlace (d : Data) (e : Editor) (key : Key) : Type 0 where
  pub fits : length (rest_with d e (bytes_put d e key)) ≤ largest_text → IsReplacedBy d e (bytes_put d e key) (after_key d None e key)
  pub full : largest_text < length (rest_with d e (bytes_put d e key)) → IsRefused e (after_key d None e key)

abbrev pub SelectionGivesWay : Type 0
SelectionGivesWay = (d : Data) (e : Editor) (key : Key) → HasSelection e → bytes_put d e key ≢ [] → TakesItsPlace d e key

-- one Undo takes back what a key did in place of a selection
pub record ComesBack (d : Data) (e : Editor) (key : Key) : Type 0 where
  pub removed : is_removal key ≡ true → IsBackBefore e (after_keys d None e (key ∷ Undo ∷ []))
  pub replaced : bytes_put d e key ≢ [] → length (rest_with d e (bytes_put d e key)) ≤ largest_text
      → IsBackBefore e (after_keys d None e (key ∷ Undo ∷ []))

abbrev pub SelectionComesBack : Type 0
SelectionComesBack = (d : Data) (e : Editor) (key : Key) → HasSelection e → ComesBack d e key
