-- The law of an input line: it is edited as a text of one line is. `d` and `e` are as in Laws.antt, `line` is the text of the input line
-- that the prompt shows, `l` a line with a cursor in it; offsets and places count bytes of the line.
use Rattle.std.specs.Prelude.{◌≡◌, ◌≢◌, ℕ, ◌+◌, ◌<◌, ◌≤◌, ◌==◌, Bool, true, false, List, [], length, map, chars, encode_utf8, take, drop, ◌++◌}
use Rattle.std.specs.Prelude.{Option, Some, None, if◌then◌else◌}
use Rattle.bx_common.specs.Characters.{largest_text}
use Rattle.bx_common.specs.declared.base.Base.TheVariants.{Auto}
use Rattle.bx_keys.specs.declared.key.Key.{Key}
use Rattle.bx_keys.specs.declared.key.Key.TheVariants.{Insert, Erase, ErasePoint, Delete, EraseWord, DeleteWord, Back, Forward, Left, Right}
use Rattle.bx_keys.specs.declared.key.Key.TheVariants.{Put, WordLeft, WordRight, RowHome, RowEnd}
use Rattle.bx_store.specs.declared.store.StoreFault.{StoreFault}
use Rattle.bx_ucd.specs.Data.{Data}
use Rattle.bx_document.specs.InputLine.{line_rows}
use Rattle.bx_view.specs.Moves.{place_from}
use Rattle.bx_editor.specs.declared.questions.answers.Prompt.{Prompt}
use Rattle.bx_editor.specs.declared.questions.answers.Prompt.TheVariants as prompts
use Rattle.bx_editor.specs.declared.search_state.SearchState.{SearchState}
use Rattle.bx_editor.specs.Asking.{longest_code, longest_line}
use Rattle.bx_editor.specs.Editor.{Editor, at_start}
use Rattle.bx_editor.specs.Functions.{after_keys}
use Rattle.bx_editor.specs.InputLines.{first_line, input_line_of, is_no_letter, is_taken, line_with}
use Rattle.bx_editor.specs.Keys.{after_key, is_typed}
use Rattle.bx_editor.specs.LineState.{LineState}
use Rattle.bx_editor.specs.Saving.{longest_name}
use Rattle.bx_editor.specs.Search.{kept, longest_query}
use Rattle.bx_editor.specs.questions.Answers.{is_line_letter, shortened}
use Rattle.bx_editor.specs.questions.KeyLetters.{code_letter}
use Rattle.bx_editor.specs.questions.Names.{is_code_letter}

-- ---- a text of one line

-- an editor that was opened with the line as its text, in a window of two rows of 500 columns, with the cursor where it is in the line
abbrev pub text_of : LineState → Editor
text_of l = record (at_start l.text 2 500 Auto) { place = l.cursor }

-- the prompt shows this line, with the cursor at this place
pub record ShowsLine (line : List ℕ) (cursor : ℕ) (new : Editor) : Type 0 where
  pub line_is : input_line_of new ≡ Some line
  pub cursor_is : new.input_cursor ≡ cursor

-- the prompt shows the text of that other editor, with the cursor at the same place
abbrev pub IsEditedAs : Editor → Editor → Type 0
IsEditedAs new text = ShowsLine text.content.text text.place new

-- ---- keys that move in a line, or remove from it

abbrev pub is_line_move : Key → Bool
is_line_move Back = true
is_line_move Forward = true
is_line_move Left = true
is_line_move Right = true
is_line_move WordLeft = true
is_line_move WordRight = true
is_line_move RowHome = true
is_line_move RowEnd = true
is_line_move _ = false

abbrev pub is_line_removal : Key → Bool
is_line_removal Delete = true
is_line_removal EraseWord = true
is_line_removal DeleteWord = true
is_line_removal _ = false

-- Erase, which removes one character, where in a text it removes a unit
abbrev pub is_line_erasure : Key → Bool
is_line_erasure Erase = true
is_line_erasure ErasePoint = true
is_line_erasure _ = false

-- the offset at which the last character before the cursor begins
abbrev pub last_start : LineState → ℕ
last_start l = length (shortened (take l.cursor l.text))

-- the line without that character, with the cursor at the first place at or after the seam
abbrev pub without_last : Data → LineState → LineState
without_last d l =
    let text = take (last_start l) l.text ++ drop l.cursor l.text in line_with text (place_from (line_rows d text) (last_start l))

-- ---- what is typed

-- What a typed character goes into the line as, if it goes in: in the question for a line digits and what parts two numbers, in that for
-- a code the digit on the key, else all that ends no line and is no tab.
abbrev pub goes_in_as : Data → Prompt → ℕ → Option ℕ
goes_in_as d prompts.Line c = if c == 0xA then None else if is_line_letter c then Some c else None
goes_in_as d prompts.Code c =
    let digit = code_letter c in if digit == 0xA then None else if is_code_letter digit then Some digit else None
goes_in_as d prompt c = if c == 0xA then None else if is_no_letter d c then None else Some c

-- the most characters of the line
abbrev pub most_characters : Prompt → ℕ
most_characters prompts.Line = longest_line
most_characters prompts.Code = longest_code
most_characters prompts.File = longest_name
most_characters prompt = longest_query

-- the line into which a character goes: a query, or a replacement, that was just asked for gives way to what is typed
abbrev pub typed_over : Prompt → SearchState → LineState → LineState
typed_over prompts.Off search_state l = kept search_state l
typed_over prompt search_state l = l

-- where there is room, the character goes in as into the text; where there is none the line stays
pub record TypesAsText (d : Data) (l : LineState) (most letter : ℕ) (new : Editor) : Type 0 where
  pub fits : length (chars l.text) < most → length l.text + length (encode_utf8 letter) ≤ largest_text
      → IsEditedAs new (after_key d None (text_of l) (Insert letter))
  pub full : most ≤ length (chars l.text) → ShowsLine l.text l.cursor new

-- ---- what is put

-- another editor's prompt shows the same line, with its cursor at the same place
pub record ShowsSameLine (one other : Editor) : Type 0 where
  pub line_is : input_line_of one ≡ input_line_of other
  pub cursor_is : one.input_cursor ≡ other.input_cursor

-- ---- the law

-- Moves, and the keys that remove a unit or a word, make of the line and its cursor what they make of the text and its. Erase removes the
-- last character before the cursor; in the question for a code an empty answer leads back to that for a name. A character that goes in
-- does as it does in the text. Put types the characters of the held text's first line, up to a tab, one after the other.
pub record IsEditedAsText (d : Data) (fault : Option StoreFault) (e : Editor) (line : List ℕ) : Type 0 where
  pub moves : (key : Key) → is_line_move key ≡ true
      → IsEditedAs (after_key d fault e key) (after_key d None (text_of (line_with line e.input_cursor)) key)
  pub removes : (key : Key) → is_line_removal key ≡ true
      → IsEditedAs (after_key d fault e key) (after_key d None (text_of (line_with line e.input_cursor)) key)
  pub erases : (key : Key) → is_line_erasure key ≡ true → 0 < length line → last_start (line_with line e.input_cursor) ≢ e.input_cursor
      → let l = without_last d (line_with line e.input_cursor) in ShowsLine l.text l.cursor (after_key d fault e key)
  pub types : (c letter : ℕ) → goes_in_as d e.prompt c ≡ Some letter → is_taken d e.typing c ≡ true
      → TypesAsText d (typed_over e.prompt e.search_state (line_with line e.input_cursor)) (most_characters e.prompt) letter (after_key d fault e (Insert c))
  pub puts : first_line d e.held ≢ [] → is_typed e.typing ≡ true
      → ShowsSameLine (after_key d fault e Put) (after_keys d fault e (map Insert (first_line d e.held)))

-- so it is wherever a prompt shows an input line, into which no paste of the text is under way
abbrev pub InputLineIsText : Type 0
InputLineIsText =
    (d : Data) (fault : Option StoreFault) (e : Editor) (line : List ℕ) → input_line_of e ≡ Some line → e.pasted ≡ None
    → IsEditedAsText d fault e line
