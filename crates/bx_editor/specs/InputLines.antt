-- What is typed at a prompt: an input line, a small text of one line with a cursor of its own. `d` is Unicode's data, `l` the line, `e` the
-- editor; offsets and places count bytes of the line.
use Rattle.std.specs.Prelude.{ℕ, ◌+◌, ◌-◌, ◌==◌, ◌||◌, nat_lt, Bool, true, false, not, List, [], length, take, chars, encode_utf8, if◌then◌else◌}
use Rattle.std.specs.Prelude.{Option, Some, None, IfSome}
use Rattle.std.specs.List.{before_first}
use Rattle.bx_ucd.specs.Data.{Data}
use Rattle.bx_document.specs.InputLine.{line_rows}
pub use Rattle.bx_document.specs.StatusRow.{is_no_letter}
use Rattle.bx_text.specs.Edits.{splice}
use Rattle.bx_text.specs.index.Paragraphs.{is_separator}
use Rattle.bx_view.specs.Moved.{moved}
use Rattle.bx_view.specs.Moves.{place_from, step_logical}
use Rattle.bx_view.specs.Places.{IsTextPlace}
use Rattle.bx_view.specs.Words.{step_word}
use Rattle.bx_view.specs.declared.moves.Logical.TheVariants as logical
use Rattle.bx_view.specs.declared.moves.Move.{Move}
use Rattle.bx_editor.specs.declared.input_line.Erasure.{Erasure}
use Rattle.bx_editor.specs.declared.input_line.Erasure.TheVariants.{LastCharacter, Unit, WordBack, WordOn}
use Rattle.bx_editor.specs.declared.questions.answers.Prompt.{Prompt}
use Rattle.bx_editor.specs.declared.questions.answers.Prompt.TheVariants as prompts
use Rattle.bx_editor.specs.declared.search_state.SearchState.{SearchState}
use Rattle.bx_editor.specs.declared.search_state.SearchState.TheVariants as search_states
use Rattle.bx_editor.specs.declared.undo_groups.typing.Typing.{Typing}
use Rattle.bx_editor.specs.declared.undo_groups.typing.Typing.TheVariants.{Paste, Spent}
use Rattle.bx_editor.specs.Editor.{Editor, with_typing}
use Rattle.bx_editor.specs.LineState.{LineState}
use Rattle.bx_editor.specs.questions.Answers.{shortened}

-- ---- a line and its cursor

abbrev pub line_with : List ℕ → ℕ → LineState
line_with text cursor = record { text = text; cursor = cursor }

-- a line with its cursor at its end
abbrev pub line_at_end : List ℕ → LineState
line_at_end text = line_with text (length text)

-- the cursor stands at the line's end
abbrev pub is_at_end : LineState → Bool
is_at_end l = l.cursor == length l.text

-- the bytes from `start` to `stop` give way to others, with the cursor at the first place at or after their end
abbrev pub line_edited : Data → LineState → ℕ → ℕ → List ℕ → LineState
line_edited d l start stop new =
    let text = splice l.text start stop new in line_with text (place_from (line_rows d text) (start + length new))

-- a character goes in at the cursor, unless the line has `limit` characters
abbrev pub line_lengthened : Data → ℕ → LineState → ℕ → LineState
line_lengthened d limit l c = if nat_lt (length (chars l.text)) limit then line_edited d l l.cursor l.cursor (encode_utf8 c) else l

-- the part that an erasure removes: the last character before the cursor, the unit behind it, what stands back to a word's start, or on
-- to the next one
abbrev pub erased_part : Data → Erasure → LineState → ℕ × ℕ
erased_part d LastCharacter l = (length (shortened (take l.cursor l.text)), l.cursor)
erased_part d Unit l = (l.cursor, step_logical (line_rows d l.text) logical.Forward l.cursor)
erased_part d WordBack l = (step_word d l.text logical.Back l.cursor, l.cursor)
erased_part d WordOn l = (l.cursor, step_word d l.text logical.Forward l.cursor)

-- an erasure removes nothing
abbrev pub erases_nothing : Data → Erasure → LineState → Bool
erases_nothing d how l = (erased_part d how l).0 == (erased_part d how l).1

-- the line without what an erasure removes
abbrev pub line_shortened : Data → Erasure → LineState → LineState
line_shortened d how l = line_edited d l (erased_part d how l).0 (erased_part d how l).1 []

-- the cursor's place after a move
abbrev pub line_moved : Data → Move → LineState → ℕ
line_moved d m l = moved d l.text 500 (line_rows d l.text) m l.cursor

-- ---- the line that a prompt shows

-- by how far a search is: the query or the replacement
abbrev pub search_line : SearchState → List ℕ → List ℕ → Option (List ℕ)
search_line search_states.Begun query replacement = Some query
search_line search_states.Typed query replacement = Some query
search_line search_states.WithBegun query replacement = Some replacement
search_line search_states.WithTyped query replacement = Some replacement
search_line _ query replacement = None

-- the question's answer is an input line: it is more than one letter
abbrev pub takes_line : Prompt → Bool
takes_line prompts.Line = true
takes_line prompts.Code = true
takes_line prompts.File = true
takes_line _ = false

-- the text of the prompt's input line: the answer of a question that takes a line, or without a question the line of the search
abbrev pub prompt_line : Prompt → SearchState → List ℕ → List ℕ → List ℕ → Option (List ℕ)
prompt_line prompts.Off search_state query replacement answer = search_line search_state query replacement
prompt_line prompt search_state query replacement answer = if takes_line prompt then Some answer else None

-- the line that the prompt shows, if it shows one
abbrev pub input_line_of : Editor → Option (List ℕ)
input_line_of e = prompt_line e.prompt e.search_state e.query e.replacement e.answer

-- the cursor stands at a place of that line
abbrev pub StandsInLine : Data → Prompt → SearchState → List ℕ → List ℕ → List ℕ → ℕ → Type 0
StandsInLine d prompt search_state query replacement answer cursor =
    IfSome (prompt_line prompt search_state query replacement answer) (λ line. IsTextPlace d line cursor)

-- ---- what is typed

-- a character that ends a line: no pasted one goes into an input line, nor what is pasted behind it
abbrev pub ends_line : Data → ℕ → Bool
ends_line d c = (c == 0xA) || is_separator (d.class c)

-- a character that is typed or pasted does something
abbrev pub is_taken : Data → Typing → ℕ → Bool
is_taken d Paste c = not (ends_line d c)
is_taken d Spent c = false
is_taken d typing c = true

-- the paste that goes on behind it, which is spent at the end of its first line; None if it was typed
abbrev pub paste_behind : Data → Typing → ℕ → Option Typing
paste_behind d Paste c = Some (if ends_line d c then Spent else Paste)
paste_behind d Spent c = Some Spent
paste_behind d typing c = None

abbrev pub with_paste_behind : Option Typing → Editor → Editor
with_paste_behind None e = e
with_paste_behind (Some typing) e = with_typing e typing

-- a character is typed or pasted, with its effect `new`
abbrev pub after_taking : Data → Typing → ℕ → Editor → Editor → Editor
after_taking d typing c e new = with_paste_behind (paste_behind d typing c) (if is_taken d typing c then new else e)

-- ---- what is put in

-- the characters of a text that go into an input line: those of its first line, up to a tab
abbrev pub first_line : Data → List ℕ → List ℕ
first_line d text = before_first (λ c. (c == 0xA) || is_no_letter d c) (chars text)
