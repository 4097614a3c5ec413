-- Going to a line, characters by name or code, and saving under a name: what is asked, and how it is answered. `d` is Unicode's data, `e` the
-- editor; `typing` is what the key before left; `fault`: why the save that an answer makes failed, None if it succeeded.
use Rattle.std.specs.Prelude.{ℕ, ◌+◌, ◌==◌, ◌&&◌, Bool, true, false, List, [], length, chars, encode_utf8, unwrap_or, Option, Some, None, if◌then◌else◌}
use Rattle.std.specs.List.{list_any}
use Rattle.bx_ucd.specs.Data.{Data}
use Rattle.bx_editor.specs.declared.questions.line.Target.{Target}
use Rattle.bx_editor.specs.declared.questions.answers.Prompt.{Prompt}
use Rattle.bx_editor.specs.declared.questions.answers.Prompt.TheVariants.{Off, Line, Name, Code, File, Overwrite}
use Rattle.bx_store.specs.declared.store.StoreFault.{StoreFault}
use Rattle.bx_editor.specs.declared.input_line.Erasure.{Erasure}
use Rattle.bx_editor.specs.declared.input_line.Erasure.TheVariants.{LastCharacter}
use Rattle.bx_editor.specs.questions.Answers.{asked, is_line_letter}
use Rattle.bx_editor.specs.questions.KeyLetters.{code_letter, name_letter}
use Rattle.bx_editor.specs.questions.Names.{coded, is_code_letter, asks_code, closing, named}
use Rattle.bx_editor.specs.InputLines.{erases_nothing, is_no_letter, line_lengthened, line_shortened, line_with}
use Rattle.bx_editor.specs.Saving.{after_naming, longest_name}
use Rattle.bx_editor.specs.declared.undo_groups.typing.Typing.{Typing}
use Rattle.bx_editor.specs.undo_groups.Groups.{after_insertion, kind_of}
use Rattle.bx_text.specs.Edits.{fits, fits_both}
use Rattle.bx_view.specs.Numbers.{place_of, paragraph_number}
use Rattle.bx_editor.specs.declared.message.Message.TheVariants.{NoSuchCharacter, TextFull, MoreThanOneLine}
use Rattle.bx_editor.specs.LineState.{LineState}
use Rattle.bx_editor.specs.declared.search_state.SearchState.TheVariants as search_states
use Rattle.bx_editor.specs.Editor.{Editor, rows_of, with_insertion, with_place, with_typing, with_edit}
use Rattle.bx_editor.specs.Putting.{is_paste}
use Rattle.bx_editor.specs.Region.{is_empty, region, bytes_in}
use Rattle.bx_text.specs.index.Paragraphs.{is_separator}
use Rattle.bx_document.specs.declared.edits.RegionEnd.{RegionEnd}
use Rattle.bx_document.specs.declared.edits.RegionEnd.TheVariants.{Start, Stop}
use Rattle.bx_document.specs.History.{wrap}
use Rattle.bx_document.specs.Swapped.{wrapped_end}

-- the region has a separator of paragraphs
abbrev pub spans_lines : Data → Editor → Bool
spans_lines d e = list_any (λ c. is_separator (d.class c)) (chars (bytes_in e (region e)))

-- the end of the region at which the cursor stands
abbrev pub cursor_end : Editor → RegionEnd
cursor_end e = if e.place == (region e).0 then Start else Stop

-- `opener` is put before the region and `closer` after it, both in UTF-8, as one undo group; the cursor stays at its end of the region
abbrev pub with_wrap : Data → Editor → List ℕ → List ℕ → Editor
with_wrap d e opener closer =
    let start = (region e).0 in
    let stop = (region e).1 in
    with_edit d e (wrap (rows_of d e) e.content start stop opener closer e.place (cursor_end e)) (wrapped_end (cursor_end e) start stop opener) false

-- the region is put between two characters; where it spans lines, or the text has no room, a message is set instead
abbrev pub after_wrapping : Data → Editor → ℕ → ℕ → Editor
after_wrapping d e opener closer =
    if spans_lines d e
    then record e { message = Some MoreThanOneLine }
    else if fits_both e.content.text (encode_utf8 opener) (encode_utf8 closer)
    then with_wrap d e (encode_utf8 opener) (encode_utf8 closer)
    else record e { message = Some TextFull }

-- the most characters of the answer that names a line: its numbers then stay below 10^18, so they fit in 64 bits
abbrev pub longest_line : ℕ
longest_line = 16

-- the most characters of the answer that writes a code: the greatest is 10FFFF
abbrev pub longest_code : ℕ
longest_code = 6

-- `prompt` is asked, with an empty answer
abbrev pub asking : Editor → Prompt → Editor
asking e prompt = record e { prompt = prompt; answer = []; input_cursor = 0 }

-- nothing is asked any more, nor sought: no search is on while something is asked
abbrev pub without_prompt : Editor → Editor
without_prompt e = record e { prompt = Off; search_state = search_states.Off }

-- the answer with the cursor in it
abbrev pub answer_line : Editor → LineState
answer_line e = line_with e.answer e.input_cursor

abbrev pub with_answer : Editor → LineState → Editor
with_answer e l = record e { answer = l.text; input_cursor = l.cursor }

-- a character goes into the answer, unless it has as many as it may
abbrev pub answer_lengthened : Data → ℕ → Editor → ℕ → Editor
answer_lengthened d limit e c = with_answer e (line_lengthened d limit (answer_line e) c)

-- ---- a line

-- the place of the paragraph and the unit whose numbers, from 1, the answer has; without a paragraph's number, of that unit of the
-- paragraph where the cursor is
abbrev pub target_place : Data → Editor → Target → ℕ
target_place d e target =
    place_of d e.content.text (unwrap_or target.paragraph (paragraph_number d e.content.text e.place + 1)) target.unit

-- the cursor goes to the place that an answer names; it stays where the answer has no digit
abbrev pub gone_to : Data → Editor → Option Target → Editor
gone_to d e None = e
gone_to d e (Some target) = with_place e (target_place d e target)

-- the question for a line is answered
abbrev pub after_going : Data → Editor → Editor
after_going d e = gone_to d (without_prompt e) (asked (chars e.answer))

-- a character `c` is typed as part of the answer; LF goes to the line
abbrev pub after_line_letter : Data → Editor → ℕ → Editor
after_line_letter d e c =
    if c == 0xA then after_going d e else if is_line_letter c then answer_lengthened d longest_line e c else e

-- ---- a character by name

-- `c` is put in at the place as Insert puts it, but begins an undo group, and a selection's text stays
abbrev pub with_character : Data → Editor → ℕ → Editor
with_character d e c =
    if fits e.content.text e.place e.place (encode_utf8 c)
    then with_typing (with_insertion d e (encode_utf8 c) false) (after_insertion (kind_of (d.class c)))
    else record e { message = Some TextFull }

-- the character `c` that a letter names is put in: with `closer`, which ends what `c` begins, around the region if there is one;
-- else `c` alone at the place
abbrev pub after_named : Data → Editor → ℕ → Option ℕ → Editor
after_named d e c None = with_character d e c
after_named d e c (Some closer) = if is_empty (region e) then with_character d e c else after_wrapping d e c closer

-- a letter is typed as the answer to the question for a name, with the character that it names; where it names none it may ask for
-- a code, LF ends the question, and any other does nothing
abbrev pub after_name_letter : Data → Editor → ℕ → Option ℕ → Editor
after_name_letter d e letter (Some c) = after_named d (without_prompt e) c (closing letter)
after_name_letter d e letter None = if asks_code letter then asking e Code else if letter == 0xA then without_prompt e else e

-- a character is typed there: as the letter on its key, if it answers nothing itself
abbrev pub after_name_key : Data → Editor → ℕ → Editor
after_name_key d e c = after_name_letter d e (name_letter c) (named (name_letter c))

-- ---- a character by code

-- the character whose code the answer writes is put in, if it writes one
abbrev pub after_code : Data → Editor → Option ℕ → Editor
after_code d e None = record e { message = Some NoSuchCharacter }
after_code d e (Some c) = with_character d e c

-- a hexadecimal digit is typed as part of the code, or LF, which ends it; any other character does nothing
abbrev pub after_code_letter : Data → Editor → ℕ → Editor
after_code_letter d e letter =
    if letter == 0xA
    then after_code d (without_prompt e) (coded e.answer)
    else if is_code_letter letter then answer_lengthened d longest_code e letter else e

-- a character is typed there: as the digit on its key, if it is none itself
abbrev pub after_code_key : Data → Editor → ℕ → Editor
after_code_key d e c = after_code_letter d e (code_letter c)

-- ---- a name to save under

-- a character is typed as part of the name, or LF, which saves under it; a tab or a character that separates paragraphs does nothing
abbrev pub after_file_letter : Data → Option StoreFault → Editor → ℕ → Editor
after_file_letter d fault e c =
    if c == 0xA
    then after_naming fault (without_prompt e)
    else if is_no_letter d c then e else answer_lengthened d longest_name e c

-- ---- any question with an input line

-- a character is typed as part of the answer
abbrev pub after_answer_letter : Data → Option StoreFault → Prompt → Editor → ℕ → Editor
after_answer_letter d fault Line e c = after_line_letter d e c
after_answer_letter d fault Code e c = after_code_key d e c
after_answer_letter d fault File e c = after_file_letter d fault e c
after_answer_letter d fault _ e c = e

-- the answer is a code
abbrev pub is_code_prompt : Prompt → Bool
is_code_prompt Code = true
is_code_prompt _ = false

-- an erasure of the last character
abbrev pub is_of_last : Erasure → Bool
is_of_last LastCharacter = true
is_of_last _ = false

-- the answer loses what an erasure removes; where that is nothing, an empty code becomes the question for a name again
abbrev pub after_erasing_answer : Data → Prompt → Editor → Erasure → Editor
after_erasing_answer d prompt e how =
    if is_code_prompt prompt && is_of_last how && (length e.answer == 0)
    then record e { prompt = Name }
    else if erases_nothing d how (answer_line e) then e else with_answer e (line_shortened d how (answer_line e))
