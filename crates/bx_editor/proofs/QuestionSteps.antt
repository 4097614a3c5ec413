-- What the keys of a question keep.
use Rattle.std.proofs.Common.{ℕ, Bool, true, false, List, [], length, Option, Some, None, if◌then◌else◌}
use Rattle.std.specs.Prelude.{◌==◌, ◌&&◌, chars, encode_utf8}
use Rattle.bx_keys.specs.declared.key.Key.{Key}
use Rattle.bx_store.specs.declared.store.StoreFault.{StoreFault}
use Rattle.bx_text.specs.Edits.{fits, fits_both}
use Rattle.bx_editor.specs.declared.undo_groups.typing.Typing.{Typing}
use Rattle.bx_editor.specs.undo_groups.Groups.{after_insertion, kind_of}
use Rattle.bx_ucd.specs.Data.{Data}
use Rattle.bx_view.specs.declared.moves.Move.{Move}
use Rattle.bx_view.specs.declared.moves.Vertical.{Vertical}
use Rattle.bx_editor.specs.declared.answer.Answer.{Answer}
use Rattle.bx_editor.specs.declared.answer.Answer.TheVariants.{Letter, Erases, Moves, PutsIn, Passes, GoesBack, Next, Previous, Replaces, Scrolls, Stays, Ends}
use Rattle.bx_editor.specs.declared.input_line.Erasure.{Erasure}
use Rattle.bx_editor.specs.declared.questions.line.Target.{Target}
use Rattle.bx_editor.specs.declared.questions.answers.Prompt.{Prompt}
use Rattle.bx_editor.specs.declared.questions.answers.Prompt.TheVariants.{Off, Line, Name, Code, File, Overwrite}
use Rattle.bx_editor.specs.questions.Answers.{asked, is_line_letter}
use Rattle.bx_editor.specs.questions.KeyLetters.{code_letter, name_letter}
use Rattle.bx_editor.specs.questions.Names.{coded, is_code_letter, asks_code, closing, named}
use Rattle.bx_editor.specs.declared.message.Message.{Message}
use Rattle.bx_editor.specs.declared.message.Message.TheVariants.{MoreThanOneLine, NoSuchCharacter, TextFull}
use Rattle.bx_editor.specs.Asking.{after_answer_letter, after_code, after_code_letter, after_erasing_answer, after_file_letter, after_going, after_line_letter}
use Rattle.bx_editor.specs.Asking.{after_name_letter, after_named, answer_lengthened, answer_line, asking, gone_to, is_code_prompt, is_of_last}
use Rattle.bx_editor.specs.Asking.{longest_code, longest_line, with_answer, with_character, without_prompt, after_wrapping, spans_lines, with_wrap}
use Rattle.bx_editor.specs.Before.{Before}
use Rattle.bx_editor.specs.Editor.{Editor, with_insertion, with_place, with_typing}
use Rattle.bx_editor.specs.InputLines.{after_taking, erases_nothing, is_no_letter, is_taken, line_lengthened, line_shortened, paste_behind}
use Rattle.bx_editor.specs.InputLines.{with_paste_behind}
use Rattle.bx_editor.specs.Keys.{after_pressing, answered_name, answered_question}
use Rattle.bx_editor.specs.LinePuts.{after_line_put}
use Rattle.bx_editor.specs.LineState.{LineState}
use Rattle.bx_editor.specs.Putting.{is_paste}
use Rattle.bx_editor.specs.Region.{is_empty, region}
use Rattle.bx_editor.specs.RowMoves.{after_wheel}
use Rattle.bx_editor.specs.Saving.{after_naming, longest_name}
use Rattle.bx_editor.specs.Search.{after_moving_in}

-- edits, moves and what is told, asked and answered keep this property of editors
pub record IsKept (d : Data) (P : Editor → Type 0) : Type 0 where
  pub inserted : (e : Editor) (new : List ℕ) → P e → P (with_insertion d e new false)
  pub wrapped : (e : Editor) (opener closer : List ℕ) → P e → P (with_wrap d e opener closer)
  pub told : (e : Editor) (message : Message) → P e → P (record e { message = Some message })
  pub placed : (e : Editor) (place : ℕ) → P e → P (with_place e place)
  pub typed : (e : Editor) (typing : Typing) → P e → P (with_typing e typing)
  pub asked : (e : Editor) (prompt : Prompt) (answer : List ℕ) (cursor : ℕ) → P e → P (record e { prompt = prompt; answer = answer; input_cursor = cursor })
  pub unasked : (e : Editor) → P e → P (without_prompt e)
  -- the cursor moves in the answer; a search that is on would have a line of its own
  pub moved : (e : Editor) (text : List ℕ) (m : Move) → P e → P (after_moving_in d e text m)
  -- the text was stored under the answer, or was not
  pub saved : (fault : Option StoreFault) (e : Editor) → P e → P (after_naming fault e)

module _ (d : Data) (P : Editor → Type 0) (keeps : IsKept d P) where
  either : (b : Bool) (p q : Editor) → P p → P q → P (if b then p else q)
  either true p q h k = h
  either false p q h k = k

  unasked : (e : Editor) → P e → P (without_prompt e)
  unasked e h = keeps.unasked e h

  answer : (e : Editor) (l : LineState) → P e → P (with_answer e l)
  answer e l h = keeps.asked e e.prompt l.text l.cursor h

  longer : (limit : ℕ) (e : Editor) (c : ℕ) → P e → P (answer_lengthened d limit e c)
  longer limit e c h = answer e (line_lengthened d limit (answer_line e) c) h

  -- ---- a line

  gone : (e : Editor) (target : Option Target) → P e → P (gone_to d e target)
  gone e None h = h
  gone e (Some target) h = keeps.placed e (gone_to d e (Some target)).place h

  line-letter : (e : Editor) (c : ℕ) → P e → P (after_line_letter d e c)
  line-letter e c h =
      let more = answer_lengthened d longest_line e c in
      either (c == 0xA) (after_going d e) (if is_line_letter c then more else e)
      (gone (without_prompt e) (asked (chars e.answer)) (unasked e h))
      (either (is_line_letter c) more e (longer longest_line e c h) h)

  -- ---- a character

  character : (e : Editor) (c : ℕ) → P e → P (with_character d e c)
  character e c h =
      let new = encode_utf8 c in
      let typing = after_insertion (kind_of (d.class c)) in
      let one = with_insertion d e new false in
      either (fits e.content.text e.place e.place new) (with_typing one typing) (record e { message = Some TextFull })
      (keeps.typed one typing (keeps.inserted e new h)) (keeps.told e TextFull h)

  wrapping : (e : Editor) (opener closer : ℕ) → P e → P (after_wrapping d e opener closer)
  wrapping e opener closer h =
      let front = encode_utf8 opener in
      let back = encode_utf8 closer in
      let many : Editor = record e { message = Some MoreThanOneLine } in
      let full : Editor = record e { message = Some TextFull } in
      either (spans_lines d e) many (if fits_both e.content.text front back then with_wrap d e front back else full) (keeps.told e MoreThanOneLine h)
      (either (fits_both e.content.text front back) (with_wrap d e front back) full (keeps.wrapped e front back h) (keeps.told e TextFull h))

  named-one : (e : Editor) (c : ℕ) (closer : Option ℕ) → P e → P (after_named d e c closer)
  named-one e c None h = character e c h
  named-one e c (Some closer) h =
      either (is_empty (region e)) (with_character d e c) (after_wrapping d e c closer) (character e c h) (wrapping e c closer h)

  pub name-letter-keeps : (e : Editor) (letter : ℕ) (c : Option ℕ) → P e → P (after_name_letter d e letter c)
  name-letter-keeps e letter (Some c) h = named-one (without_prompt e) c (closing letter) (unasked e h)
  name-letter-keeps e letter None h =
      either (asks_code letter) (asking e Code) (if letter == 0xA then without_prompt e else e) (keeps.asked e Code [] 0 h)
      (either (letter == 0xA) (without_prompt e) e (unasked e h) h)

  coded-one : (e : Editor) (c : Option ℕ) → P e → P (after_code d e c)
  coded-one e None h = keeps.told e NoSuchCharacter h
  coded-one e (Some c) h = character e c h

  code-letter : (e : Editor) (letter : ℕ) → P e → P (after_code_letter d e letter)
  code-letter e letter h =
      let more = answer_lengthened d longest_code e letter in
      either (letter == 0xA) (after_code d (without_prompt e) (coded e.answer)) (if is_code_letter letter then more else e)
      (coded-one (without_prompt e) (coded e.answer) (unasked e h))
      (either (is_code_letter letter) more e (longer longest_code e letter h) h)

  -- ---- a name to save under

  file-letter : (fault : Option StoreFault) (e : Editor) (c : ℕ) → P e → P (after_file_letter d fault e c)
  file-letter fault e c h =
      let more = answer_lengthened d longest_name e c in
      either (c == 0xA) (after_naming fault (without_prompt e)) (if is_no_letter d c then e else more)
      (keeps.saved fault (without_prompt e) (unasked e h))
      (either (is_no_letter d c) e more h (longer longest_name e c h))

  -- ---- any question

  pub letter-keeps : (fault : Option StoreFault) (prompt : Prompt) (e : Editor) (c : ℕ) → P e → P (after_answer_letter d fault prompt e c)
  letter-keeps fault Off e c h = h
  letter-keeps fault Line e c h = line-letter e c h
  letter-keeps fault Name e c h = h
  letter-keeps fault Code e c h = code-letter e (code_letter c) h
  letter-keeps fault File e c h = file-letter fault e c h
  letter-keeps fault Overwrite e c h = h

  paste-behind : (typing : Option Typing) (e : Editor) → P e → P (with_paste_behind typing e)
  paste-behind None e h = h
  paste-behind (Some typing) e h = keeps.typed e typing h

  pub taking : (typing : Typing) (c : ℕ) (e new : Editor) → P e → P new → P (after_taking d typing c e new)
  taking typing c e new h k =
      paste-behind (paste_behind d typing c) (if is_taken d typing c then new else e) (either (is_taken d typing c) new e k h)

  pub erasing-keeps : (prompt : Prompt) (e : Editor) (how : Erasure) → P e → P (after_erasing_answer d prompt e how)
  erasing-keeps prompt e how h =
      let l = line_shortened d how (answer_line e) in
      either (is_code_prompt prompt && is_of_last how && (length e.answer == 0)) (record e { prompt = Name })
      (if erases_nothing d how (answer_line e) then e else with_answer e l) (keeps.asked e Name e.answer e.input_cursor h)
      (either (erases_nothing d how (answer_line e)) e (with_answer e l) h (answer e l h))

  -- a key that answers a question with an input line; `pressed`: one that ends it; `wheeled`: the wheel; `put`: the held text
  pub question-keeps : (fault : Option StoreFault) (was : Before) (e : Editor) (key : Key) (one : Answer) → P e
      → P (after_pressing d fault was (without_prompt e) key) → ((way : Vertical) → P (after_wheel d was e way)) → P (after_line_put d e)
      → P (answered_question d fault was e key one)
  question-keeps fault was e key (Letter c) h pressed wheeled put =
      taking was.typing c e (after_answer_letter d fault e.prompt e c) h (letter-keeps fault e.prompt e c h)
  question-keeps fault was e key (Erases how) h pressed wheeled put = erasing-keeps e.prompt e how h
  question-keeps fault was e key (Moves m) h pressed wheeled put = keeps.moved e e.answer m h
  question-keeps fault was e key PutsIn h pressed wheeled put = put
  question-keeps fault was e key Passes h pressed wheeled put = h
  question-keeps fault was e key GoesBack h pressed wheeled put = unasked e h
  question-keeps fault was e key Next h pressed wheeled put = pressed
  question-keeps fault was e key Previous h pressed wheeled put = pressed
  question-keeps fault was e key Replaces h pressed wheeled put = pressed
  question-keeps fault was e key (Scrolls way) h pressed wheeled put = wheeled way
  question-keeps fault was e key Stays h pressed wheeled put = keeps.typed e was.typing h
  question-keeps fault was e key Ends h pressed wheeled put = pressed

  -- a key that answers the question for a character's name
  pub name-keeps : (fault : Option StoreFault) (was : Before) (e : Editor) (key : Key) (one : Answer) → P e
      → P (after_pressing d fault was (without_prompt e) key) → ((way : Vertical) → P (after_wheel d was e way))
      → P (answered_name d fault was e key one)
  name-keeps fault was e key (Letter c) h pressed wheeled =
      let letter = name_letter c in
      either (is_paste was.typing) (with_typing e was.typing) (after_name_letter d e letter (named letter)) (keeps.typed e was.typing h)
      (name-letter-keeps e letter (named letter) h)
  name-keeps fault was e key (Erases how) h pressed wheeled = h
  name-keeps fault was e key (Moves m) h pressed wheeled = pressed
  name-keeps fault was e key PutsIn h pressed wheeled = pressed
  name-keeps fault was e key Passes h pressed wheeled = pressed
  name-keeps fault was e key GoesBack h pressed wheeled = unasked e h
  name-keeps fault was e key Next h pressed wheeled = pressed
  name-keeps fault was e key Previous h pressed wheeled = pressed
  name-keeps fault was e key Replaces h pressed wheeled = pressed
  name-keeps fault was e key (Scrolls way) h pressed wheeled = wheeled way
  name-keeps fault was e key Stays h pressed wheeled = keeps.typed e was.typing h
  name-keeps fault was e key Ends h pressed wheeled = pressed
