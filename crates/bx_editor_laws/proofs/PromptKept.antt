-- A prompt keeps what is typed there: no key of an input line but Enter ends it, or changes the text.
use Rattle.std.proofs.Common.{◌≡◌, ◌≢◌, ◌∙◌, ℕ, Bool, true, false, List, length, Option, Some, None, refl, sym, ap, subst, if◌then◌else◌}
use Rattle.std.specs.Prelude.{◌==◌, ◌&&◌, ◌||◌, not}
use Rattle.bx_keys.specs.declared.key.Key.{Key}
use Rattle.bx_keys.specs.declared.key.Key.TheVariants.{Insert, NewLine, Erase, ErasePoint, Delete, EraseWord, DeleteWord, Back, Forward, Left, Right}
use Rattle.bx_keys.specs.declared.key.Key.TheVariants.{WordLeft, WordRight, RowHome, RowEnd, Put, Up, Down, LineUp, LineDown, Select, Mark, Cut}
use Rattle.bx_keys.specs.declared.key.Key.TheVariants.{PasteStart, PasteEnd}
use Rattle.bx_store.specs.declared.store.StoreFault.{StoreFault}
use Rattle.bx_text.specs.index.Paragraphs.{is_separator}
use Rattle.bx_ucd.specs.Data.{Data}
use Rattle.bx_editor.specs.declared.answer.Answer.{Answer}
use Rattle.bx_editor.specs.declared.answer.Answer.TheVariants as answers
use Rattle.bx_view.specs.declared.moves.Move.{Move}
use Rattle.bx_editor.specs.declared.message.Message.TheVariants.{NothingToPut, ViewOnly}
use Rattle.bx_editor.specs.declared.questions.answers.Prompt.{Prompt}
use Rattle.bx_editor.specs.declared.questions.answers.Prompt.TheVariants as prompts
use Rattle.bx_editor.specs.declared.search_state.SearchState.{SearchState}
use Rattle.bx_editor.specs.declared.search_state.SearchState.TheVariants.{Off, Begun, Typed, WithBegun, WithTyped, Replacing}
use Rattle.bx_editor.specs.declared.undo_groups.typing.Typing.{Typing}
use Rattle.bx_editor.specs.declared.undo_groups.typing.Typing.TheVariants as typings
use Rattle.bx_editor.specs.Answering.{answer_of}
use Rattle.bx_editor.specs.Asking.{after_answer_letter, after_code, after_going, answer_lengthened, answer_line, is_code_prompt}
use Rattle.bx_editor.specs.Asking.{is_of_last, longest_code, longest_line, with_answer, without_prompt}
use Rattle.bx_editor.specs.Before.{Before, before}
use Rattle.bx_editor.specs.Editor.{Editor, cleared, unpressed, with_typing}
use Rattle.bx_editor.specs.InputLines.{after_taking, ends_line, erases_nothing, input_line_of, is_at_end, is_no_letter, line_lengthened, line_shortened, prompt_line}
use Rattle.bx_editor.specs.Keys.{after_any, after_key, answered, answered_question, answered_replacement, as_left, is_typed, refuses_replacing}
use Rattle.bx_editor.specs.Functions.{is_told_key}
use Rattle.bx_editor.specs.LinePuts.{after_line_put, typed_in}
use Rattle.bx_editor.specs.Putting.{after_paste_end, after_paste_start, ended_with, paste_begun, refuses_paste, with_paste}
use Rattle.bx_editor.specs.Replacing.{after_replacement_letter, after_showing, after_sought_end, after_sought_letter, replacement_line, replacement_typed}
use Rattle.bx_editor.specs.Replacing.{with_replacement}
use Rattle.bx_editor.specs.Saving.{after_naming, longest_name}
use Rattle.bx_editor.specs.Search.{after_letter, after_moving_in, as_typed, kept, longest_query, query_line, search_on, with_query}
use Rattle.bx_editor.specs.questions.Answers.{is_line_letter}
use Rattle.bx_editor.specs.questions.KeyLetters.{code_letter}
use Rattle.bx_editor.specs.questions.Names.{coded, is_code_letter}
use Rattle.bx_editor.proofs.LinePutsLeft.{code-letter-kept}
use Rattle.bx_editor_laws.specs.InputLaws.{KeepsPrompt, LineKeysKeepPrompt, is_enter, is_of_line}
use Rattle.bx_editor_laws.proofs.KeyEnds.{user-key}
use Rattle.bx_editor_laws.proofs.LineKept.{in-line-keeps}
use Rattle.std.proofs.lemmas.Bool.{not-true}

-- ---- what is kept

-- with the same text, search and question
same : (e new : Editor) → new.content ≡ e.content → new.search_state ≡ e.search_state → new.prompt ≡ e.prompt → KeepsPrompt e new
same e new text search question = record {
  text = text;
  asked = record { search = λ on off. on (sym search ∙ off); question = λ on off. on (sym question ∙ off) };
}

-- with a search that is on
searching : (e new : Editor) → new.content ≡ e.content → new.search_state ≢ Off → new.prompt ≡ e.prompt → KeepsPrompt e new
searching e new text on question = record { text = text; asked = record { search = λ was. on; question = λ was off. was (sym question ∙ off) } }

still : (e : Editor) → KeepsPrompt e e
still e = same e e refl refl refl

next : (e x new : Editor) → KeepsPrompt e x → KeepsPrompt x new → KeepsPrompt e new
next e x new first second = record {
  text = second.text ∙ first.text;
  asked = record {
    search = λ on. second.asked.search (first.asked.search on);
    question = λ on. second.asked.question (first.asked.question on);
  };
}

either : (e : Editor) (b : Bool) (p q : Editor) → KeepsPrompt e p → KeepsPrompt e q → KeepsPrompt e (if b then p else q)
either e true p q h k = h
either e false p q h k = k

other : (e : Editor) (b : Bool) (p q : Editor) → b ≡ false → KeepsPrompt e q → KeepsPrompt e (if b then p else q)
other e b p q not-so k = subst (λ t. KeepsPrompt e (if t then p else q)) (sym not-so) k

-- ---- a character other than a line end

typed-not-off : Typed ≢ Off
typed-not-off is = cc is

with-not-off : WithTyped ≢ Off
with-not-off is = cc is

sought-on : (d : Data) (grows : Bool) (e x : Editor) → x.content ≡ e.content → x.search_state ≢ Off → x.prompt ≡ e.prompt → KeepsPrompt e (search_on d grows x)
sought-on d true e x text on question = searching e (search_on d true x) text on question
sought-on d false e x text on question = searching e (search_on d false x) text on question

query-letter : (d : Data) (e : Editor) (c : ℕ) → KeepsPrompt e (after_letter d e c)
query-letter d e c =
    let l = kept e.search_state (query_line e) in
    let longer = with_query e (line_lengthened d longest_query l c) in
    either e (is_no_letter d c) e (search_on d (is_at_end l) longer) (still e) (sought-on d (is_at_end l) e longer refl typed-not-off refl)

replacement-letter : (d : Data) (e : Editor) (c : ℕ) → KeepsPrompt e (replacement_typed d e c)
replacement-letter d e c =
    let longer = with_replacement e (line_lengthened d longest_query (kept e.search_state (replacement_line e)) c) in
    either e (is_no_letter d c) e longer (still e) (searching e longer refl with-not-off refl)

lengthened : (d : Data) (limit : ℕ) (e : Editor) (c : ℕ) → KeepsPrompt e (answer_lengthened d limit e c)
lengthened d limit e c = same e (answer_lengthened d limit e c) refl refl refl

answer-letter : (d : Data) (fault : Option StoreFault) (prompt : Prompt) (e : Editor) (c : ℕ) → (c == 0xA) ≡ false
    → KeepsPrompt e (after_answer_letter d fault prompt e c)
answer-letter d fault prompts.Line e c inside =
    let more = answer_lengthened d longest_line e c in
    other e (c == 0xA) (after_going d e) (if is_line_letter c then more else e) inside
    (either e (is_line_letter c) more e (lengthened d longest_line e c) (still e))
answer-letter d fault prompts.Code e c inside =
    let digit = code_letter c in
    let more = answer_lengthened d longest_code e digit in
    other e (digit == 0xA) (after_code d (without_prompt e) (coded e.answer)) (if is_code_letter digit then more else e)
    (not-true (digit == 0xA) (code-letter-kept c (ap not inside)))
    (either e (is_code_letter digit) more e (lengthened d longest_code e digit) (still e))
answer-letter d fault prompts.File e c inside =
    let more = answer_lengthened d longest_name e c in
    other e (c == 0xA) (after_naming fault (without_prompt e)) (if is_no_letter d c then e else more) inside
    (either e (is_no_letter d c) e more (still e) (lengthened d longest_name e c))
answer-letter d fault prompts.Off e c inside = still e
answer-letter d fault prompts.Name e c inside = still e
answer-letter d fault prompts.Overwrite e c inside = still e

search-letter : (d : Data) (search_state : SearchState) (e : Editor) (c : ℕ) → KeepsPrompt e (typed_in d prompts.Off search_state e c)
search-letter d Off e c = still e
search-letter d Begun e c = query-letter d e c
search-letter d Typed e c = query-letter d e c
search-letter d WithBegun e c = replacement-letter d e c
search-letter d WithTyped e c = replacement-letter d e c
search-letter d Replacing e c = still e

line-letter : (d : Data) (prompt : Prompt) (search_state : SearchState) (e : Editor) (c : ℕ) → (c == 0xA) ≡ false
    → KeepsPrompt e (typed_in d prompt search_state e c)
line-letter d prompts.Off search_state e c inside = search-letter d search_state e c
line-letter d prompts.Line search_state e c inside = answer-letter d None prompts.Line e c inside
line-letter d prompts.Name search_state e c inside = answer-letter d None prompts.Name e c inside
line-letter d prompts.Code search_state e c inside = answer-letter d None prompts.Code e c inside
line-letter d prompts.File search_state e c inside = answer-letter d None prompts.File e c inside
line-letter d prompts.Overwrite search_state e c inside = answer-letter d None prompts.Overwrite e c inside

line-put : (d : Data) (e : Editor) → KeepsPrompt e (after_line_put d e)
line-put d e =
    in-line-keeps d (KeepsPrompt e) (record {
      cleared = λ x h. next e x (cleared x) h (same x (cleared x) refl refl refl);
      told = λ x h. let new : Editor = record x { message = Some NothingToPut } in next e x new h (same x new refl refl refl);
      typed = λ x c inside h.
          let new = typed_in d x.prompt x.search_state x c in next e x new h (line-letter d x.prompt x.search_state x c (not-true (c == 0xA) inside));
    }) e (still e)

-- ---- a character that is typed or pasted

-- what such a key means in an input line; a typed line end ends it
abbrev keeps_line : Typing → Answer → Bool
keeps_line typing (answers.Letter c) = not ((c == 0xA) && is_typed typing)
keeps_line typing (answers.Erases how) = true
keeps_line typing (answers.Moves m) = true
keeps_line typing answers.PutsIn = true
keeps_line typing answers.Passes = true
keeps_line typing _ = false

inside-typed : (b : Bool) → not (b && true) ≡ true → b ≡ false
inside-typed true h = absurd (cc h)
inside-typed false h = refl

with-typing : (e new : Editor) (typing : Typing) → KeepsPrompt e new → KeepsPrompt e (with_typing new typing)
with-typing e new typing h = next e new (with_typing new typing) h (same new (with_typing new typing) refl refl refl)

pasted-by : (d : Data) (c : ℕ) (e new : Editor) (typing : Typing) (end separator : Bool) → (end ≡ false → KeepsPrompt e new)
    → KeepsPrompt e (with_typing (if not (end || separator) then new else e) typing)
pasted-by d c e new typing true separator h = with-typing e e typing (still e)
pasted-by d c e new typing false true h = with-typing e e typing (still e)
pasted-by d c e new typing false false h = with-typing e new typing (h refl)

taking : (d : Data) (typing : Typing) (c : ℕ) (e new : Editor) → keeps_line typing (answers.Letter c) ≡ true → ((c == 0xA) ≡ false → KeepsPrompt e new)
    → KeepsPrompt e (after_taking d typing c e new)
taking d typings.Paste c e new keeps h =
    pasted-by d c e new (if ends_line d c then typings.Spent else typings.Paste) (c == 0xA) (is_separator (d.class c)) h
taking d typings.Spent c e new keeps h = with-typing e e typings.Spent (still e)
taking d typings.Off c e new keeps h = h (inside-typed (c == 0xA) keeps)
taking d typings.Word c e new keeps h = h (inside-typed (c == 0xA) keeps)
taking d typings.Blanks c e new keeps h = h (inside-typed (c == 0xA) keeps)
taking d typings.Erasing c e new keeps h = h (inside-typed (c == 0xA) keeps)
taking d typings.Deleting c e new keeps h = h (inside-typed (c == 0xA) keeps)

-- ---- any key of an input line

moved-search : (search_state : SearchState) → search_state ≢ Off → (as_typed search_state) ≢ Off
moved-search Off on is = on is
moved-search Begun on is = cc is
moved-search Typed on is = cc is
moved-search WithBegun on is = cc is
moved-search WithTyped on is = cc is
moved-search Replacing on is = cc is

moving : (d : Data) (e : Editor) (text : List ℕ) (m : Move) → KeepsPrompt e (after_moving_in d e text m)
moving d e text m = record { text = refl; asked = record { search = λ on. moved-search e.search_state on; question = λ on. on } }

module _ (d : Data) (fault : Option StoreFault) (was : Before) (e : Editor) (key : Key) where
  query : (one : Answer) → keeps_line was.typing one ≡ true → KeepsPrompt e (answered d fault was e key one)
  query (answers.Letter c) keeps =
      taking d was.typing c e (after_sought_letter d e c) keeps
      (λ inside. other e (c == 0xA) (after_sought_end d e) (after_letter d e c) inside (query-letter d e c))
  query (answers.Erases how) keeps =
      let shorter = with_query e (line_shortened d how (query_line e)) in
      either e (erases_nothing d how (query_line e)) e (search_on d false shorter) (still e) (sought-on d false e shorter refl typed-not-off refl)
  query (answers.Moves m) keeps = moving d e e.query m
  query answers.PutsIn keeps = line-put d e
  query answers.Passes keeps = still e
  query _ keeps = absurd (cc keeps)

  replacement : (one : Answer) → keeps_line was.typing one ≡ true → KeepsPrompt e (answered_replacement d fault was e key one)
  replacement (answers.Letter c) keeps =
      taking d was.typing c e (after_replacement_letter d e c) keeps
      (λ inside. other e (c == 0xA) (after_showing d e) (replacement_typed d e c) inside (replacement-letter d e c))
  replacement (answers.Erases how) keeps =
      let shorter = with_replacement e (line_shortened d how (replacement_line e)) in
      either e (erases_nothing d how (replacement_line e)) e shorter (still e) (searching e shorter refl with-not-off refl)
  replacement (answers.Moves m) keeps = moving d e e.replacement m
  replacement answers.PutsIn keeps = line-put d e
  replacement answers.Passes keeps = still e
  replacement _ keeps = absurd (cc keeps)

  named : KeepsPrompt e (record e { prompt = prompts.Name })
  named = record { text = refl; asked = record { search = λ on. on; question = λ on is. cc is } }

  question : (one : Answer) → keeps_line was.typing one ≡ true → KeepsPrompt e (answered_question d fault was e key one)
  question (answers.Letter c) keeps =
      taking d was.typing c e (after_answer_letter d fault e.prompt e c) keeps (λ inside. answer-letter d fault e.prompt e c inside)
  question (answers.Erases how) keeps =
      let l = answer_line e in
      let shorter = with_answer e (line_shortened d how l) in
      either e (is_code_prompt e.prompt && is_of_last how && (length e.answer == 0)) (record e { prompt = prompts.Name })
      (if erases_nothing d how l then e else shorter) named
      (either e (erases_nothing d how l) e shorter (still e) (same e shorter refl refl refl))
  question (answers.Moves m) keeps = moving d e e.answer m
  question answers.PutsIn keeps = line-put d e
  question answers.Passes keeps = still e
  question _ keeps = absurd (cc keeps)

  any : (prompt : Prompt) (search_state : SearchState) (line : List ℕ) → prompt_line prompt search_state e.query e.replacement e.answer ≡ Some line
      → keeps_line was.typing (answer_of key) ≡ true → KeepsPrompt e (after_any d fault was prompt search_state e key)
  any prompts.Off Off line is keeps = absurd (cc is)
  any prompts.Off Begun line is keeps = query (answer_of key) keeps
  any prompts.Off Typed line is keeps = query (answer_of key) keeps
  any prompts.Off WithBegun line is keeps = replacement (answer_of key) keeps
  any prompts.Off WithTyped line is keeps = replacement (answer_of key) keeps
  any prompts.Off Replacing line is keeps = absurd (cc is)
  any prompts.Line search_state line is keeps = question (answer_of key) keeps
  any prompts.Name search_state line is keeps = absurd (cc is)
  any prompts.Code search_state line is keeps = question (answer_of key) keeps
  any prompts.File search_state line is keeps = question (answer_of key) keeps
  any prompts.Overwrite search_state line is keeps = absurd (cc is)

-- ---- the law

module _ (d : Data) (fault : Option StoreFault) (e : Editor) (line : List ℕ) (shown : input_line_of e ≡ Some line) (settled : e.pasted ≡ None) where
  left : (key : Key) (new : Editor) → KeepsPrompt (cleared e) new → KeepsPrompt e (as_left key new)
  left key new h = record { text = h.text; asked = record { search = h.asked.search; question = h.asked.question } }

  pressed : (key : Key) → is_told_key key ≡ false → refuses_replacing e key ≡ false → keeps_line e.typing (answer_of key) ≡ true
      → KeepsPrompt e (after_key d fault e key)
  pressed key one accepted keeps =
      subst (KeepsPrompt e) (sym (user-key d fault e key settled one accepted))
      (left key (after_any d fault (before e) e.prompt e.search_state (cleared e) key)
      (any d fault (before e) (cleared e) key e.prompt e.search_state line shown keeps))

  pasting : KeepsPrompt e (unpressed (with_typing e typings.Paste))
  pasting = same e (unpressed (with_typing e typings.Paste)) refl refl refl

  begun : (prompt : Prompt) (search_state : SearchState) (pasted : Option (List ℕ))
      → KeepsPrompt e (unpressed (with_typing (paste_begun prompt search_state pasted e) typings.Paste))
  begun prompts.Off Off None = same e (unpressed (with_typing (with_paste e) typings.Paste)) refl refl refl
  begun prompts.Off Off (Some list) = pasting
  begun prompts.Off Begun pasted = pasting
  begun prompts.Off Typed pasted = pasting
  begun prompts.Off WithBegun pasted = pasting
  begun prompts.Off WithTyped pasted = pasting
  begun prompts.Off Replacing pasted = pasting
  begun prompts.Line search_state pasted = pasting
  begun prompts.Name search_state pasted = pasting
  begun prompts.Code search_state pasted = pasting
  begun prompts.File search_state pasted = pasting
  begun prompts.Overwrite search_state pasted = pasting

  start : KeepsPrompt e (after_paste_start e)
  start =
      either e (refuses_paste e) (unpressed (record e { message = Some ViewOnly })) (unpressed (with_typing (paste_begun e.prompt e.search_state e.pasted e) typings.Paste))
      (same e (unpressed (record e { message = Some ViewOnly })) refl refl refl)
      (begun e.prompt e.search_state e.pasted)

  finish : KeepsPrompt e (after_paste_end d e)
  finish =
      subst (λ p. KeepsPrompt e (unpressed (with_typing (ended_with d e p) typings.Off))) (sym settled)
      (same e (unpressed (with_typing e typings.Off)) refl refl refl)

  keeps : (key : Key) → is_of_line key ≡ true → is_enter e.typing key ≡ false → KeepsPrompt e (after_key d fault e key)
  keeps (Insert c) of ends = pressed (Insert c) refl refl (ap not ends)
  keeps NewLine of ends = pressed NewLine refl refl (ap not ends)
  keeps Erase of ends = pressed Erase refl refl refl
  keeps ErasePoint of ends = pressed ErasePoint refl refl refl
  keeps Delete of ends = pressed Delete refl refl refl
  keeps EraseWord of ends = pressed EraseWord refl refl refl
  keeps DeleteWord of ends = pressed DeleteWord refl refl refl
  keeps Back of ends = pressed Back refl refl refl
  keeps Forward of ends = pressed Forward refl refl refl
  keeps Left of ends = pressed Left refl refl refl
  keeps Right of ends = pressed Right refl refl refl
  keeps WordLeft of ends = pressed WordLeft refl refl refl
  keeps WordRight of ends = pressed WordRight refl refl refl
  keeps RowHome of ends = pressed RowHome refl refl refl
  keeps RowEnd of ends = pressed RowEnd refl refl refl
  keeps Put of ends = pressed Put refl refl refl
  keeps Up of ends = pressed Up refl refl refl
  keeps Down of ends = pressed Down refl refl refl
  keeps LineUp of ends = pressed LineUp refl refl refl
  keeps LineDown of ends = pressed LineDown refl refl refl
  keeps Select of ends = pressed Select refl refl refl
  keeps Mark of ends = pressed Mark refl refl refl
  keeps Cut of ends = pressed Cut refl refl refl
  keeps PasteStart of ends = start
  keeps PasteEnd of ends = finish
  keeps _ of ends = absurd (cc of)

pub line-keys-keep-prompt : LineKeysKeepPrompt
line-keys-keep-prompt d fault e line key shown settled of ends = keeps d fault e line shown settled key of ends
