-- Whatever characters are typed, an answer stays short, and its prompt is shown.
use Rattle.std.proofs.Common.{◌≡◌, ◌∙◌, ◌∷◌}
use Rattle.std.proofs.Common.{ℕ, zero, suc, Bool, true, false, List, [], length, take, chars, encode_utf8, IsUtf8, Option, Some, None, IfSome, refl, sym, ap, subst, arith, if◌then◌else◌}
use Rattle.std.specs.Prelude.{◌≢◌, ◌==◌, ◌&&◌, fold}
use Rattle.std.specs.Char.{IsScalar}
use lib.Utf8.{scalar, scalars}
use Rattle.std.proofs.lemmas.Bool.{and_from, and_parts, eqb-true}
use Rattle.std.proofs.lemmas.Bool.Decides.{nat_tests}
use Rattle.std.proofs.lemmas.Str.{scalars-chars, IsUtf8-nil}
use Rattle.bx_keys.specs.declared.key.Key.{Key}
use Rattle.bx_keys.specs.declared.key.Key.TheVariants.{Insert, NewLine, Put, Repaint}
use Rattle.bx_store.specs.declared.store.StoreFault.{StoreFault}
use Rattle.bx_text.specs.Edits.{fits, fits_both}
use Rattle.bx_ucd.specs.Data.{Data}
use Rattle.bx_view.specs.Moves.{row_home}
use Rattle.bx_view.specs.Places.{IsTextPlace}
use Rattle.bx_view.specs.declared.moves.Vertical.{Vertical}
use Rattle.bx_editor.specs.declared.answer.Answer.{Answer}
use Rattle.bx_editor.specs.declared.answer.Answer.TheVariants.{Letter, Erases, Moves, PutsIn, Passes, GoesBack, Next, Previous, Replaces, Scrolls, Stays, Ends}
use Rattle.bx_editor.specs.declared.input_line.Erasure.{Erasure}
use Rattle.bx_editor.specs.declared.message.Message.TheVariants as messages
use Rattle.bx_editor.specs.declared.questions.answers.Prompt.{Prompt}
use Rattle.bx_editor.specs.declared.questions.answers.Prompt.TheVariants as prompts
use Rattle.bx_editor.specs.declared.questions.line.Target.{Target}
use Rattle.bx_editor.specs.declared.search_state.SearchState.{SearchState}
use Rattle.bx_editor.specs.declared.search_state.SearchState.TheVariants.{Off, Begun, Typed, WithBegun, WithTyped, Replacing}
use Rattle.bx_editor.specs.declared.undo_groups.typing.Typing.{Typing}
use Rattle.bx_editor.specs.Answering.{answer_of, without_line}
use Rattle.bx_editor.specs.Answers.{IsAnswer, limit_of}
use Rattle.bx_editor.specs.Asking.{after_answer_letter, after_code, after_code_letter, after_erasing_answer, after_file_letter, after_going, after_line_letter}
use Rattle.bx_editor.specs.Asking.{after_name_key, after_name_letter, after_named, after_wrapping, answer_lengthened, answer_line, asking, gone_to, is_code_prompt}
use Rattle.bx_editor.specs.Asking.{is_of_last, longest_code, longest_line, spans_lines, with_answer, with_character, with_wrap, without_prompt}
use Rattle.bx_editor.specs.Before.{Before, before}
use Rattle.bx_editor.specs.Editor.{Editor, at_start, cleared, rows, with_insertion, with_typing}
use Rattle.bx_editor.specs.Effects.{Effect, AsksLine, AsksName, AsksFile, AsksOverwrite, Refuses, Saves, Wheels, by}
use Rattle.bx_editor.specs.InputLines.{after_taking, erases_nothing, first_line, input_line_of, is_no_letter, is_taken, line_lengthened}
use Rattle.bx_editor.specs.InputLines.{line_shortened, paste_behind, prompt_line, takes_line, with_paste_behind}
use Rattle.bx_editor.specs.Keys.{after_any, after_key, after_press, after_pressing, after_user, allowed_effect}
use Rattle.bx_editor.specs.Keys.{answered, answered_match, answered_name, answered_overwrite, answered_question, answered_replacement, refuses_replacing}
use Rattle.bx_editor.specs.LinePuts.{after_line_put, typed_alone, typed_in, typed_one_by_one}
use Rattle.bx_editor.specs.Putting.{is_paste, paste_ended}
use Rattle.bx_editor.specs.Region.{is_empty, region}
use Rattle.bx_editor.specs.RowMoves.{after_wheel, carried, shows_place, wheel_top}
use Rattle.bx_editor.specs.Saving.{after_confirming, after_deciding, after_naming, after_save, after_saving, after_saving_under, asking_name}
use Rattle.bx_editor.specs.Saving.{confirms, is_changed, is_nameless, longest_name, takes_name, with_answered_name, without_answer}
use Rattle.bx_editor.specs.Search.{without_search}
use Rattle.bx_editor.specs.Status.{row_text}
use Rattle.bx_editor.specs.undo_groups.Groups.{after_insertion, kind_of}
use Rattle.bx_editor.specs.questions.Answers.{asked, is_line_letter}
use Rattle.bx_editor.specs.questions.KeyLetters.{code_letter, name_letter}
use Rattle.bx_editor.specs.questions.Names.{asks_code, closing, coded, is_code_letter, named}
use Rattle.bx_editor.proofs.AnswersKept.{answer-left, answer-over, empty-answer, empty-name}
use Rattle.bx_editor.proofs.Begin.{begin-is-place}
use Rattle.bx_editor.proofs.EffectsKept.{IsKeptPasting, start-keeps}
use Rattle.bx_editor.proofs.InSearch.{each-key}
use Rattle.bx_editor.proofs.LinePutsKept.{line-put-keeps}
use Rattle.bx_editor.proofs.QuestionKept.{effect-keeps}
use Rattle.bx_editor.proofs.Searches.{IsKeptSeeking, match-keeps, replacement-keeps, query-keeps, typed-in-search}
use Rattle.bx_editor_laws.specs.AskingLaws.{AreCharacters, PromptsAreShown, TypesCharacters}
use Rattle.bx_editor_laws.specs.Laws.{after_typing}
use Rattle.bx_editor_laws.proofs.AnswerLines.{IsLine, line-longer, line-moves, line-shorter}
use Rattle.bx_editor_laws.proofs.PasteEnded.{ended-by}
use Rattle.bx_editor_laws.proofs.PromptGlyphs.{prompt-shown}

-- ---- characters that are typed

scalars-take : (n : ℕ) (cs : List ℕ) → scalars cs ≡ true → scalars (take n cs) ≡ true
scalars-take zero cs h = refl
scalars-take (suc n) [] h = refl
scalars-take (suc n) (c ∷ cs) h = let both = and_parts (scalar c) (scalars cs) h in and_from (scalar c) (scalars (take n cs)) both.0 (scalars-take n cs both.1)

-- a letter of an answer is a character
line-scalar : (c : ℕ) → is_line_letter c ≡ true → IsScalar c
line-scalar c h = grind (arith, nat_tests, h)

code-scalar : (c : ℕ) → is_code_letter c ≡ true → IsScalar c
code-scalar c h = grind (arith, nat_tests, h)

-- what a key types, by what it means in an input line; `held` is the held text
abbrev Fits : List ℕ → Answer → Type 0
Fits held (Letter c) = IsScalar c
Fits held PutsIn = IsUtf8 held
Fits held _ = Unit {0}

fits-of : (e : Editor) (key : Key) → TypesCharacters e key → Fits e.held (answer_of key)
fits-of e (Insert c) h = h
fits-of e NewLine h = refl
fits-of e Put h = h
fits-of e _ h = tt

-- ---- an answer

-- UTF-8 and short, with the cursor at one of its places if it is an input line
record IsGood (d : Data) (prompt : Prompt) (answer : List ℕ) (cursor : ℕ) : Type 0 where
  utf8 : IsUtf8 answer
  short : IsAnswer prompt answer
  stands : takes_line prompt ≡ true → IsTextPlace d answer cursor

last-of : (a b c : Bool) → (a && b && c) ≡ true → c ≡ true
last-of true true c h = h
last-of true false c h = absurd (cc h)
last-of false b c h = absurd (cc h)

-- nothing is asked, and the latest answer is as short as any
abbrev Free : Editor → Type 0
Free e = (e.prompt ≡ prompts.Off) × (IsUtf8 e.answer × IsAnswer prompts.Off e.answer)

module _ (d : Data) where
  abbrev Good : Editor → Type 0
  Good e = IsGood d e.prompt e.answer e.input_cursor

  good-empty : (prompt : Prompt) → IsGood d prompt [] 0
  good-empty prompt = record { utf8 = IsUtf8-nil; short = empty-answer prompt [] refl; stands = λ takes. begin-is-place d [] }

  none-stands : (prompt : Prompt) (answer : List ℕ) (cursor : ℕ) → prompt ≡ prompts.Off → takes_line prompt ≡ true → IsTextPlace d answer cursor
  none-stands prompt answer cursor off takes = let never : takes_line prompts.Off ≡ true = subst (λ p. takes_line p ≡ true) off takes in absurd (cc never)

  good : (e : Editor) → Free e → Good e
  good e free = record {
    utf8 = free.1.0;
    short = subst (λ p. IsAnswer p e.answer) (sym free.0) free.1.1;
    stands = none-stands e.prompt e.answer e.input_cursor free.0;
  }

  -- no question any more
  freed : (e : Editor) → Good e → Free (without_prompt e)
  freed e h = (refl, (h.utf8, answer-left e.prompt e.answer h.short))

  free-of : (e : Editor) → e.prompt ≡ prompts.Off → Good e → Free e
  free-of e off h = (off, (h.utf8, answer-left e.prompt e.answer h.short))

  either : (b : Bool) (p q : Editor) → Good p → Good q → Good (if b then p else q)
  either true p q h k = h
  either false p q h k = k

  either-of : (b : Bool) (p q : Editor) → (b ≡ true → Good p) → (b ≡ false → Good q) → Good (if b then p else q)
  either-of true p q h k = h refl
  either-of false p q h k = k refl

  both : (b : Bool) (p q : Editor) → Free p → Free q → Free (if b then p else q)
  both true p q h k = h
  both false p q h k = k

  -- the question whether to overwrite
  over : (e : Editor) → Free e → Good (record e { prompt = prompts.Overwrite })
  over e free = record { utf8 = free.1.0; short = answer-over prompts.Off e.answer free.1.1; stands = λ takes. absurd (cc takes) }

  -- ---- a save

  stored : (e : Editor) (fault : Option StoreFault) → Free e → Good (after_save e fault)
  stored e None free = good e free
  stored e (Some fault) free = either (is_changed fault.cause) (record e { prompt = prompts.Overwrite }) e (over e free) (good e free)

  saving : (e : Editor) (fault : Option StoreFault) → Free e → Good (after_saving fault e)
  saving e fault free = either (is_nameless e) (asking_name e) (after_save e fault) (good-empty prompts.File) (stored e fault free)

  naming : (e : Editor) (fault : Option StoreFault) → Free e → Good (after_naming fault e)
  naming e fault free =
      let under : Editor = if takes_name e fault then with_answered_name e else without_answer e in
      let none = empty-answer prompts.Off [] refl in
      either (length e.answer == 0) e (after_saving_under fault e) (good e free)
      (stored under fault
      (both (takes_name e fault) (with_answered_name e) (without_answer e) (free.0, (IsUtf8-nil, none)) (free.0, (IsUtf8-nil, none))))

  deciding : (e : Editor) (fault : Option StoreFault) (c : ℕ) → Free e → Good (after_deciding fault e c)
  deciding e fault c free =
      let refused : Editor = record e { message = Some messages.ViewOnly } in
      either (confirms c) (after_confirming fault e) e
      (either e.read_only refused (after_saving fault e) (good e free) (saving e fault free)) (good e free)

  -- ---- a key outside a search and a question

  wheel-free : (was : Before) (e : Editor) (way : Vertical) → Free e → Free (after_wheel d was e way)
  wheel-free was e way free =
      let top = wheel_top d e way in
      both (shows_place d e top) (if top == row_home (rows d e) e.top then record e { message = was.message } else e) (carried d e top)
      (both (top == row_home (rows d e) e.top) (record e { message = was.message }) e free free) (refl, free.1)

  effect : (fault : Option StoreFault) (was : Before) (e : Editor) (one : Effect) → Free e → Good (by d fault was e one)
  effect fault was e AsksLine free = good-empty prompts.Line
  effect fault was e AsksName free = good-empty prompts.Name
  effect fault was e AsksFile free = good-empty prompts.File
  effect fault was e AsksOverwrite free = over e free
  effect fault was e Saves free = saving e fault free
  effect fault was e (Wheels way) free = good (by d fault was e (Wheels way)) (wheel-free was e way free)
  effect fault was e one free =
      let same = effect-keeps d fault was e one refl in
      good (by d fault was e one) (same.0 ∙ free.0, (subst IsUtf8 (sym same.1) free.1.0, subst (IsAnswer prompts.Off) (sym same.1) free.1.1))

  pressing : (fault : Option StoreFault) (was : Before) (e : Editor) (key : Key) → Free e → Good (after_pressing d fault was e key)
  pressing fault was e key free = effect fault was e (allowed_effect d e key) free

  -- ---- in a search

  seeking : IsKeptSeeking d Free
  seeking = record {
    exchanged = λ e start stop new h. h;
    told = λ e message h. h;
    placed = λ e place h. h;
    typed = λ e typing h. h;
    sought = λ e search_state purpose origin query other at count cursor h. h;
  }

  free-typed : (e : Editor) (c : ℕ) → Free e → Free (typed_in d e.prompt e.search_state e c)
  free-typed e c free =
      subst (λ prompt. Free (typed_in d prompt e.search_state e c)) (sym free.0) (typed-in-search d Free seeking e.search_state e c free)

  free-put : (e : Editor) → Free e → Free (after_line_put d e)
  free-put e free = line-put-keeps d Free (record { cleared = λ x h. h; told = λ x h. h; typed = free-typed }) e free

  query : (fault : Option StoreFault) (was : Before) (e : Editor) (key : Key) (one : Answer) → Free e → Good (answered d fault was e key one)
  query fault was e key Ends free = pressing fault was (without_search e) key free
  query fault was e key one free =
      good (answered d fault was e key one)
      (query-keeps d Free seeking fault was e key one free (λ ends. absurd (cc ends)) (λ way. wheel-free was e way free) (free-put e free))

  replacement : (fault : Option StoreFault) (was : Before) (e : Editor) (key : Key) (one : Answer) → Free e
      → Good (answered_replacement d fault was e key one)
  replacement fault was e key Ends free = pressing fault was (without_search e) key free
  replacement fault was e key one free =
      good (answered_replacement d fault was e key one)
      (replacement-keeps d Free seeking fault was e key one free free (λ ends. absurd (cc ends)) (λ way. wheel-free was e way free) (free-put e free))

  at-match : (fault : Option StoreFault) (was : Before) (e : Editor) (key : Key) (one : Answer) → Free e → Good (answered_match d fault was e key one)
  at-match fault was e key (Moves m) free = pressing fault was (without_search e) key free
  at-match fault was e key PutsIn free = pressing fault was (without_search e) key free
  at-match fault was e key Passes free = pressing fault was (without_search e) key free
  at-match fault was e key Ends free = pressing fault was (without_search e) key free
  at-match fault was e key one free =
      good (answered_match d fault was e key one)
      (match-keeps d Free seeking fault was e key one free free (λ ends. absurd (cc ends)) (λ way. wheel-free was e way free))

  -- ---- a letter of an answer

  lengthened : (prompt : Prompt) (e : Editor) (c : ℕ) → e.prompt ≡ prompt → takes_line prompt ≡ true → IsScalar c → Good e
      → Good (answer_lengthened d (limit_of prompt) e c)
  lengthened prompt e c is takes scalar h =
      let own : IsGood d prompt e.answer e.input_cursor = subst (λ p. IsGood d p e.answer e.input_cursor) is h in
      let l = line_lengthened d (limit_of prompt) (answer_line e) c in
      let longer : IsLine d (limit_of prompt) l =
      line-longer d (limit_of prompt) (answer_line e) c scalar (record { utf8 = own.utf8; few = own.short; place = own.stands takes }) in
      subst (λ p. IsGood d p l.text l.cursor) (sym is) (record { utf8 = longer.utf8; short = longer.few; stands = λ takes. longer.place })

  gone : (e : Editor) (target : Option Target) → Free e → Good (gone_to d e target)
  gone e None free = good e free
  gone e (Some target) free = good e free

  line-letter : (e : Editor) (c : ℕ) → e.prompt ≡ prompts.Line → Good e → Good (after_line_letter d e c)
  line-letter e c is h =
      let longer = answer_lengthened d longest_line e c in
      either (c == 0xA) (after_going d e) (if is_line_letter c then longer else e)
      (gone (without_prompt e) (asked (chars e.answer)) (freed e h))
      (either-of (is_line_letter c) longer e (λ letter. lengthened prompts.Line e c is refl (line-scalar c letter) h) (λ other. h))

  character : (e : Editor) (c : ℕ) → Free e → Free (with_character d e c)
  character e c free =
      let new = encode_utf8 c in
      both (fits e.content.text e.place e.place new) (with_typing (with_insertion d e new false) (after_insertion (kind_of (d.class c))))
      (record e { message = Some messages.TextFull }) free free

  wrapping : (e : Editor) (opener closer : ℕ) → Free e → Free (after_wrapping d e opener closer)
  wrapping e opener closer free =
      let wrap = with_wrap d e (encode_utf8 opener) (encode_utf8 closer) in
      let full : Editor = record e { message = Some messages.TextFull } in
      let room = fits_both e.content.text (encode_utf8 opener) (encode_utf8 closer) in
      both (spans_lines d e) (record e { message = Some messages.MoreThanOneLine }) (if room then wrap else full) free (both room wrap full free free)

  named-one : (e : Editor) (c : ℕ) (closer : Option ℕ) → Free e → Free (after_named d e c closer)
  named-one e c None free = character e c free
  named-one e c (Some closer) free =
      both (is_empty (region e)) (with_character d e c) (after_wrapping d e c closer) (character e c free) (wrapping e c closer free)

  name-letter : (e : Editor) (letter : ℕ) (c : Option ℕ) → Good e → Good (after_name_letter d e letter c)
  name-letter e letter None h =
      either (asks_code letter) (asking e prompts.Code) (if letter == 0xA then without_prompt e else e) (good-empty prompts.Code)
      (either (letter == 0xA) (without_prompt e) e (good (without_prompt e) (freed e h)) h)
  name-letter e letter (Some c) h =
      good (after_named d (without_prompt e) c (closing letter)) (named-one (without_prompt e) c (closing letter) (freed e h))

  coded-one : (e : Editor) (c : Option ℕ) → Free e → Good (after_code d e c)
  coded-one e None free = good e free
  coded-one e (Some c) free = good (with_character d e c) (character e c free)

  code-letter : (e : Editor) (letter : ℕ) → e.prompt ≡ prompts.Code → Good e → Good (after_code_letter d e letter)
  code-letter e letter is h =
      let longer = answer_lengthened d longest_code e letter in
      either (letter == 0xA) (after_code d (without_prompt e) (coded e.answer)) (if is_code_letter letter then longer else e)
      (coded-one (without_prompt e) (coded e.answer) (freed e h))
      (either-of (is_code_letter letter) longer e (λ digit. lengthened prompts.Code e letter is refl (code-scalar letter digit) h) (λ other. h))

  file-letter : (fault : Option StoreFault) (e : Editor) (c : ℕ) → e.prompt ≡ prompts.File → IsScalar c → Good e → Good (after_file_letter d fault e c)
  file-letter fault e c is scalar h =
      let longer = answer_lengthened d longest_name e c in
      either (c == 0xA) (after_naming fault (without_prompt e)) (if is_no_letter d c then e else longer)
      (naming (without_prompt e) fault (freed e h)) (either (is_no_letter d c) e longer h (lengthened prompts.File e c is refl scalar h))

  letter : (fault : Option StoreFault) (prompt : Prompt) (e : Editor) (c : ℕ) → e.prompt ≡ prompt → IsScalar c → Good e
      → Good (after_answer_letter d fault prompt e c)
  letter fault prompts.Off e c is scalar h = h
  letter fault prompts.Line e c is scalar h = line-letter e c is h
  letter fault prompts.Name e c is scalar h = h
  letter fault prompts.Code e c is scalar h = code-letter e (code_letter c) is h
  letter fault prompts.File e c is scalar h = file-letter fault e c is scalar h
  letter fault prompts.Overwrite e c is scalar h = h

  behind : (typing : Option Typing) (e : Editor) → Good e → Good (with_paste_behind typing e)
  behind None e h = h
  behind (Some typing) e h = h

  taking : (typing : Typing) (c : ℕ) (e new : Editor) → Good e → Good new → Good (after_taking d typing c e new)
  taking typing c e new h k =
      behind (paste_behind d typing c) (if is_taken d typing c then new else e) (either (is_taken d typing c) new e k h)

  -- ---- the held text

  typed-by : (prompt : Prompt) (e : Editor) (c : ℕ) → e.prompt ≡ prompt → IsScalar c → Good e → Good (typed_in d prompt e.search_state e c)
  typed-by prompts.Off e c is scalar h =
      good (typed_in d prompts.Off e.search_state e c) (typed-in-search d Free seeking e.search_state e c (free-of e is h))
  typed-by prompts.Line e c is scalar h = letter None prompts.Line e c is scalar h
  typed-by prompts.Name e c is scalar h = h
  typed-by prompts.Code e c is scalar h = letter None prompts.Code e c is scalar h
  typed-by prompts.File e c is scalar h = letter None prompts.File e c is scalar h
  typed-by prompts.Overwrite e c is scalar h = h

  many : (cs : List ℕ) (e : Editor) → scalars cs ≡ true → Good e → Good (fold (typed_alone d) e cs)
  many [] e all h = h
  many (c ∷ cs) e all h =
      let parts = and_parts (scalar c) (scalars cs) all in
      many cs (typed_alone d e c) parts.1 (typed-by e.prompt (cleared e) c refl parts.0 h)

  one-by-one : (cs : List ℕ) (e : Editor) → scalars cs ≡ true → Good e → Good (typed_one_by_one d e cs)
  one-by-one [] e all h = h
  one-by-one (c ∷ cs) e all h = many (c ∷ cs) e all h

  put : (e : Editor) → IsUtf8 e.held → Good e → Good (after_line_put d e)
  put e utf8 h = one-by-one (first_line d e.held) e (scalars-take _ (chars e.held) (scalars-chars e.held utf8)) h

  -- ---- in a question

  line-of : (e : Editor) → takes_line e.prompt ≡ true → Good e → IsLine d (limit_of e.prompt) (answer_line e)
  line-of e takes h = record { utf8 = h.utf8; few = h.short; place = h.stands takes }

  erasing : (e : Editor) (how : Erasure) → takes_line e.prompt ≡ true → Good e → Good (after_erasing_answer d e.prompt e how)
  erasing e how takes h =
      let l = line_shortened d how (answer_line e) in
      let shorter : IsLine d (limit_of e.prompt) l = line-shorter d (limit_of e.prompt) (answer_line e) how (line-of e takes h) in
      either-of (is_code_prompt e.prompt && is_of_last how && (length e.answer == 0)) (record e { prompt = prompts.Name })
      (if erases_nothing d how (answer_line e) then e else with_answer e l)
      (λ all.
      let none = eqb-true (length e.answer) 0 (last-of (is_code_prompt e.prompt) (is_of_last how) (length e.answer == 0) all) in
      record { utf8 = h.utf8; short = empty-name e.answer none; stands = λ asked. absurd (cc asked) })
      (λ some.
      either (erases_nothing d how (answer_line e)) e (with_answer e l) h
      (record { utf8 = shorter.utf8; short = shorter.few; stands = λ asked. shorter.place }))

  wheel : (was : Before) (e : Editor) (way : Vertical) → Good e → Good (after_wheel d was e way)
  wheel was e way h =
      let top = wheel_top d e way in
      let still : Editor = record e { message = was.message } in
      either (shows_place d e top) (if top == row_home (rows d e) e.top then still else e) (carried d e top)
      (either (top == row_home (rows d e) e.top) still e h h) (good (carried d e top) (freed e h))

  question : (fault : Option StoreFault) (was : Before) (e : Editor) (key : Key) (one : Answer) → takes_line e.prompt ≡ true → Fits e.held one → Good e
      → Good (answered_question d fault was e key one)
  question fault was e key (Letter c) takes fit h =
      taking was.typing c e (after_answer_letter d fault e.prompt e c) h (letter fault e.prompt e c refl fit h)
  question fault was e key (Erases how) takes fit h = erasing e how takes h
  question fault was e key (Moves m) takes fit h = record {
    utf8 = h.utf8;
    short = h.short;
    stands = λ asked. line-moves d (limit_of e.prompt) (answer_line e) m (line-of e takes h);
  }
  question fault was e key PutsIn takes fit h = put e fit h
  question fault was e key Passes takes fit h = h
  question fault was e key GoesBack takes fit h = good (without_prompt e) (freed e h)
  question fault was e key Next takes fit h = pressing fault was (without_prompt e) key (freed e h)
  question fault was e key Previous takes fit h = pressing fault was (without_prompt e) key (freed e h)
  question fault was e key Replaces takes fit h = pressing fault was (without_prompt e) key (freed e h)
  question fault was e key (Scrolls way) takes fit h = wheel was e way h
  question fault was e key Stays takes fit h = h
  question fault was e key Ends takes fit h = pressing fault was (without_prompt e) key (freed e h)

  name : (fault : Option StoreFault) (was : Before) (e : Editor) (key : Key) (one : Answer) → Good e → Good (answered_name d fault was e key one)
  name fault was e key (Letter c) h =
      either (is_paste was.typing) (with_typing e was.typing) (after_name_key d e c) h (name-letter e (name_letter c) (named (name_letter c)) h)
  name fault was e key (Erases how) h = h
  name fault was e key (Moves m) h = pressing fault was (without_prompt e) key (freed e h)
  name fault was e key PutsIn h = pressing fault was (without_prompt e) key (freed e h)
  name fault was e key Passes h = pressing fault was (without_prompt e) key (freed e h)
  name fault was e key GoesBack h = good (without_prompt e) (freed e h)
  name fault was e key Next h = pressing fault was (without_prompt e) key (freed e h)
  name fault was e key Previous h = pressing fault was (without_prompt e) key (freed e h)
  name fault was e key Replaces h = pressing fault was (without_prompt e) key (freed e h)
  name fault was e key (Scrolls way) h = wheel was e way h
  name fault was e key Stays h = h
  name fault was e key Ends h = pressing fault was (without_prompt e) key (freed e h)

  overwrite : (fault : Option StoreFault) (was : Before) (e : Editor) (one : Answer) → Good e → Good (answered_overwrite fault was e one)
  overwrite fault was e (Letter c) h =
      either (is_paste was.typing) (with_typing e was.typing) (after_deciding fault (without_prompt e) c) h
      (deciding (without_prompt e) fault c (freed e h))
  overwrite fault was e Stays h = h
  overwrite fault was e _ h = good (without_prompt e) (freed e h)

  -- ---- any key

  line-taken : (e : Editor) (prompt : Prompt) → e.prompt ≡ prompt → takes_line prompt ≡ true → takes_line e.prompt ≡ true
  line-taken e prompt is takes = ap takes_line is ∙ takes

  any : (fault : Option StoreFault) (was : Before) (prompt : Prompt) (search_state : SearchState) (e : Editor) (key : Key) → e.prompt ≡ prompt
      → Fits e.held (answer_of key) → Good e → Good (after_any d fault was prompt search_state e key)
  any fault was prompts.Off Off e key is fit h = pressing fault was e key (free-of e is h)
  any fault was prompts.Off Begun e key is fit h = query fault was e key (answer_of key) (free-of e is h)
  any fault was prompts.Off Typed e key is fit h = query fault was e key (answer_of key) (free-of e is h)
  any fault was prompts.Off WithBegun e key is fit h = replacement fault was e key (answer_of key) (free-of e is h)
  any fault was prompts.Off WithTyped e key is fit h = replacement fault was e key (answer_of key) (free-of e is h)
  any fault was prompts.Off Replacing e key is fit h = at-match fault was e key (without_line (answer_of key)) (free-of e is h)
  any fault was prompts.Line search_state e key is fit h = question fault was e key (answer_of key) (line-taken e prompts.Line is refl) fit h
  any fault was prompts.Name search_state e key is fit h = name fault was e key (without_line (answer_of key)) h
  any fault was prompts.Code search_state e key is fit h = question fault was e key (answer_of key) (line-taken e prompts.Code is refl) fit h
  any fault was prompts.File search_state e key is fit h = question fault was e key (answer_of key) (line-taken e prompts.File is refl) fit h
  any fault was prompts.Overwrite search_state e key is fit h = overwrite fault was e (answer_of key) h

  user : (fault : Option StoreFault) (e : Editor) (key : Key) → TypesCharacters e key → Good e → Good (after_user d fault e key)
  user fault e key types h =
      either (refuses_replacing e key) (by d fault (before e) (cleared e) Refuses)
      (after_any d fault (before e) e.prompt e.search_state (cleared e) key) h
      (any fault (before e) e.prompt e.search_state (cleared e) key refl (fits-of e key types) h)

  -- ---- a paste

  pasting : IsKeptPasting Good
  pasting = record { pasted = λ e pasted message typing h. h; lengthened = λ e pasted soft h. h; unpressed = λ e h. h }

  -- what the end of a paste leaves of this editor
  abbrev Left : Editor → Editor → Type 0
  Left e new = Good new × (new.held ≡ e.held)

  ended : (e : Editor) → Good e → Left e (paste_ended d e)
  ended e h = ended-by d e (Left e) (h, refl) (h, refl) (λ list. (h, refl)) (λ list. (h, refl)) (h, refl)

  types-on : (e new : Editor) (key : Key) → new.held ≡ e.held → TypesCharacters e key → TypesCharacters new key
  types-on e new (Insert c) same types = types
  types-on e new Put same types = subst IsUtf8 (sym same) types
  types-on e new _ same types = tt

  press : (fault : Option StoreFault) (e : Editor) (key : Key) (pasted : Option (List ℕ)) → Good e → Good (after_user d fault e key)
      → Good (after_user d fault (paste_ended d e) key) → Good (after_press d fault pasted e key)
  press fault e key None h plain behind = plain
  press fault e (Insert c) (Some list) h plain behind = h
  press fault e Repaint (Some list) h plain behind = plain
  press fault e key (Some list) h plain behind = behind

  key-good : (fault : Option StoreFault) (e : Editor) (key : Key) → TypesCharacters e key → Good e → Good (after_key d fault e key)
  key-good fault e key types h =
      let left = ended e h in
      each-key d fault e (λ k new. TypesCharacters e k → Good new) (λ height width types. h) (λ notice types. h) (λ types. h)
      ((λ types. start-keeps Good pasting e h), (λ types. left.0))
      (λ k other types.
      press fault e k e.pasted h (user fault e k types h)
      (user fault (paste_ended d e) k (types-on e (paste_ended d e) k left.1 types) left.0)) key types

  typed-good : (e : Editor) (typed : List (Key × Option StoreFault)) → AreCharacters d e typed → Good e → Good (after_typing d e typed)
  typed-good e [] types h = h
  typed-good e (key ∷ typed) types h = typed-good (after_key d key.1 e key.0) typed types.1 (key-good key.1 e key.0 types.0 h)

  -- ---- its prompt

  line-utf8 : (prompt : Prompt) (search_state : SearchState) (query other answer : List ℕ) → prompt ≢ prompts.Off → IsUtf8 answer
      → IfSome (prompt_line prompt search_state query other answer) IsUtf8
  line-utf8 prompts.Off search_state query other answer on utf8 = absurd (on refl)
  line-utf8 prompts.Line search_state query other answer on utf8 = utf8
  line-utf8 prompts.Name search_state query other answer on utf8 = tt
  line-utf8 prompts.Code search_state query other answer on utf8 = utf8
  line-utf8 prompts.File search_state query other answer on utf8 = utf8
  line-utf8 prompts.Overwrite search_state query other answer on utf8 = tt

pub prompts-are-shown : PromptsAreShown
prompts-are-shown d text height width base typed types =
    let start = at_start text height width base in
    let e = after_typing d start typed in
    let h = typed-good d start typed types (good-empty d prompts.Off) in
    record {
      answer = h.short;
      glyphs = λ on.
          prompt-shown d e e.prompt (row_text d e) (input_line_of e)
          (line-utf8 d e.prompt e.search_state e.query e.replacement e.answer on h.utf8);
    }
