-- Whatever is typed behind the stored text, or stepped over, that text stays in reach of undo and redo.
use Rattle.std.proofs.lemmas.Bool.{not-true}
use Rattle.bx_keys.specs.declared.key.Key.{Key}
use Rattle.bx_store.specs.declared.store.StoreFault.{StoreFault}
use Rattle.bx_text.specs.index.Paragraphs.{is_separator}
use Rattle.bx_ucd.specs.Data.{Data}
use Rattle.bx_editor.specs.declared.answer.Answer.{Answer}
use Rattle.bx_editor.specs.declared.input_line.Erasure.{Erasure}
use Rattle.bx_editor.specs.declared.questions.answers.Prompt.{Prompt}
use Rattle.bx_editor.specs.declared.questions.answers.Prompt.TheVariants as prompts
use Rattle.bx_editor.specs.declared.questions.line.Target.{Target}
use Rattle.bx_editor.specs.declared.message.Message.TheVariants as messages
use Rattle.bx_editor.specs.declared.search_state.SearchState.{SearchState}
use Rattle.bx_editor.specs.declared.undo_groups.typing.Typing.{Typing}
use Rattle.bx_editor.specs.declared.undo_groups.typing.Typing.TheVariants as typings
use Rattle.bx_editor.specs.Asking.{after_answer_letter, after_code, after_erasing_answer, after_going, after_name_key, after_name_letter, after_named}
use Rattle.bx_editor.specs.Asking.{after_wrapping, answer_lengthened, answer_line, asking, gone_to, is_code_prompt, is_of_last, longest_code, longest_line}
use Rattle.bx_editor.specs.Asking.{spans_lines, with_answer, with_character, with_wrap, without_prompt}
use Rattle.bx_editor.specs.Before.{Before}
use Rattle.bx_editor.specs.InputLines.{after_taking, ends_line, erases_nothing, is_no_letter, line_shortened}
use Rattle.bx_editor.specs.Keys.{after_pressing, answered, answered_match, answered_name, answered_overwrite}
use Rattle.bx_editor.specs.Keys.{answered_question, answered_replacement, is_save}
use Rattle.bx_editor.specs.LinePuts.{after_line_put, typed_in}
use Rattle.bx_editor.specs.Saving.{after_naming, can_save, confirms}
use Rattle.bx_editor.specs.Saving.{is_nameless, longest_name}
use Rattle.bx_editor.specs.Search.{without_search}
use Rattle.bx_editor.specs.questions.Answers.{asked, is_line_letter}
use Rattle.bx_editor.specs.questions.KeyLetters.{code_letter, name_letter}
use Rattle.bx_editor.specs.questions.Names.{asks_code, closing, coded, is_code_letter, named}
use Rattle.bx_editor_laws.proofs.LineKept.{in-line-keeps}
use Rattle.std.proofs.Common.{◌≡◌, ℕ, Bool, true, false, length, refl, sym, subst, ◌∙◌, if◌then◌else◌}
use Rattle.std.specs.Prelude.{◌&&◌, ◌||◌, ◌==◌, not, chars, encode_utf8, Option, Some, None, is_none}
use Rattle.bx_text.specs.Edits.{fits, fits_both}
use Rattle.bx_document.specs.Swapped.{behind_character}
use Rattle.bx_editor.specs.undo_groups.Groups.{after_insertion, kind_of}
use Rattle.bx_editor.specs.declared.answer.Answer.TheVariants.{Letter, Erases, Moves, PutsIn, Passes, GoesBack, Next, Previous, Replaces, Scrolls, Stays, Ends}
use Rattle.bx_editor.specs.Editor.{Editor}
use Rattle.bx_editor.specs.Editor.{with_insertion, with_typing}
use Rattle.bx_editor.specs.Keys.{is_typed as is_typed_letter}
use Rattle.bx_editor.specs.Putting.{is_paste, paste_ended}
use Rattle.bx_editor.specs.Putting.{without_paste}
use Rattle.bx_editor.specs.Region.{is_empty, region}
use Rattle.bx_editor.specs.Replacing.{next_match}
use Rattle.bx_editor.proofs.Searches.{IsKeptSeeking, is_end, is_end_of_match, match-keeps, replacement-keeps, query-keeps, typed-in-search}
use Rattle.bx_editor_laws.specs.StoredLaws.{may_edit}
use Rattle.bx_editor_laws.proofs.PasteEnded.{ended-by}
use Rattle.bx_editor_laws.proofs.ReachEffects.{InPast, InReach, at-match, deciding, either, exchange, insertion, is_typed, naming, pressed, replacing, wheel}
use Rattle.bx_editor_laws.proofs.ReachEffects.{wheel-past, wrapping}

module _ (n : ℕ) (d : Data) where
  -- ---- in a search and in a question

  seeking : IsKeptSeeking d (InPast n d)
  seeking = record {
    exchanged = λ e start stop new h. exchange n d e start stop new h;
    told = λ e message h. h;
    placed = λ e place h. h;
    typed = λ e typing h. h;
    sought = λ e search_state purpose origin query other at count cursor h. h;
  }

  with-one : (e : Editor) (c : ℕ) → InPast n d e → InPast n d (with_character d e c)
  with-one e c h =
      either (InPast n d) (fits e.content.text e.place e.place (encode_utf8 c))
      (with_typing (with_insertion d e (encode_utf8 c) false) (after_insertion (kind_of (d.class c))))
      (record e { message = Some messages.TextFull }) (insertion n d e (encode_utf8 c) false h) h

  coding : (e : Editor) (code : Option ℕ) → InPast n d e → InPast n d (after_code d e code)
  coding e None h = h
  coding e (Some c) h = with-one e c h

  going : (e : Editor) (target : Option Target) → InPast n d e → InPast n d (gone_to d e target)
  going e None h = h
  going e (Some target) h = h

  other : (b : Bool) (p q : Editor) → b ≡ false → InPast n d q → InPast n d (if b then p else q)
  other b p q quiet k = subst (λ t. InPast n d (if t then p else q)) (sym quiet) k

  -- each but a line end of a name
  letter : (fault : Option StoreFault) (prompt : Prompt) (e : Editor) (c : ℕ) → (prompt ≡ prompts.File → (c == 0xA) ≡ false) → InPast n d e
      → InPast n d (after_answer_letter d fault prompt e c)
  letter fault prompts.Line e c inside h =
      either (InPast n d) (c == 0xA) (after_going d e) (if is_line_letter c then answer_lengthened d longest_line e c else e)
      (going (without_prompt e) (asked (chars e.answer)) h) (either (InPast n d) (is_line_letter c) (answer_lengthened d longest_line e c) e h h)
  letter fault prompts.Code e c inside h =
      let digit = code_letter c in
      let more = answer_lengthened d longest_code e digit in
      either (InPast n d) (digit == 0xA) (after_code d (without_prompt e) (coded e.answer)) (if is_code_letter digit then more else e)
      (coding (without_prompt e) (coded e.answer) h) (either (InPast n d) (is_code_letter digit) more e h h)
  letter fault prompts.File e c inside h =
      let more = answer_lengthened d longest_name e c in
      other (c == 0xA) (after_naming fault (without_prompt e)) (if is_no_letter d c then e else more) (inside refl)
      (either (InPast n d) (is_no_letter d c) e more h h)
  letter fault prompts.Off e c inside h = h
  letter fault prompts.Name e c inside h = h
  letter fault prompts.Overwrite e c inside h = h

  line-letter : (prompt : Prompt) (search_state : SearchState) (e : Editor) (c : ℕ) → (c == 0xA) ≡ false → InPast n d e
      → InPast n d (typed_in d prompt search_state e c)
  line-letter prompts.Off search_state e c inside h = typed-in-search d (InPast n d) seeking search_state e c h
  line-letter prompts.Line search_state e c inside h = letter None prompts.Line e c (λ file. inside) h
  line-letter prompts.Name search_state e c inside h = h
  line-letter prompts.Code search_state e c inside h = letter None prompts.Code e c (λ file. inside) h
  line-letter prompts.File search_state e c inside h = letter None prompts.File e c (λ file. inside) h
  line-letter prompts.Overwrite search_state e c inside h = h

  line-put : (e : Editor) → InPast n d e → InPast n d (after_line_put d e)
  line-put e h =
      in-line-keeps d (InPast n d) (record {
        cleared = λ x k. k;
        told = λ x k. k;
        typed = λ x c inside k. line-letter x.prompt x.search_state x c (not-true (c == 0xA) inside) k;
      }) e h

  wrapping-one : (e : Editor) (opener closer : ℕ) → InPast n d e → InPast n d (after_wrapping d e opener closer)
  wrapping-one e opener closer h =
      let full : Editor = record e { message = Some messages.TextFull } in
      let one = with_wrap d e (encode_utf8 opener) (encode_utf8 closer) in
      let room = fits_both e.content.text (encode_utf8 opener) (encode_utf8 closer) in
      either (InPast n d) (spans_lines d e) (record e { message = Some messages.MoreThanOneLine }) (if room then one else full) h
      (either (InPast n d) room one full (wrapping n d e (encode_utf8 opener) (encode_utf8 closer) h) h)

  named-one : (e : Editor) (c : ℕ) (closer : Option ℕ) → InPast n d e → InPast n d (after_named d e c closer)
  named-one e c None h = with-one e c h
  named-one e c (Some closer) h =
      either (InPast n d) (is_empty (region e)) (with_character d e c) (after_wrapping d e c closer) (with-one e c h) (wrapping-one e c closer h)

  name-letter : (e : Editor) (l : ℕ) (name : Option ℕ) → InPast n d e → InPast n d (after_name_letter d e l name)
  name-letter e l (Some c) h = named-one (without_prompt e) c (closing l) h
  name-letter e l None h =
      either (InPast n d) (asks_code l) (asking e prompts.Code) (if l == 0xA then without_prompt e else e) h
      (either (InPast n d) (l == 0xA) (without_prompt e) e h h)

  taking : (typing : Typing) (c : ℕ) (e new : Editor) → InPast n d e → InPast n d new → InPast n d (after_taking d typing c e new)
  taking typings.Off c e new h k = k
  taking typings.Word c e new h k = k
  taking typings.Blanks c e new h k = k
  taking typings.Erasing c e new h k = k
  taking typings.Deleting c e new h k = k
  taking typings.Paste c e new h k = either (InPast n d) (not (ends_line d c)) new e k h
  taking typings.Spent c e new h k = h

  erased : (e : Editor) (how : Erasure) → InPast n d e → InPast n d (after_erasing_answer d e.prompt e how)
  erased e how h =
      let l = answer_line e in
      let shorter = with_answer e (line_shortened d how l) in
      either (InPast n d) (is_code_prompt e.prompt && is_of_last how && (length e.answer == 0)) (record e { prompt = prompts.Name })
      (if erases_nothing d how l then e else shorter) h (either (InPast n d) (erases_nothing d how l) e shorter h h)

  -- what of a name is typed
  module _ (fault : Option StoreFault) (e : Editor) (c : ℕ) (h : (InReach n d) e) where
    abbrev file_letter : Bool → Editor
    file_letter end =
        if end then after_naming fault (without_prompt e) else (if is_no_letter d c then e else answer_lengthened d longest_name e c)

    typed-file : (end : Bool) → ((end && true && not (length e.answer == 0)) && is_none fault) ≡ false → InReach n d (file_letter end)
    typed-file true fails = naming n d (without_prompt e) fault (length e.answer == 0) fails h
    typed-file false fails = either (InReach n d) (is_no_letter d c) e (answer_lengthened d longest_name e c) h h

    pasted-file : (end separator : Bool) (typing : Typing) → InReach n d (with_typing (if not (end || separator) then file_letter end else e) typing)
    pasted-file true separator typing = h
    pasted-file false true typing = h
    pasted-file false false typing = either (InReach n d) (is_no_letter d c) e (answer_lengthened d longest_name e c) h h

    file : (typing : Typing) → (((c == 0xA) && is_typed_letter typing && not (length e.answer == 0)) && is_none fault) ≡ false
        → InReach n d (after_taking d typing c e (file_letter (c == 0xA)))
    file typings.Off fails = typed-file (c == 0xA) fails
    file typings.Word fails = typed-file (c == 0xA) fails
    file typings.Blanks fails = typed-file (c == 0xA) fails
    file typings.Erasing fails = typed-file (c == 0xA) fails
    file typings.Deleting fails = typed-file (c == 0xA) fails
    file typings.Paste fails = pasted-file (c == 0xA) (is_separator (d.class c)) (if ends_line d c then typings.Spent else typings.Paste)
    file typings.Spent fails = h

  module _ (fault : Option StoreFault) (was : Before) (e : Editor) (key : Key) (h : (InReach n d) e) (p : may_edit key ≡ true → InPast n d e) where
    abbrev Fails : Type 0
    Fails = ((is_save key && can_save e) && is_none fault) ≡ false

    query-past : (one : Answer) → InPast n d e → (is_end one ≡ true → InPast n d (after_pressing d fault was (without_search e) key))
        → InPast n d (answered d fault was e key one)
    query-past one k ends = query-keeps d (InPast n d) seeking fault was e key one k ends (λ way. wheel-past n d was e way k) (line-put e k)

    replacement-past : (one : Answer) → InPast n d e → (is_end one ≡ true → InPast n d (after_pressing d fault was (without_search e) key))
        → InPast n d (answered_replacement d fault was e key one)
    replacement-past one k ends = replacement-keeps d (InPast n d) seeking fault was e key one k k ends (λ way. wheel-past n d was e way k) (line-put e k)

    match-past : (one : Answer) → InPast n d e → (is_end_of_match one ≡ true → InPast n d (after_pressing d fault was (without_search e) key))
        → InPast n d (answered_match d fault was e key one)
    match-past one k ends = match-keeps d (InPast n d) seeking fault was e key one k k ends (λ way. wheel-past n d was e way k)

    pub query : (one : Answer) → (is_typed one ≡ true → InPast n d e) → Fails → InReach n d (answered d fault was e key one)
    query (Letter c) q fails = (query-past (Letter c) (q refl) (λ ends. absurd (cc ends))).0
    query (Erases how) q fails = (query-past (Erases how) (q refl) (λ ends. absurd (cc ends))).0
    query PutsIn q fails = (line-put e (q refl)).0
    query Replaces q fails = (query-past Replaces (q refl) (λ ends. absurd (cc ends))).0
    query (Scrolls way) q fails = wheel n d was e way h
    query Ends q fails = pressed n d fault was (without_search e) key h p fails
    query _ q fails = h

    pub replacement : (one : Answer) → (is_typed one ≡ true → InPast n d e) → Fails → InReach n d (answered_replacement d fault was e key one)
    replacement (Letter c) q fails = (replacement-past (Letter c) (q refl) (λ ends. absurd (cc ends))).0
    replacement (Erases how) q fails = (replacement-past (Erases how) (q refl) (λ ends. absurd (cc ends))).0
    replacement PutsIn q fails = (line-put e (q refl)).0
    replacement Replaces q fails = (replacement-past Replaces (q refl) (λ ends. absurd (cc ends))).0
    replacement (Scrolls way) q fails = wheel n d was e way h
    replacement Ends q fails = pressed n d fault was (without_search e) key h p fails
    replacement _ q fails = h

    pub shown : (one : Answer) → (is_typed one ≡ true → InPast n d e) → Fails → InReach n d (answered_match d fault was e key one)
    shown (Letter c) q fails = (match-past (Letter c) (q refl) (λ ends. absurd (cc ends))).0
    shown (Erases how) q fails = h
    shown GoesBack q fails = h
    shown Next q fails = at-match n d e (next_match d e (behind_character e.content.text e.at)) h
    shown Previous q fails = h
    shown Replaces q fails = (match-past Replaces (q refl) (λ ends. absurd (cc ends))).0
    shown (Scrolls way) q fails = wheel n d was e way h
    shown Stays q fails = h
    shown _ q fails = pressed n d fault was (without_search e) key h p fails

    pub question : (one : Answer) → (is_typed one ≡ true → InPast n d e) → ((c : ℕ) → one ≡ Letter c → ⊥) → Fails
        → InReach n d (answered_question d fault was e key one)
    question (Letter c) q no-letter fails = absurd (no-letter c refl)
    question (Erases how) q no-letter fails = (erased e how (q refl)).0
    question (Moves m) q no-letter fails = h
    question PutsIn q no-letter fails = (line-put e (q refl)).0
    question Passes q no-letter fails = h
    question GoesBack q no-letter fails = h
    question (Scrolls way) q no-letter fails = wheel n d was e way h
    question Stays q no-letter fails = h
    question _ q no-letter fails = pressed n d fault was (without_prompt e) key h p fails

    pub question-letter : (prompt : Prompt) (c : ℕ) → e.prompt ≡ prompt → (prompt ≡ prompts.File → ⊥) → InPast n d e
        → InReach n d (answered_question d fault was e key (Letter c))
    question-letter prompt c is no-name k =
        (taking was.typing c e (after_answer_letter d fault e.prompt e c) k
        (letter fault e.prompt e c (λ file. absurd (no-name (sym is ∙ file))) k)).0

    pub file-letter : (c : ℕ) → e.prompt ≡ prompts.File
        → (((c == 0xA) && is_typed_letter was.typing && not (length e.answer == 0)) && is_none fault) ≡ false
        → InReach n d (answered_question d fault was e key (Letter c))
    file-letter c is fails =
        subst (λ prompt. InReach n d (after_taking d was.typing c e (after_answer_letter d fault prompt e c))) (sym is) (file fault e c h was.typing fails)

    pub name : (one : Answer) → (is_typed one ≡ true → InPast n d e) → Fails → InReach n d (answered_name d fault was e key one)
    name (Letter c) q fails =
        either (InReach n d) (is_paste was.typing) (with_typing e was.typing) (after_name_key d e c) h
        (name-letter e (name_letter c) (named (name_letter c)) (q refl)).0
    name (Erases how) q fails = h
    name GoesBack q fails = h
    name (Scrolls way) q fails = wheel n d was e way h
    name Stays q fails = h
    name _ q fails = pressed n d fault was (without_prompt e) key h p fails

    pub overwriting : (c : ℕ) → ((confirms c && not (is_paste was.typing) && can_save e) && is_none fault) ≡ false
        → InReach n d (answered_overwrite fault was e (Letter c))
    overwriting c fails = deciding n d e fault was.typing (is_paste was.typing) (confirms c) e.read_only (is_nameless e) fails h

  -- ---- a paste

  pub ended : (e : Editor) → InPast n d e → InPast n d (paste_ended d e)
  ended e h =
      let left = without_paste e in
      ended-by d e (InPast n d) h h (λ list. replacing n d left list h) (λ list. insertion n d left list false h) h
