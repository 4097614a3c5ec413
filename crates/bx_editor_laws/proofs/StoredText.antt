-- Whatever is typed, past and future stay chains of texts, and what counts as unchanged is the text that was stored last.
use Rattle.std.proofs.Common.{◌≡◌, ◌∙◌, ℕ, ◌+◌, Bool, true, false, List, [], ◌∷◌, length, refl, sym, ap, subst, arith, if◌then◌else◌}
use Rattle.std.specs.Prelude.{◌&&◌, ◌||◌, ◌==◌, not, chars, encode_utf8, Option, Some, None, is_none}
use Rattle.std.proofs.lemmas.Bool.{not-true}
use Rattle.std.proofs.lemmas.Bool.Decides.{nat_tests}
use Rattle.bx_keys.specs.declared.key.Key.{Key}
use Rattle.bx_keys.specs.declared.key.Key.TheVariants.{Save}
use Rattle.bx_store.specs.declared.store.StoreFault.{StoreFault}
use Rattle.bx_text.specs.declared.change.Change.{Change}
use Rattle.bx_text.specs.Edits.{Edit, Edited, fits, fits_both, inserted, splice}
use Rattle.bx_text.specs.index.Paragraphs.{is_separator}
use Rattle.bx_document.specs.History.{stepped_times}
use Rattle.bx_document.specs.declared.history.HistoryStep.{HistoryStep}
use Rattle.bx_document.specs.declared.history.HistoryStep.TheVariants as steps
use Rattle.bx_ucd.specs.Data.{Data}
use Rattle.bx_view.specs.declared.moves.Vertical.{Vertical}
use Rattle.bx_view.specs.Moves.{row_home}
use Rattle.bx_editor.specs.declared.questions.answers.Prompt.{Prompt}
use Rattle.bx_editor.specs.declared.questions.answers.Prompt.TheVariants as prompts
use Rattle.bx_editor.specs.declared.questions.line.Target.{Target}
use Rattle.bx_editor.specs.declared.search_state.SearchPurpose.TheVariants as purposes
use Rattle.bx_editor.specs.declared.message.Message.TheVariants as messages
use Rattle.bx_editor.specs.declared.search_state.SearchState.{SearchState}
use Rattle.bx_editor.specs.declared.undo_groups.typing.Typing.{Typing}
use Rattle.bx_editor.specs.declared.undo_groups.typing.Typing.TheVariants as typings
use Rattle.bx_editor.specs.Asking.{after_answer_letter, after_code, after_going, after_name_letter, after_named}
use Rattle.bx_editor.specs.Asking.{after_wrapping, answer_lengthened, asking, gone_to, longest_code, longest_line}
use Rattle.bx_editor.specs.Asking.{spans_lines, with_character, with_wrap, without_prompt}
use Rattle.bx_editor.specs.Before.{Before}
use Rattle.bx_editor.specs.Editor.{Editor, after_redo, after_step, after_undo, by_group, group_goal, group_length, is_changed_at}
use Rattle.bx_editor.specs.Editor.{place_after, rows, stored_behind, with_exchange, with_insertion, with_removal, with_typing}
use Rattle.bx_document.specs.History.{next_changes}
use Rattle.bx_editor.specs.Effects.{Effect, Wheels, Seeks, SeeksNext, SeeksPrevious, Saves, AsksLine, AsksName, AsksFile, AsksOverwrite, Refuses, by}
use Rattle.bx_editor.specs.InputLines.{after_taking, ends_line, is_no_letter}
use Rattle.bx_editor.specs.Keys.{after_pressing, allowed_effect}
use Rattle.bx_editor.specs.Keys.{changes_text, effect_of, is_save, is_typed}
use Rattle.bx_editor.specs.LinePuts.{after_line_put, typed_in}
use Rattle.bx_editor.specs.Putting.{with_line_put}
use Rattle.bx_editor.specs.Region.{is_empty, line, region, unselected}
use Rattle.bx_editor.specs.RowMoves.{after_wheel, carried, shows_place, wheel_top}
use Rattle.bx_editor.specs.Saving.{after_naming, after_save, asking_name, can_save, is_changed}
use Rattle.bx_editor.specs.Saving.{is_nameless, longest_name, takes_name, with_answered_name, without_answer}
use Rattle.bx_editor.specs.Search.{after_beginning, next_or_start, search_back, search_from, sought, sought_alone}
use Rattle.bx_editor.specs.undo_groups.Groups.{after_insertion, kind_of}
use Rattle.bx_editor.specs.questions.Answers.{asked, is_line_letter}
use Rattle.bx_editor.specs.questions.KeyLetters.{code_letter}
use Rattle.bx_editor.specs.questions.Names.{asks_code, closing, coded, is_code_letter}
use Rattle.bx_editor_laws.proofs.Chains.{Chain, redone-chain, replaced-chain, stored-chain, undone-chain}
use Rattle.bx_editor_laws.proofs.LineKept.{in-line-keeps}
use Rattle.bx_editor.proofs.EffectsKept as kept
use Rattle.bx_editor.proofs.Searches.{IsKeptSeeking, typed-in-search}
use Rattle.bx_editor.proofs.TwoEdits.{stored-of-two}
use Rattle.bx_editor.proofs.RunSteps.{run-ends}

-- the history is a chain, and what counts as unchanged is the text that was stored
pub record Follows (stored : List ℕ) (t : Edited) (at : Option ℕ) (changed : Bool) : Type 0 where
  pub chain : Chain stored t at
  pub unchanged : changed ≡ false → t.text ≡ stored

abbrev pub Has : List ℕ → Editor → Type 0
Has stored e = Follows stored e.content e.stored e.changed

pub either : (b : Bool) (s : List ℕ) (p q : Editor) → Has s p → Has s q → Has s (if b then p else q)
either true s p q h k = h
either false s p q h k = k

-- ---- edits

insertion : (s : List ℕ) (d : Data) (e : Editor) (new : List ℕ) (on : Bool) → Has s e → Has s (with_insertion d e new on)
insertion s d e new on h = record {
  chain = replaced-chain s e.content e.stored e.place e.place new e.place ((with_insertion d e new on).place) h.chain;
  unchanged = λ is. absurd (cc is);
}

removal : (s : List ℕ) (d : Data) (e : Editor) (start stop : ℕ) (on : Bool) → Has s e → Has s (with_removal d e start stop on)
removal s d e start stop on h = record {
  chain = replaced-chain s e.content e.stored start stop [] e.place ((with_removal d e start stop on).place) h.chain;
  unchanged = λ is. absurd (cc is);
}

lined : (s : List ℕ) (d : Data) (e : Editor) (new : List ℕ) → Has s e → Has s (with_line_put d e new)
lined s d e new h =
    let start = (line d e).0 in
    record {
      chain = replaced-chain s e.content e.stored start start new e.place ((with_line_put d e new).place) h.chain;
      unchanged = λ is. absurd (cc is);
    }

-- ---- steps

undo : (s : List ℕ) (e : Editor) (past : List Edit) → Has s e → Has s (after_undo e past)
undo s e [] h = h
undo s e (edit ∷ past) h = record { chain = undone-chain s e.stored 1 e.content h.chain; unchanged = λ is. absurd (cc is) }

redo : (s : List ℕ) (e : Editor) (future : List Edit) → Has s e → Has s (after_redo e future)
redo s e [] h = h
redo s e (edit ∷ future) h = record { chain = redone-chain s e.stored 1 e.content h.chain; unchanged = λ is. absurd (cc is) }

step : (s : List ℕ) (way : HistoryStep) (e : Editor) → Has s e → Has s (after_step way e)
step s steps.Undo e h = undo s e e.content.past h
step s steps.Redo e h = redo s e e.content.future h

unchanged-at : (n : ℕ) (stored : Option ℕ) → is_changed_at n stored ≡ false → stored ≡ Some n
unchanged-at n None is = absurd (cc is)
unchanged-at n (Some m) is = let same : n ≡ m = grind (arith, nat_tests, is) in ap Some (sym same)

stepped-chain : (s : List ℕ) (at : Option ℕ) (way : HistoryStep) (n : ℕ) (t : Edited) → Chain s t at → Chain s (stepped_times way n t) at
stepped-chain s at steps.Undo n t h = undone-chain s at n t h
stepped-chain s at steps.Redo n t h = redone-chain s at n t h

run-by : (s : List ℕ) (way : HistoryStep) (e : Editor) (change : Option Change) → Has s e → Has s (by_group way e change)
run-by s way e None h = h
run-by s way e (Some change) h =
    let chain = stepped-chain s e.stored way (group_length way e) e.content h.chain in
    record { chain = chain; unchanged = λ is. (chain.is_at (group_goal way e) (unchanged-at (group_goal way e) e.stored is)).now (run-ends way e) }

exchange : (s : List ℕ) (d : Data) (e : Editor) (start stop : ℕ) (new : List ℕ) → Has s e → Has s (with_exchange d e start stop new)
exchange s d e start stop [] h = removal s d e start stop false h
exchange s d e start stop (b ∷ bs) h =
    let n = length e.content.past in
    let cut = with_removal d e start stop false in
    let two = with_exchange d e start stop (b ∷ bs) in
    let first = removal s d e start stop false h in
    let second = replaced-chain s cut.content cut.stored start start (b ∷ bs) cut.place two.place first.chain in
    record { chain = subst (Chain s two.content) (stored-of-two n e.stored) second; unchanged = λ is. absurd (cc is) }

-- two edits of one undo group
wrapping : (s : List ℕ) (d : Data) (e : Editor) (opener closer : List ℕ) → Has s e → Has s (with_wrap d e opener closer)
wrapping s d e opener closer h =
    let t = e.content in
    let n = length t.past in
    let start = (region e).0 in
    let stop = (region e).1 in
    let between = place_after d e (splice t.text stop stop closer) (stop + length closer) in
    let one : Edited = inserted t stop closer e.place between in
    let two = (with_wrap d e opener closer).content in
    let first = replaced-chain s t e.stored stop stop closer e.place between h.chain in
    let second = replaced-chain s one (stored_behind n e.stored) start start opener between (with_wrap d e opener closer).place first in
    record { chain = subst (Chain s two) (stored-of-two n e.stored) second; unchanged = λ is. absurd (cc is) }

-- ---- what leaves the stored text

module _ (s : List ℕ) (d : Data) where
  pub pressing : kept.IsKeptPressing d (Has s)
  pressing = record {
    inserted = λ e new on h. insertion s d e new on h;
    lined = λ e new h. lined s d e new h;
    removed = λ e start stop on h. removal s d e start stop on h;
    stepped = λ way e h. step s way e h;
    run = λ way e h. run-by s way e (next_changes way (group_length way e) e.content) h;
    quit = λ e ended message h. h;
    based = λ e base h. h;
    gone = λ e place goal h. h;
    pointed = λ e clicks pressed h. h;
    marked = λ e mark soft held whole_line h. h;
    told = λ e message typing h. h;
  }

  pub seeks : IsKeptSeeking d (Has s)
  seeks = record {
    exchanged = λ e start stop new h. exchange s d e start stop new h;
    told = λ e message h. h;
    placed = λ e place h. h;
    typed = λ e typing h. h;
    sought = λ e search_state purpose origin query other at count cursor h. h;
  }

  pub wheel : (was : Before) (e : Editor) (way : Vertical) → Has s e → Has s (after_wheel d was e way)
  wheel was e way h =
      let top = wheel_top d e way in
      let still : Editor = record e { message = was.message } in
      either (shows_place d e top) s (if top == row_home (rows d e) e.top then still else e) (carried d e top)
      (either (top == row_home (rows d e) e.top) s still e h h) h

  abbrev is_saves : Effect → Bool
  is_saves Saves = true
  is_saves _ = false

  asking-keeps : (fault : Option StoreFault) (was : Before) (e : Editor) (one : Effect) → Has s e → kept.asks_or_seeks one ≡ true → is_saves one ≡ false
      → Has s (by d fault was e one)
  asking-keeps fault was e (Wheels way) h is quiet = wheel was e way h
  asking-keeps fault was e (Seeks purpose) h is quiet = h
  asking-keeps fault was e SeeksNext h is quiet =
      let free = unselected e in
      either (length (sought d free) == 0) s (after_beginning purposes.Find free) (search_from d (next_or_start d free) (sought_alone free)) h h
  asking-keeps fault was e SeeksPrevious h is quiet =
      let free = unselected e in
      either (length (sought d free) == 0) s (after_beginning purposes.Find free) (search_back d (sought_alone free)) h h
  asking-keeps fault was e Saves h is quiet = absurd (cc quiet)
  asking-keeps fault was e AsksLine h is quiet = h
  asking-keeps fault was e AsksName h is quiet = h
  asking-keeps fault was e AsksFile h is quiet = h
  asking-keeps fault was e AsksOverwrite h is quiet = h
  asking-keeps fault was e _ h is quiet = absurd (cc is)

  saves-by : (e : Editor) (key : Key) → is_saves (effect_of d e key) ≡ is_save key
  saves-by e Save = refl
  saves-by e _ = refl

  allowed-by : (refuses : Bool) (one : Effect) → is_saves one ≡ false → is_saves (if refuses then Refuses else one) ≡ false
  allowed-by true one quiet = refl
  allowed-by false one quiet = quiet

  -- any key but Save, where nothing is asked and sought
  pub pressed-other : (fault : Option StoreFault) (was : Before) (e : Editor) (key : Key) → is_save key ≡ false → Has s e
      → Has s (after_pressing d fault was e key)
  pressed-other fault was e key quiet h =
      let one = allowed_effect d e key in
      kept.effect-keeps d (Has s) pressing fault was e one h
      (λ is. asking-keeps fault was e one h is (allowed-by (changes_text key && e.read_only) (effect_of d e key) (saves-by e key ∙ quiet)))

-- ---- a save

-- what is stored then
abbrev pub stored_if : Bool → List ℕ → Editor → Option StoreFault → List ℕ
stored_if saves s e fault = if saves && is_none fault then e.content.text else s

save : (s : List ℕ) (e : Editor) (fault : Option StoreFault) → Has s e → Has (stored_if true s e fault) (after_save e fault)
save s e None h = record { chain = stored-chain s e.content e.stored h.chain; unchanged = λ is. refl }
save s e (Some fault) h = either (is_changed fault.cause) s (record e { prompt = prompts.Overwrite }) e h h

module _ (s : List ℕ) (fault : Option StoreFault) where
  pub no-save : (saves : Bool) (e new : Editor) → saves ≡ false → Has s new → Has (stored_if saves s e fault) new
  no-save saves e new quiet h = subst (λ b. Has (stored_if b s e fault) new) (sym quiet) h

  saved : (e : Editor) (nameless : Bool) → Has s e → Has (stored_if (not nameless) s e fault) (if nameless then asking_name e else after_save e fault)
  saved e true h = h
  saved e false h = save s e fault h

  named-save : (e : Editor) (takes : Bool) → Has s e
      → Has (stored_if true s e fault) (after_save (if takes then with_answered_name e else without_answer e) fault)
  named-save e true h = save s (with_answered_name e) fault h
  named-save e false h = save s (without_answer e) fault h

  pub naming : (e : Editor) (empty : Bool) → Has s e
      → Has (stored_if (not empty) s e fault) (if empty then e else after_save (if takes_name e fault then with_answered_name e else without_answer e) fault)
  naming e true h = h
  naming e false h = named-save e (takes_name e fault) h

  pub deciding : (e : Editor) (typing : Typing) (pasted confirmed reads nameless : Bool) → Has s e
      → let x = without_prompt e in
      Has (stored_if (confirmed && not pasted && not (reads || nameless)) s e fault) (
      if pasted
      then with_typing e typing
      else (if confirmed then (if reads then record x { message = Some messages.ViewOnly } else (if nameless then asking_name x else after_save x fault)) else x)
      )
  deciding e typing true true reads nameless h = h
  deciding e typing true false reads nameless h = h
  deciding e typing false false reads nameless h = h
  deciding e typing false true true nameless h = h
  deciding e typing false true false true h = h
  deciding e typing false true false false h = save s (without_prompt e) fault h

  refused-save : (d : Data) (was : Before) (e : Editor) (reads : Bool) → Has s e
      → Has (stored_if (not (reads || is_nameless e)) s e fault) (by d fault was e (if reads then Refuses else Saves))
  refused-save d was e true h = h
  refused-save d was e false h = saved e (is_nameless e) h

  -- any key where nothing is asked and sought
  pub pressed : (d : Data) (was : Before) (e : Editor) (key : Key) → Has s e
      → Has (stored_if (is_save key && can_save e) s e fault) (after_pressing d fault was e key)
  pressed d was e Save h = refused-save d was e e.read_only h
  pressed d was e key h = pressed-other s d fault was e key refl h

-- ---- a character of an answer

other : (s : List ℕ) (b : Bool) (p q : Editor) → b ≡ false → Has s q → Has s (if b then p else q)
other s b p q quiet k = subst (λ t. Has s (if t then p else q)) (sym quiet) k

module _ (s : List ℕ) (d : Data) where
  going : (e : Editor) (target : Option Target) → Has s e → Has s (gone_to d e target)
  going e None h = h
  going e (Some target) h = h

  with-one : (e : Editor) (c : ℕ) → Has s e → Has s (with_character d e c)
  with-one e c h =
      either (fits e.content.text e.place e.place (encode_utf8 c)) s
      (with_typing (with_insertion d e (encode_utf8 c) false) (after_insertion (kind_of (d.class c)))) (record e { message = Some messages.TextFull })
      (insertion s d e (encode_utf8 c) false h) h

  coding : (e : Editor) (code : Option ℕ) → Has s e → Has s (after_code d e code)
  coding e None h = h
  coding e (Some c) h = with-one e c h

  -- each but a line end of a name
  pub letter : (fault : Option StoreFault) (prompt : Prompt) (e : Editor) (c : ℕ) → (prompt ≡ prompts.File → (c == 0xA) ≡ false) → Has s e
      → Has s (after_answer_letter d fault prompt e c)
  letter fault prompts.Line e c inside h =
      either (c == 0xA) s (after_going d e) (if is_line_letter c then answer_lengthened d longest_line e c else e) (going (without_prompt e) (asked (chars e.answer)) h)
      (either (is_line_letter c) s (answer_lengthened d longest_line e c) e h h)
  letter fault prompts.Code e c inside h =
      let digit = code_letter c in
      let more = answer_lengthened d longest_code e digit in
      either (digit == 0xA) s (after_code d (without_prompt e) (coded e.answer)) (if is_code_letter digit then more else e)
      (coding (without_prompt e) (coded e.answer) h) (either (is_code_letter digit) s more e h h)
  letter fault prompts.File e c inside h =
      let more = answer_lengthened d longest_name e c in
      other s (c == 0xA) (after_naming fault (without_prompt e)) (if is_no_letter d c then e else more) (inside refl)
      (either (is_no_letter d c) s e more h h)
  letter fault prompts.Off e c inside h = h
  letter fault prompts.Name e c inside h = h
  letter fault prompts.Overwrite e c inside h = h

  line-letter : (prompt : Prompt) (search_state : SearchState) (e : Editor) (c : ℕ) → (c == 0xA) ≡ false → Has s e
      → Has s (typed_in d prompt search_state e c)
  line-letter prompts.Off search_state e c inside h = typed-in-search d (Has s) (seeks s d) search_state e c h
  line-letter prompts.Line search_state e c inside h = letter None prompts.Line e c (λ file. inside) h
  line-letter prompts.Name search_state e c inside h = h
  line-letter prompts.Code search_state e c inside h = letter None prompts.Code e c (λ file. inside) h
  line-letter prompts.File search_state e c inside h = letter None prompts.File e c (λ file. inside) h
  line-letter prompts.Overwrite search_state e c inside h = h

  pub line-put : (e : Editor) → Has s e → Has s (after_line_put d e)
  line-put e h =
      in-line-keeps d (Has s) (record {
        cleared = λ x k. k;
        told = λ x k. k;
        typed = λ x c inside k. line-letter x.prompt x.search_state x c (not-true (c == 0xA) inside) k;
      }) e h

  -- a character by its name
  wrapping-one : (e : Editor) (opener closer : ℕ) → Has s e → Has s (after_wrapping d e opener closer)
  wrapping-one e opener closer h =
      let full : Editor = record e { message = Some messages.TextFull } in
      let one = with_wrap d e (encode_utf8 opener) (encode_utf8 closer) in
      let room = fits_both e.content.text (encode_utf8 opener) (encode_utf8 closer) in
      either (spans_lines d e) s (record e { message = Some messages.MoreThanOneLine }) (if room then one else full) h
      (either room s one full (wrapping s d e (encode_utf8 opener) (encode_utf8 closer) h) h)

  named-one : (e : Editor) (c : ℕ) (closer : Option ℕ) → Has s e → Has s (after_named d e c closer)
  named-one e c None h = with-one e c h
  named-one e c (Some closer) h =
      either (is_empty (region e)) s (with_character d e c) (after_wrapping d e c closer) (with-one e c h) (wrapping-one e c closer h)

  pub name-letter : (e : Editor) (l : ℕ) (name : Option ℕ) → Has s e → Has s (after_name_letter d e l name)
  name-letter e l (Some c) h = named-one (without_prompt e) c (closing l) h
  name-letter e l None h =
      either (asks_code l) s (asking e prompts.Code) (if l == 0xA then without_prompt e else e) h (either (l == 0xA) s (without_prompt e) e h h)

  -- ---- typed or pasted

  pub taking : (typing : Typing) (c : ℕ) (e new : Editor) → Has s e → Has s new → Has s (after_taking d typing c e new)
  taking typings.Off c e new h k = k
  taking typings.Word c e new h k = k
  taking typings.Blanks c e new h k = k
  taking typings.Erasing c e new h k = k
  taking typings.Deleting c e new h k = k
  taking typings.Paste c e new h k = either (not (ends_line d c)) s new e k h
  taking typings.Spent c e new h k = h

  -- what of a name is typed
  module _ (fault : Option StoreFault) (e : Editor) (c : ℕ) (h : Has s e) where
    abbrev file_letter : Bool → Editor
    file_letter end =
        if end then after_naming fault (without_prompt e) else (if is_no_letter d c then e else answer_lengthened d longest_name e c)

    typed-file : (end : Bool) → Has (stored_if (end && true && not (length e.answer == 0)) s e fault) (file_letter end)
    typed-file true = naming s fault (without_prompt e) (length e.answer == 0) h
    typed-file false = either (is_no_letter d c) s e (answer_lengthened d longest_name e c) h h

    pasted-file : (end separator : Bool) (typing : Typing)
        → Has (stored_if (end && false && not (length e.answer == 0)) s e fault) (with_typing (if not (end || separator) then file_letter end else e) typing)
    pasted-file true separator typing = h
    pasted-file false true typing = h
    pasted-file false false typing = typed-file false

    spent-file : (end : Bool) → Has (stored_if (end && false && not (length e.answer == 0)) s e fault) (with_typing e typings.Spent)
    spent-file true = h
    spent-file false = h

    pub file : (typing : Typing)
        → Has (stored_if ((c == 0xA) && is_typed typing && not (length e.answer == 0)) s e fault) (after_taking d typing c e (file_letter (c == 0xA)))
    file typings.Off = typed-file (c == 0xA)
    file typings.Word = typed-file (c == 0xA)
    file typings.Blanks = typed-file (c == 0xA)
    file typings.Erasing = typed-file (c == 0xA)
    file typings.Deleting = typed-file (c == 0xA)
    file typings.Paste =
        pasted-file (c == 0xA) (is_separator (d.class c)) (if ends_line d c then typings.Spent else typings.Paste)
    file typings.Spent = spent-file (c == 0xA)
