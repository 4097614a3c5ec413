-- Each key leaves the stored text, or stores its own: so what counts as unchanged is the text that was stored last.
use Rattle.std.proofs.Common.{◌≡◌, ◌∙◌, ℕ, Bool, true, false, List, [], ◌∷◌, length, refl, sym, ap, subst, if◌then◌else◌}
use Rattle.std.specs.Prelude.{◌&&◌, ◌||◌, ◌==◌, not, Option, Some, None, is_some}
use Rattle.std.proofs.lemmas.Bool.{not-true}
use Rattle.bx_common.specs.declared.base.Base.{Base}
use Rattle.bx_keys.specs.declared.key.Key.{Key}
use Rattle.bx_keys.specs.declared.key.Key.TheVariants.{Fill, Insert, Notice, PasteEnd, PasteStart, Repaint, Replace, Save, Size}
use Rattle.bx_store.specs.declared.store.StoreFault.{StoreFault}
use Rattle.bx_ucd.specs.Data.{Data}
use Rattle.bx_editor.specs.declared.answer.Answer.{Answer}
use Rattle.bx_editor.specs.declared.answer.Answer.TheVariants as answers
use Rattle.bx_editor.specs.declared.input_line.Erasure.{Erasure}
use Rattle.bx_editor.specs.declared.questions.answers.Prompt.{Prompt}
use Rattle.bx_editor.specs.declared.questions.answers.Prompt.TheVariants as prompts
use Rattle.bx_editor.specs.declared.search_state.SearchState.{SearchState}
use Rattle.bx_editor.specs.declared.search_state.SearchState.TheVariants.{Off, Begun, Typed, WithBegun, WithTyped, Replacing}
use Rattle.bx_editor.specs.Answering.{answer_of, without_line}
use Rattle.bx_editor.specs.Asking.{after_answer_letter, after_erasing_answer, after_name_key}
use Rattle.bx_editor.specs.Asking.{answer_line, is_code_prompt, is_of_last}
use Rattle.bx_editor.specs.Asking.{with_answer, without_prompt}
use Rattle.bx_editor.specs.Before.{Before, before}
use Rattle.bx_editor.specs.Editor.{Editor, at_start, cleared}
use Rattle.bx_editor.specs.Editor.{with_notice, with_size, with_typing}
use Rattle.bx_editor.specs.Effects.{Refuses, by}
use Rattle.bx_editor.specs.InputLines.{after_taking, erases_nothing, line_shortened}
use Rattle.bx_editor.specs.Keys.{after_any, after_key, after_pressing, answered, answered_match, answered_name, answered_overwrite}
use Rattle.bx_editor.specs.Keys.{answered_question, answered_replacement, ends_name, ends_paste, is_save, is_typed, overwrites}
use Rattle.bx_editor.specs.Keys.{after_press, after_user, refuses_replacing, saving_by, saving_of}
use Rattle.bx_editor.specs.LinePuts.{after_line_put}
use Rattle.bx_editor.specs.Putting.{after_paste_end, after_paste_start, is_paste, paste_ended}
use Rattle.bx_editor.specs.RowMoves.{after_wheel}
use Rattle.bx_editor.specs.Saving.{Saving, can_save, confirms}
use Rattle.bx_editor.specs.Saving.{is_nameless, own_saving, saving_over, saving_under}
use Rattle.bx_editor.specs.Search.{without_search}
use Rattle.bx_editor.specs.questions.KeyLetters.{name_letter}
use Rattle.bx_editor.specs.questions.Names.{named}
use Rattle.bx_editor_laws.specs.Laws.{after_typing}
use Rattle.bx_editor_laws.specs.RunLaws.{saving_editor, stored_by, stored_last, UnchangedIsStored}
use Rattle.bx_editor_laws.proofs.Chains.{opened-chain}
use Rattle.bx_editor_laws.proofs.PasteEnded.{ends-first, over}
use Rattle.bx_editor.proofs.EffectsKept as kept
use Rattle.bx_editor.proofs.InSearch.{each-key}
use Rattle.bx_editor.proofs.Searches.{is_end, match-keeps, query-keeps, replacement-keeps}
use Rattle.bx_editor_laws.proofs.StoredText.{Has, either, no-save, pressed, pressed-other, seeks, wheel, pressing, deciding, letter, line-put, name-letter, taking}
use Rattle.bx_editor_laws.proofs.StoredText.{file, stored_if}

-- ---- each key

-- Save ends all that is asked and sought
save-ends : (key : Key) → (is_end (answer_of key) || not (is_save key)) ≡ true
save-ends Save = refl
save-ends _ = refl

save-ends-name : (key : Key) → (is_end (without_line (answer_of key)) || not (is_save key)) ≡ true
save-ends-name Save = refl
save-ends-name _ = refl

no-key : (saves can : Bool) → (false || not saves) ≡ true → (saves && can) ≡ false
no-key true can it = absurd (cc it)
no-key false can it = refl

pub is-some-if : (b : Bool) (x : Saving) → is_some (if b then Some x else None) ≡ b
is-some-if true x = refl
is-some-if false x = refl

module _ (s : List ℕ) (d : Data) (fault : Option StoreFault) (was : Before) (e : Editor) (key : Key) (h : Has s e) where
  abbrev own_save : Bool
  own_save = is_save key && can_save e

  -- such an answer saves nothing
  none : (new : Editor) → (false || not (is_save key)) ≡ true → Has s new → Has (stored_if own_save s e fault) new
  none new it k = no-save s fault own_save e new (no-key (is_save key) (can_save e) it) k

  query : (one : Answer) → (is_end one || not (is_save key)) ≡ true → Has (stored_if own_save s e fault) (answered d fault was e key one)
  query answers.Ends it = pressed s fault d was (without_search e) key h
  query one it =
      none (answered d fault was e key one) it
      (query-keeps d (Has s) (seeks s d) fault was e key one h (λ ends. absurd (cc ends)) (λ way. wheel s d was e way h) (line-put s d e h))

  replacement : (one : Answer) → (is_end one || not (is_save key)) ≡ true → Has (stored_if own_save s e fault) (answered_replacement d fault was e key one)
  replacement answers.Ends it = pressed s fault d was (without_search e) key h
  replacement one it =
      none (answered_replacement d fault was e key one) it
      (replacement-keeps d (Has s) (seeks s d) fault was e key one h h (λ ends. absurd (cc ends)) (λ way. wheel s d was e way h) (line-put s d e h))

  at-match : (one : Answer) → (is_end one || not (is_save key)) ≡ true → Has (stored_if own_save s e fault) (answered_match d fault was e key one)
  at-match answers.Ends it = pressed s fault d was (without_search e) key h
  at-match one it =
      none (answered_match d fault was e key one) it
      (match-keeps d (Has s) (seeks s d) fault was e key one h h
      (λ ends. pressed-other s d fault was (without_search e) key (not-true (is_save key) it) h) (λ way. wheel s d was e way h))

  -- in a question
  erased : (how : Erasure) → Has s (after_erasing_answer d e.prompt e how)
  erased how =
      let l = answer_line e in
      let shorter = with_answer e (line_shortened d how l) in
      either (is_code_prompt e.prompt && is_of_last how && (length e.answer == 0)) s (record e { prompt = prompts.Name })
      (if erases_nothing d how l then e else shorter) h (either (erases_nothing d how l) s e shorter h h)

  -- what it means if it is no character
  question : (one : Answer) → (is_end one || not (is_save key)) ≡ true → ((c : ℕ) → one ≡ answers.Letter c → ⊥)
      → Has (stored_if own_save s e fault) (answered_question d fault was e key one)
  question (answers.Letter c) it no-letter = absurd (no-letter c refl)
  question (answers.Erases how) it no-letter = none (after_erasing_answer d e.prompt e how) it (erased how)
  question (answers.Moves m) it no-letter = none (answered_question d fault was e key (answers.Moves m)) it h
  question answers.PutsIn it no-letter = none (after_line_put d e) it (line-put s d e h)
  question answers.Passes it no-letter = none e it h
  question answers.GoesBack it no-letter = none (without_prompt e) it h
  question (answers.Scrolls way) it no-letter = none (after_wheel d was e way) it (wheel s d was e way h)
  question answers.Stays it no-letter = none (with_typing e was.typing) it h
  question _ it no-letter = pressed s fault d was (without_prompt e) key h

  -- a character of any answer but a name
  question-letter : (prompt : Prompt) (c : ℕ) → e.prompt ≡ prompt → (prompt ≡ prompts.File → ⊥)
      → Has s (answered_question d fault was e key (answers.Letter c))
  question-letter prompt c is other =
      taking s d was.typing c e (after_answer_letter d fault e.prompt e c) h
      (letter s d fault e.prompt e c (λ file. absurd (other (sym is ∙ file))) h)

  -- a character of a name
  file-letter : (c : ℕ) → e.prompt ≡ prompts.File
      → Has (stored_if ((c == 0xA) && is_typed was.typing && not (length e.answer == 0)) s e fault) (answered_question d fault was e key (answers.Letter c))
  file-letter c is =
      subst (λ p. Has (stored_if ((c == 0xA) && is_typed was.typing && not (length e.answer == 0)) s e fault)
      (after_taking d was.typing c e (after_answer_letter d fault p e c))) (sym is) (file s d fault e c h was.typing)

  name : (one : Answer) → (is_end one || not (is_save key)) ≡ true → Has (stored_if own_save s e fault) (answered_name d fault was e key one)
  name (answers.Letter c) it =
      none (answered_name d fault was e key (answers.Letter c)) it
      (either (is_paste was.typing) s (with_typing e was.typing) (after_name_key d e c) h (name-letter s d e (name_letter c) (named (name_letter c)) h))
  name (answers.Erases how) it = none e it h
  name answers.GoesBack it = none (without_prompt e) it h
  name (answers.Scrolls way) it = none (after_wheel d was e way) it (wheel s d was e way h)
  name answers.Stays it = none (with_typing e was.typing) it h
  name _ it = pressed s fault d was (without_prompt e) key h

  -- a character that answers whether to overwrite
  overwriting : (c : ℕ)
      → Has (stored_if (confirms c && not (is_paste was.typing) && can_save e) s e fault) (answered_overwrite fault was e (answers.Letter c))
  overwriting c = deciding s fault e was.typing (is_paste was.typing) (confirms c) e.read_only (is_nameless e) h

-- ---- any key where no paste is under way

-- `x` is the editor as the key finds it
module _ (s : List ℕ) (d : Data) (fault : Option StoreFault) (x : Editor) (key : Key) (h : Has s x) where
  abbrev e : Editor
  e = cleared x

  -- what such a key stores
  abbrev StoredBy : Option Saving → Editor → Type 0
  StoredBy saving new = Has (stored_if (is_some saving) s x fault) new

  as-own : (new : Editor) → Has (stored_if (is_save key && can_save x) s x fault) new
      → StoredBy (if is_save key && can_save x then Some (own_saving x x.name) else None) new
  as-own new k = subst (λ b. Has (stored_if b s x fault) new) (sym (is-some-if (is_save key && can_save x) (own_saving x x.name))) k

  stored-at : (b : Bool) (saving : Saving) (new : Editor) → Has (stored_if b s x fault) new → StoredBy (if b then Some saving else None) new
  stored-at b saving new k = subst (λ t. Has (stored_if t s x fault) new) (sym (is-some-if b saving)) k

  -- a question that is answered with a line, other than a name
  line-question : (prompt : Prompt) → e.prompt ≡ prompt → (prompt ≡ prompts.File → ⊥) → (one : Answer) → (is_end one || not (is_save key)) ≡ true
      → Has (stored_if (is_save key && can_save x) s x fault) (answered_question d fault (before x) e key one)
  line-question prompt is other (answers.Letter c) it =
      none s d fault (before x) e key h (answered_question d fault (before x) e key (answers.Letter c)) it
      (question-letter s d fault (before x) e key h prompt c is other)
  line-question prompt is other one it = question s d fault (before x) e key h one it (λ c is-letter. cc is-letter)

  file-question : e.prompt ≡ prompts.File → (one : Answer) → (is_end one || not (is_save key)) ≡ true
      → StoredBy (saving_by x prompts.File key one) (answered_question d fault (before x) e key one)
  file-question is (answers.Letter c) it =
      stored-at (ends_name x c) (saving_under x x.answer) (answered_question d fault (before x) e key (answers.Letter c))
      (file-letter s d fault (before x) e key h c is)
  file-question is one it = as-own (answered_question d fault (before x) e key one) (question s d fault (before x) e key h one it (λ c is-letter. cc is-letter))

  overwrite : (one : Answer) → StoredBy (saving_by x prompts.Overwrite key one) (answered_overwrite fault (before x) e one)
  overwrite (answers.Letter c) =
      stored-at (overwrites x c) (saving_over x) (answered_overwrite fault (before x) e (answers.Letter c)) (overwriting s d fault (before x) e key h c)
  overwrite _ = h

  any : (prompt : Prompt) (search_state : SearchState) → e.prompt ≡ prompt
      → StoredBy (saving_by x prompt key (answer_of key)) (after_any d fault (before x) prompt search_state e key)
  any prompts.Off Off is = as-own (after_pressing d fault (before x) e key) (pressed s fault d (before x) e key h)
  any prompts.Off Begun is = as-own (answered d fault (before x) e key (answer_of key)) (query s d fault (before x) e key h (answer_of key) (save-ends key))
  any prompts.Off Typed is = as-own (answered d fault (before x) e key (answer_of key)) (query s d fault (before x) e key h (answer_of key) (save-ends key))
  any prompts.Off WithBegun is =
      as-own (answered_replacement d fault (before x) e key (answer_of key)) (replacement s d fault (before x) e key h (answer_of key) (save-ends key))
  any prompts.Off WithTyped is =
      as-own (answered_replacement d fault (before x) e key (answer_of key)) (replacement s d fault (before x) e key h (answer_of key) (save-ends key))
  any prompts.Off Replacing is =
      let one = without_line (answer_of key) in
      as-own (answered_match d fault (before x) e key one) (at-match s d fault (before x) e key h one (save-ends-name key))
  any prompts.Line search_state is =
      as-own (answered_question d fault (before x) e key (answer_of key)) (line-question prompts.Line is (λ file. cc file) (answer_of key) (save-ends key))
  any prompts.Code search_state is =
      as-own (answered_question d fault (before x) e key (answer_of key)) (line-question prompts.Code is (λ file. cc file) (answer_of key) (save-ends key))
  any prompts.Name search_state is =
      let one = without_line (answer_of key) in
      as-own (answered_name d fault (before x) e key one) (name s d fault (before x) e key h one (save-ends-name key))
  any prompts.File search_state is = file-question is (answer_of key) (save-ends key)
  any prompts.Overwrite search_state is = overwrite (answer_of key)

  -- a key that is refused
  replace-saves : (prompt : Prompt) → is_some (saving_by x prompt Replace answers.Replaces) ≡ false
  replace-saves prompts.Off = refl
  replace-saves prompts.Line = refl
  replace-saves prompts.Name = refl
  replace-saves prompts.Code = refl
  replace-saves prompts.File = refl
  replace-saves prompts.Overwrite = refl

  refused : (one : Key) → refuses_replacing x one ≡ true → Has (stored_if (is_some (saving_by x x.prompt one (answer_of one))) s x fault) (by d fault (before x) e Refuses)
  refused Replace is = no-save s fault (is_some (saving_by x x.prompt Replace answers.Replaces)) x (by d fault (before x) e Refuses) (replace-saves x.prompt) h
  refused _ is = absurd (cc is)

  user-by : (b : Bool) → refuses_replacing x key ≡ b
      → StoredBy (saving_by x x.prompt key (answer_of key))
      (if b then by d fault (before x) e Refuses else after_any d fault (before x) x.prompt x.search_state e key)
  user-by true is = refused key is
  user-by false is = any x.prompt x.search_state refl

  user : StoredBy (saving_by x x.prompt key (answer_of key)) (after_user d fault x key)
  user = user-by (refuses_replacing x key) refl

-- ---- what a key that is told stores: nothing

own-none : (x : Editor) (key : Key) → is_save key ≡ false → is_some (if is_save key && can_save x then Some (own_saving x x.name) else None) ≡ false
own-none x key quiet = is-some-if (is_save key && can_save x) (own_saving x x.name) ∙ ap (λ b. b && can_save x) quiet

by-save : (b : Bool) (saving : Option Saving) → is_some saving ≡ false → is_some (if not b then None else saving) ≡ false
by-save true saving quiet = quiet
by-save false saving quiet = refl

saves-none : (x : Editor) (key : Key) (prompt : Prompt) → is_save key ≡ false → is_some (saving_by x prompt key answers.Ends) ≡ false
saves-none x key prompts.Off quiet = own-none x key quiet
saves-none x key prompts.Line quiet = own-none x key quiet
saves-none x key prompts.Name quiet = own-none x key quiet
saves-none x key prompts.Code quiet = own-none x key quiet
saves-none x key prompts.File quiet = own-none x key quiet
saves-none x key prompts.Overwrite quiet = refl

pub saving-settled : (x : Editor) (key : Key) → x.pasted ≡ None → saving_of x key ≡ saving_by x x.prompt key (answer_of key)
saving-settled x key settled = ap (λ p. if is_some p && not (is_save key) then None else saving_by x x.prompt key (answer_of key)) settled

saving-quiet : (x : Editor) (key : Key) (p : Option (List ℕ)) → is_some (saving_by x x.prompt key (answer_of key)) ≡ false
    → is_some (if is_some p && not (is_save key) then None else saving_by x x.prompt key (answer_of key)) ≡ false
saving-quiet x key None quiet = quiet
saving-quiet x key (Some list) quiet = by-save (is_save key) (saving_by x x.prompt key (answer_of key)) quiet

pub told-saves : (x : Editor) (key : Key) → answer_of key ≡ answers.Ends → is_save key ≡ false → is_some (saving_of x key) ≡ false
told-saves x key ends quiet = saving-quiet x key x.pasted (ap (λ a. is_some (saving_by x x.prompt key a)) ends ∙ saves-none x key x.prompt quiet)

pub repaint-saves : (x : Editor) (prompt : Prompt) → is_some (saving_by x prompt Repaint answers.Stays) ≡ false
repaint-saves x prompts.Off = refl
repaint-saves x prompts.Line = refl
repaint-saves x prompts.Name = refl
repaint-saves x prompts.Code = refl
repaint-saves x prompts.File = refl
repaint-saves x prompts.Overwrite = refl

-- by what a paste has brought
abbrev saving_in : Editor → Option (List ℕ) → Key → Option Saving
saving_in x pasted key = if is_some pasted && not (is_save key) then None else saving_by x x.prompt key (answer_of key)

module _ (s : List ℕ) (d : Data) (fault : Option StoreFault) where
  repainted : (x : Editor) → Has s x → Has s (after_user d fault x Repaint)
  repainted x h =
      subst (λ b. Has (stored_if b s x fault) (after_user d fault x Repaint)) (repaint-saves x x.prompt) (user s d fault x Repaint h)

  pastes : kept.IsKeptPasting (Has s)
  pastes = record { pasted = λ e pasted message typing h. h; lengthened = λ e pasted soft h. h; unpressed = λ e h. h }

  told : (x : Editor) (k : Key) (new : Editor) → answer_of k ≡ answers.Ends → is_save k ≡ false → Has s new
      → Has (stored_if (is_some (saving_of x k)) s x fault) new
  told x k new ends quiet has = no-save s fault (is_some (saving_of x k)) x new (told-saves x k ends quiet) has

  -- no paste is under way
  settled-has : (x : Editor) → x.pasted ≡ None → Has s x → (key : Key) → Has (stored_if (is_some (saving_of x key)) s x fault) (after_key d fault x key)
  settled-has x settled h key =
      each-key d fault x (λ k new. Has (stored_if (is_some (saving_of x k)) s x fault) new)
      (λ height width. told x (Size height width) (with_size x height width) refl refl h)
      (λ notice. told x (Notice notice) (with_notice x notice) refl refl h)
      (told x Fill x refl refl h) (
        told x PasteStart (after_paste_start x) refl refl (kept.start-keeps (Has s) pastes x h),
        told x PasteEnd (after_paste_end d x) refl refl (kept.paste-end-keeps d (Has s) (pressing s d) pastes x h),
      )
      (λ k small.
      subst (λ p. Has (stored_if (is_some (saving_of x k)) s x fault) (after_press d fault p x k)) (sym settled)
      (subst (λ saving. Has (stored_if (is_some saving) s x fault) (after_user d fault x k)) (sym (saving-settled x k settled)) (user s d fault x k h)))
      key

  -- a character while one is
  in-paste : (x : Editor) (list : List ℕ) → x.pasted ≡ Some list → Has s x → (key : Key) → ends_paste key ≡ false
      → Has (stored_if (is_some (saving_of x key)) s x fault) (after_key d fault x key)
  in-paste x list pasted h (Insert c) stays =
      subst (λ p. Has (stored_if (is_some (saving_in x p (Insert c))) s x fault) (after_press d fault p x (Insert c))) (sym pasted) h
  in-paste x list pasted h Repaint stays =
      no-save s fault (is_some (saving_of x Repaint)) x (after_key d fault x Repaint) (saving-quiet x Repaint x.pasted (repaint-saves x x.prompt))
      (subst (λ p. Has s (after_press d fault p x Repaint)) (sym pasted) (repainted x h))
  in-paste x list pasted h Fill stays = no-save s fault (is_some (saving_of x Fill)) x x (told-saves x Fill refl refl) h
  in-paste x list pasted h PasteStart stays =
      no-save s fault (is_some (saving_of x PasteStart)) x (after_paste_start x) (told-saves x PasteStart refl refl) (kept.start-keeps (Has s) pastes x h)
  in-paste x list pasted h (Size height width) stays =
      no-save s fault (is_some (saving_of x (Size height width))) x (with_size x height width) (told-saves x (Size height width) refl refl) h
  in-paste x list pasted h (Notice notice) stays =
      no-save s fault (is_some (saving_of x (Notice notice))) x (with_notice x notice) (told-saves x (Notice notice) refl refl) h
  in-paste x list pasted h _ stays = absurd (cc stays)

  ended : (e : Editor) → Has s e → Has s (paste_ended d e)
  ended e h = kept.ended-keeps d (Has s) (pressing s d) pastes e h

  by-paste : (e : Editor) (key : Key) (pasted : Option (List ℕ)) → e.pasted ≡ pasted → Has s e → ends_paste key ≡ false
      → Has (stored_if (is_some (saving_of e key)) s e fault) (after_key d fault e key)
  by-paste e key None is h stays = settled-has e is h key
  by-paste e key (Some list) is h stays = in-paste e list is h key stays

  by-end : (e : Editor) (key : Key) (ends : Bool) → ends_paste key ≡ ends → Has s e
      → let x : Editor = if ends then paste_ended d e else e in Has (stored_if (is_some (saving_of x key)) s x fault) (after_key d fault e key)
  by-end e key true ends h =
      let x = paste_ended d e in
      subst (Has (stored_if (is_some (saving_of x key)) s x fault)) (sym (ends-first d fault e key ends)) (settled-has x (over d e) (ended e h) key)
  by-end e key false ends h = by-paste e key e.pasted refl h ends

  key-has : (e : Editor) (key : Key) → Has s e
      → let x = saving_editor d e key in Has (stored_if (is_some (saving_of x key)) s x fault) (after_key d fault e key)
  key-has e key h = by-end e key (ends_paste key) refl h

all-typed : (s : List ℕ) (d : Data) (e : Editor) (typed : List (Key × Option StoreFault)) → Has s e
    → Has (stored_last d s e typed) (after_typing d e typed)
all-typed s d e [] h = h
all-typed s d e (key ∷ typed) h =
    all-typed (stored_by d s e key.0 key.1) d (after_key d key.1 e key.0) typed (key-has s d key.1 e key.0 h)

pub typed-has : (d : Data) (text : List ℕ) (height width : ℕ) (base : Base) (typed : List (Key × Option StoreFault))
    → let start = at_start text height width base in Has (stored_last d text start typed) (after_typing d start typed)
typed-has d text height width base typed =
    all-typed text d (at_start text height width base) typed (record { chain = opened-chain text; unchanged = λ is. refl })

pub unchanged-is-stored : UnchangedIsStored
unchanged-is-stored d text height width base typed = (typed-has d text height width base typed).unchanged
