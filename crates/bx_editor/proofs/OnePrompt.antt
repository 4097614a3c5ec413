-- No key leaves a search on while something is asked.
use Rattle.std.proofs.Common.{◌≡◌, ℕ, Bool, true, false, List, [], ◌∷◌, length, Option, Some, None, refl, ap, subst, sym, ◌∙◌, if◌then◌else◌}
use Rattle.std.specs.Prelude.{◌==◌, ◌&&◌}
use Rattle.bx_keys.specs.declared.key.Key.{Key}
use Rattle.bx_store.specs.declared.store.StoreFault.{StoreFault}
use Rattle.bx_ucd.specs.Data.{Data}
use Rattle.bx_view.specs.declared.moves.Vertical.{Vertical}
use Rattle.bx_view.specs.Moves.{row_home}
use Rattle.bx_editor.specs.declared.answer.Answer.{Answer}
use Rattle.bx_editor.specs.declared.answer.Answer.TheVariants.{Letter, Erases, Moves, PutsIn, Passes, GoesBack, Next, Previous, Replaces, Scrolls, Stays, Ends}
use Rattle.bx_editor.specs.declared.questions.answers.Prompt.{Prompt}
use Rattle.bx_editor.specs.declared.questions.answers.Prompt.TheVariants as prompts
use Rattle.bx_editor.specs.declared.search_state.SearchState.{SearchState}
use Rattle.bx_editor.specs.declared.search_state.SearchState.TheVariants.{Off, Begun, Typed, WithBegun, WithTyped, Replacing}
use Rattle.bx_editor.specs.Answering.{answer_of, without_line}
use Rattle.bx_editor.specs.Asking.{after_answer_letter, after_name_key, without_prompt}
use Rattle.bx_editor.specs.Before.{Before, before}
use Rattle.bx_editor.specs.declared.message.Message.TheVariants.{TextFull, ViewOnly}
use Rattle.bx_editor.specs.Editor.{Editor, cleared, rows, with_exchange, with_insertion, with_typing}
use Rattle.bx_editor.specs.Effects.{Effect, AsksLine, AsksName, AsksFile, AsksOverwrite, Refuses, Saves, Wheels, by}
use Rattle.bx_editor.specs.Keys.{after_any, after_asking, after_key, after_pressing, after_user, allowed_effect}
use Rattle.bx_editor.specs.Keys.{answered, answered_match, answered_name, answered_overwrite, answered_question, answered_replacement, refuses_replacing}
use Rattle.bx_editor.specs.LinePuts.{after_line_put, typed_in, typed_in_search}
use Rattle.bx_editor.specs.Putting.{ended_with, is_paste, paste_ended, without_paste, has_room, put_in, with_selection_replaced}
use Rattle.bx_editor.specs.Prompts.{HasOnePrompt}
use Rattle.bx_editor.specs.Saving.{after_deciding}
use Rattle.bx_editor.specs.Search.{as_typed, without_search}
use Rattle.bx_editor.specs.questions.KeyLetters.{name_letter}
use Rattle.bx_editor.specs.questions.Names.{named}
use Rattle.bx_editor.specs.Region.{is_selection}
use Rattle.bx_editor.specs.RowMoves.{after_wheel, carried, shows_place, wheel_top}
use Rattle.bx_editor.proofs.EffectsKept as kept
use Rattle.bx_editor.proofs.InSearch.{each-key, press-keeps}
use Rattle.bx_editor.proofs.LinePutsKept.{IsKeptTyping, line-put-keeps}
use Rattle.bx_editor.proofs.QuestionKept.{effect-keeps}
use Rattle.bx_editor.proofs.QuestionSteps.{IsKept, erasing-keeps, letter-keeps, name-letter-keeps, taking}
use Rattle.bx_editor.proofs.Saved.{IsKeptSaving, deciding-keeps, naming-keeps, saving-keeps}
use Rattle.bx_editor.proofs.Searches.{IsKeptSeeking, match-keeps, replacement-keeps, query-keeps, typed-in-search}

either : (P : Editor → Type 0) (b : Bool) (p q : Editor) → P p → P q → P (if b then p else q)
either P true p q h k = h
either P false p q h k = k

abbrev IsUnasked : Editor → Type 0
IsUnasked e = e.prompt ≡ prompts.Off

abbrev IsUnsought : Editor → Type 0
IsUnsought e = e.search_state ≡ Off

-- nothing is asked
free : (e : Editor) → IsUnasked e → HasOnePrompt e
free e unasked asked = absurd (asked unasked)

-- no search is on
quiet : (e : Editor) → IsUnsought e → HasOnePrompt e
quiet e off asked = off

-- ---- the wheel

wheeled : (P : Editor → Type 0) (told : (e : Editor) (was : Before) → P e → P (record e { message = was.message })) (d : Data) (was : Before) (e : Editor)
    (way : Vertical) → P e → P (carried d e (wheel_top d e way)) → P (after_wheel d was e way)
wheeled P told d was e way h far =
    let top = wheel_top d e way in
    either P (shows_place d e top) (if top == row_home (rows d e) e.top then record e { message = was.message } else e) (carried d e top)
    (either P (top == row_home (rows d e) e.top) (record e { message = was.message }) e (told e was h) h) far

wheel-unasked : (d : Data) (was : Before) (e : Editor) (way : Vertical) → IsUnasked e → IsUnasked (after_wheel d was e way)
wheel-unasked d was e way unasked = wheeled IsUnasked (λ x was h. h) d was e way unasked refl

wheel-one : (d : Data) (was : Before) (e : Editor) (way : Vertical) → HasOnePrompt e → HasOnePrompt (after_wheel d was e way)
wheel-one d was e way one = wheeled HasOnePrompt (λ x was h. h) d was e way one (λ asked. refl)

-- ---- a save

unsought-saving : IsKeptSaving IsUnsought
unsought-saving = record {
  stored = λ e stored changed home message off. off;
  asked = λ e prompt answer cursor off. off;
  named = λ e name answer off. off;
}

-- ---- a key outside a search and a question

effect : (d : Data) (fault : Option StoreFault) (was : Before) (e : Editor) (one : Effect) → IsUnasked e → IsUnsought e
    → HasOnePrompt (by d fault was e one)
effect d fault was e AsksLine unasked off = λ asked. off
effect d fault was e AsksName unasked off = λ asked. off
effect d fault was e AsksFile unasked off = λ asked. off
effect d fault was e AsksOverwrite unasked off = λ asked. off
effect d fault was e Saves unasked off = quiet (by d fault was e Saves) (saving-keeps IsUnsought unsought-saving fault e off)
effect d fault was e (Wheels way) unasked off = free (by d fault was e (Wheels way)) (wheel-unasked d was e way unasked)
effect d fault was e one unasked off = free (by d fault was e one) ((effect-keeps d fault was e one refl).0 ∙ unasked)

pressing : (d : Data) (fault : Option StoreFault) (was : Before) (e : Editor) (key : Key) → IsUnasked e → IsUnsought e
    → HasOnePrompt (after_pressing d fault was e key)
pressing d fault was e key unasked off = effect d fault was e (allowed_effect d e key) unasked off

-- ---- in a search

unasked-seeking : (d : Data) → IsKeptSeeking d IsUnasked
unasked-seeking d = record {
  exchanged = λ e start stop new h. h;
  told = λ e message h. h;
  placed = λ e place h. h;
  typed = λ e typing h. h;
  sought = λ e search_state purpose origin query other at count cursor h. h;
}

unasked-typed : (d : Data) (e : Editor) (c : ℕ) → IsUnasked e → IsUnasked (typed_in d e.prompt e.search_state e c)
unasked-typed d e c unasked =
    subst (λ prompt. IsUnasked (typed_in d prompt e.search_state e c)) (sym unasked)
    (typed-in-search d IsUnasked (unasked-seeking d) e.search_state e c unasked)

unasked-put : (d : Data) (e : Editor) → IsUnasked e → IsUnasked (after_line_put d e)
unasked-put d e unasked =
    line-put-keeps d IsUnasked (record { cleared = λ x h. h; told = λ x h. h; typed = unasked-typed d }) e unasked

answer : (d : Data) (fault : Option StoreFault) (was : Before) (e : Editor) (key : Key) (one : Answer) → IsUnasked e
    → HasOnePrompt (answered d fault was e key one)
answer d fault was e key Ends unasked = pressing d fault was (without_search e) key unasked refl
answer d fault was e key one unasked =
    free (answered d fault was e key one)
    (query-keeps d IsUnasked (unasked-seeking d) fault was e key one unasked (λ ends. absurd (cc ends)) (λ way. wheel-unasked d was e way unasked)
    (unasked-put d e unasked))

replacement : (d : Data) (fault : Option StoreFault) (was : Before) (e : Editor) (key : Key) (one : Answer) → IsUnasked e
    → HasOnePrompt (answered_replacement d fault was e key one)
replacement d fault was e key Ends unasked = pressing d fault was (without_search e) key unasked refl
replacement d fault was e key one unasked =
    free (answered_replacement d fault was e key one)
    (replacement-keeps d IsUnasked (unasked-seeking d) fault was e key one unasked unasked (λ ends. absurd (cc ends))
    (λ way. wheel-unasked d was e way unasked) (unasked-put d e unasked))

at-match : (d : Data) (fault : Option StoreFault) (was : Before) (e : Editor) (key : Key) (one : Answer) → IsUnasked e
    → HasOnePrompt (answered_match d fault was e key one)
at-match d fault was e key (Moves m) unasked = pressing d fault was (without_search e) key unasked refl
at-match d fault was e key PutsIn unasked = pressing d fault was (without_search e) key unasked refl
at-match d fault was e key Passes unasked = pressing d fault was (without_search e) key unasked refl
at-match d fault was e key Ends unasked = pressing d fault was (without_search e) key unasked refl
at-match d fault was e key one unasked =
    free (answered_match d fault was e key one)
    (match-keeps d IsUnasked (unasked-seeking d) fault was e key one unasked unasked (λ ends. absurd (cc ends))
    (λ way. wheel-unasked d was e way unasked))

-- ---- in a question

unsought : (d : Data) → IsKept d IsUnsought
unsought d = record {
  inserted = λ e new off. refl;
  wrapped = λ e opener closer off. refl;
  told = λ e message off. off;
  placed = λ e place off. off;
  typed = λ e typing off. off;
  asked = λ e prompt answer cursor off. off;
  unasked = λ e off. refl;
  moved = λ e text m off. ap as_typed off;
  saved = λ fault e off. naming-keeps IsUnsought unsought-saving fault e off;
}

typed-by : (d : Data) (prompt : Prompt) (e : Editor) (c : ℕ) → IsUnsought e → IsUnsought (typed_in d prompt e.search_state e c)
typed-by d prompts.Off e c off = subst (λ search_state. IsUnsought (typed_in_search d search_state e c)) (sym off) off
typed-by d prompts.Line e c off = letter-keeps d IsUnsought (unsought d) None prompts.Line e c off
typed-by d prompts.Name e c off = letter-keeps d IsUnsought (unsought d) None prompts.Name e c off
typed-by d prompts.Code e c off = letter-keeps d IsUnsought (unsought d) None prompts.Code e c off
typed-by d prompts.File e c off = letter-keeps d IsUnsought (unsought d) None prompts.File e c off
typed-by d prompts.Overwrite e c off = letter-keeps d IsUnsought (unsought d) None prompts.Overwrite e c off

unsought-put : (d : Data) (e : Editor) → IsUnsought e → IsUnsought (after_line_put d e)
unsought-put d e off =
    line-put-keeps d IsUnsought (record { cleared = λ x h. h; told = λ x h. h; typed = λ x c h. typed-by d x.prompt x c h }) e off

question : (d : Data) (fault : Option StoreFault) (was : Before) (e : Editor) (key : Key) (one : Answer) → IsUnsought e
    → HasOnePrompt (answered_question d fault was e key one)
question d fault was e key (Letter c) off = λ asked.
    taking d IsUnsought (unsought d) was.typing c e (after_answer_letter d fault e.prompt e c) off
    (letter-keeps d IsUnsought (unsought d) fault e.prompt e c off)
question d fault was e key (Erases how) off = λ asked. erasing-keeps d IsUnsought (unsought d) e.prompt e how off
question d fault was e key (Moves m) off = λ asked. ap as_typed off
question d fault was e key PutsIn off = λ asked. unsought-put d e off
question d fault was e key Passes off = λ asked. off
question d fault was e key GoesBack off = λ asked. refl
question d fault was e key Next off = pressing d fault was (without_prompt e) key refl refl
question d fault was e key Previous off = pressing d fault was (without_prompt e) key refl refl
question d fault was e key Replaces off = pressing d fault was (without_prompt e) key refl refl
question d fault was e key (Scrolls way) off = wheel-one d was e way (λ asked. off)
question d fault was e key Stays off = λ asked. off
question d fault was e key Ends off = pressing d fault was (without_prompt e) key refl refl

name : (d : Data) (fault : Option StoreFault) (was : Before) (e : Editor) (key : Key) (one : Answer) → IsUnsought e
    → HasOnePrompt (answered_name d fault was e key one)
name d fault was e key (Letter c) off = λ asked.
    either IsUnsought (is_paste was.typing) (with_typing e was.typing) (after_name_key d e c) off
    (name-letter-keeps d IsUnsought (unsought d) e (name_letter c) (named (name_letter c)) off)
name d fault was e key (Erases how) off = λ asked. off
name d fault was e key (Moves m) off = pressing d fault was (without_prompt e) key refl refl
name d fault was e key PutsIn off = pressing d fault was (without_prompt e) key refl refl
name d fault was e key Passes off = pressing d fault was (without_prompt e) key refl refl
name d fault was e key GoesBack off = λ asked. refl
name d fault was e key Next off = pressing d fault was (without_prompt e) key refl refl
name d fault was e key Previous off = pressing d fault was (without_prompt e) key refl refl
name d fault was e key Replaces off = pressing d fault was (without_prompt e) key refl refl
name d fault was e key (Scrolls way) off = wheel-one d was e way (λ asked. off)
name d fault was e key Stays off = λ asked. off
name d fault was e key Ends off = pressing d fault was (without_prompt e) key refl refl

overwrite : (fault : Option StoreFault) (was : Before) (e : Editor) (one : Answer) → IsUnsought e → HasOnePrompt (answered_overwrite fault was e one)
overwrite fault was e (Letter c) off = λ asked.
    either IsUnsought (is_paste was.typing) (with_typing e was.typing) (after_deciding fault (without_prompt e) c) off
    (deciding-keeps IsUnsought unsought-saving fault (without_prompt e) c refl)
overwrite fault was e Stays off = λ asked. off
overwrite fault was e (Erases how) off = λ asked. refl
overwrite fault was e (Moves m) off = λ asked. refl
overwrite fault was e PutsIn off = λ asked. refl
overwrite fault was e Passes off = λ asked. refl
overwrite fault was e GoesBack off = λ asked. refl
overwrite fault was e Next off = λ asked. refl
overwrite fault was e Previous off = λ asked. refl
overwrite fault was e Replaces off = λ asked. refl
overwrite fault was e (Scrolls way) off = λ asked. refl
overwrite fault was e Ends off = λ asked. refl

-- ---- any key

-- what is asked is no Off
other : (e : Editor) (prompt : Prompt) → e.prompt ≡ prompt → (prompt ≡ prompts.Off → ⊥) → HasOnePrompt e → IsUnsought e
other e prompt is some one = one (λ off. some (sym is ∙ off))

any : (d : Data) (fault : Option StoreFault) (was : Before) (prompt : Prompt) (search_state : SearchState) (e : Editor) (key : Key) → e.prompt ≡ prompt
    → e.search_state ≡ search_state → HasOnePrompt e → HasOnePrompt (after_any d fault was prompt search_state e key)
any d fault was prompts.Off Off e key is unsought one = pressing d fault was e key is unsought
any d fault was prompts.Off Begun e key is on one = answer d fault was e key (answer_of key) is
any d fault was prompts.Off Typed e key is on one = answer d fault was e key (answer_of key) is
any d fault was prompts.Off WithBegun e key is on one = replacement d fault was e key (answer_of key) is
any d fault was prompts.Off WithTyped e key is on one = replacement d fault was e key (answer_of key) is
any d fault was prompts.Off Replacing e key is on one = at-match d fault was e key (without_line (answer_of key)) is
any d fault was prompts.Line search_state e key is state one = question d fault was e key (answer_of key) (other e prompts.Line is (λ off. cc off) one)
any d fault was prompts.Name search_state e key is state one = name d fault was e key (without_line (answer_of key)) (other e prompts.Name is (λ off. cc off) one)
any d fault was prompts.Code search_state e key is state one = question d fault was e key (answer_of key) (other e prompts.Code is (λ off. cc off) one)
any d fault was prompts.File search_state e key is state one = question d fault was e key (answer_of key) (other e prompts.File is (λ off. cc off) one)
any d fault was prompts.Overwrite search_state e key is state one = overwrite fault was e (answer_of key) (other e prompts.Overwrite is (λ off. cc off) one)

user-one : (d : Data) (fault : Option StoreFault) (e : Editor) (key : Key) → HasOnePrompt e → HasOnePrompt (after_user d fault e key)
user-one d fault e key one =
    either HasOnePrompt (refuses_replacing e key) (by d fault (before e) (cleared e) Refuses)
    (after_any d fault (before e) e.prompt e.search_state (cleared e) key) one
    (any d fault (before e) e.prompt e.search_state (cleared e) key refl refl one)

-- ---- a paste

put-one : (d : Data) (e : Editor) (new : List ℕ) → HasOnePrompt e → HasOnePrompt (put_in d e new false)
put-one d e new one =
    let two = with_selection_replaced d e new in
    let one_edit = with_insertion d e new false in
    either HasOnePrompt (has_room e new) (if is_selection e then two else one_edit) (record e { message = Some TextFull })
    (either HasOnePrompt (is_selection e) two one_edit (λ asked. refl) (λ asked. refl)) one

list-one : (d : Data) (e : Editor) (pasted : Option (List ℕ)) → HasOnePrompt e → HasOnePrompt (ended_with d e pasted)
list-one d e None one = one
list-one d e (Some list) one =
    let left = without_paste e in
    either HasOnePrompt (length list == 0) left (put_in d left list false) one (put-one d left list one)

ended-one : (d : Data) (e : Editor) → HasOnePrompt e → HasOnePrompt (paste_ended d e)
ended-one d e one = list-one d e e.pasted one

pasting-one : kept.IsKeptPasting HasOnePrompt
pasting-one = record {
  pasted = λ e pasted message typing one. one;
  lengthened = λ e pasted soft one. one;
  unpressed = λ e one. one;
}

pub keeps-one-prompt : (d : Data) (fault : Option StoreFault) (e : Editor) (key : Key) → HasOnePrompt e → HasOnePrompt (after_key d fault e key)
keeps-one-prompt d fault e key one =
    each-key d fault e (λ k new. HasOnePrompt new) (λ height width. one) (λ notice. one) one
    (kept.start-keeps HasOnePrompt pasting-one e one, ended-one d e one)
    (λ k small. press-keeps d fault e HasOnePrompt k (λ e one. user-one d fault e k one) (ended-one d) (λ c. one) one) key
