-- What keys make of the line that a prompt shows.
use Rattle.std.proofs.Common.{◌≡◌, ◌∙◌, ℕ, ◌==◌, Bool, true, false, List, [], length}
use Rattle.std.proofs.Common.{Option, Some, None, refl, sym, ap, subst, if◌then◌else◌}
use Rattle.std.specs.Prelude.{◌&&◌}
use Rattle.bx_keys.specs.declared.key.Key.{Key}
use Rattle.bx_keys.specs.declared.key.Key.TheVariants.{Insert}
use Rattle.bx_keys.specs.declared.key.Key.TheVariants.{Fill, Notice, PasteStart, PasteEnd, Replace, Size}
use Rattle.bx_store.specs.declared.store.StoreFault.{StoreFault}
use Rattle.bx_ucd.specs.Data.{Data}
use Rattle.bx_view.specs.declared.moves.Move.{Move}
use Rattle.bx_editor.specs.declared.answer.Answer.TheVariants as answers
use Rattle.bx_editor.specs.declared.input_line.Erasure.{Erasure}
use Rattle.bx_editor.specs.declared.questions.answers.Prompt.{Prompt}
use Rattle.bx_editor.specs.declared.questions.answers.Prompt.TheVariants as prompts
use Rattle.bx_editor.specs.declared.search_state.SearchState.{SearchState}
use Rattle.bx_editor.specs.declared.search_state.SearchState.TheVariants.{Off, Begun, Typed, WithBegun, WithTyped, Replacing}
use Rattle.bx_editor.specs.declared.undo_groups.typing.Typing.{Typing}
use Rattle.bx_editor.specs.Answering.{answer_of}
use Rattle.bx_editor.specs.Asking.{after_answer_letter, after_code, after_going, answer_lengthened, answer_line, is_of_last, longest_code, longest_line}
use Rattle.bx_editor.specs.Asking.{with_answer, without_prompt}
use Rattle.bx_editor.specs.Before.{Before}
use Rattle.bx_editor.specs.Editor.{Editor, cleared}
use Rattle.bx_editor.specs.Functions.{is_told_key}
use Rattle.bx_editor.specs.InputLines.{after_taking, erases_nothing, input_line_of, is_at_end, is_no_letter, is_taken}
use Rattle.bx_editor.specs.InputLines.{line_lengthened, line_moved, line_shortened, line_with, paste_behind, with_paste_behind}
use Rattle.bx_editor.specs.Keys.{after_any, answered, answered_question, answered_replacement, as_left, refuses_replacing}
use Rattle.bx_editor.specs.LineState.{LineState}
use Rattle.bx_editor.specs.Replacing.{after_replacement_letter, after_showing, after_sought_end, after_sought_letter, replacement_line, with_replacement}
use Rattle.bx_editor.specs.Saving.{after_naming, longest_name}
use Rattle.bx_editor.specs.Search.{kept, longest_query, query_line, search_on, with_query}
use Rattle.bx_editor.specs.questions.Answers.{is_line_letter}
use Rattle.bx_editor.specs.questions.KeyLetters.{code_letter}
use Rattle.bx_editor.specs.questions.Names.{coded, is_code_letter}
use Rattle.bx_editor_laws.specs.LineTextLaws.{ShowsLine, goes_in_as}
use Rattle.bx_editor_laws.specs.LineTextLaws.{most_characters, typed_over}

-- ---- keys that an input line has

pub not-told : (key : Key) → (answer_of key ≡ answers.Ends → ⊥) → is_told_key key ≡ false
not-told (Size height width) other = absurd (other refl)
not-told (Notice notice) other = absurd (other refl)
not-told Fill other = absurd (other refl)
not-told PasteStart other = absurd (other refl)
not-told PasteEnd other = absurd (other refl)
not-told _ other = refl

pub accepts : (e : Editor) (key : Key) → (answer_of key ≡ answers.Replaces → ⊥) → refuses_replacing e key ≡ false
accepts e Replace other = absurd (other refl)
accepts e _ other = refl

is-some : (a b : List ℕ) → Some a ≡ Some b → a ≡ b
is-some a b same = cc same

-- ---- what a line shows

left : (key : Key) (line : List ℕ) (cursor : ℕ) (x : Editor) → ShowsLine line cursor x → ShowsLine line cursor (as_left key x)
left key line cursor x h = record { line_is = h.line_is; cursor_is = h.cursor_is }

pasting : (paste : Option Typing) (line : List ℕ) (cursor : ℕ) (x : Editor) → ShowsLine line cursor x → ShowsLine line cursor (with_paste_behind paste x)
pasting None line cursor x h = h
pasting (Some typing) line cursor x h = record { line_is = h.line_is; cursor_is = h.cursor_is }

abbrev pub Shows : LineState → Editor → Type 0
Shows l x = ShowsLine l.text l.cursor x

-- how a question and a search stand
abbrev pub in-state : Editor → Prompt → SearchState → Editor
in-state e prompt search_state = record e { prompt = prompt; search_state = search_state }

module _ (d : Data) (fault : Option StoreFault) (e : Editor) (was : Before) (key : Key) where
  -- the key where a question and a search stand so
  abbrev pub Pressed : Prompt → SearchState → Editor
  Pressed prompt search_state = as_left key (after_any d fault was prompt search_state (cleared (in-state e prompt search_state)) key)

  -- ---- moves

  module _ (m : Move) (is : answer_of key ≡ answers.Moves m) where
    abbrev pub moved : List ℕ → ℕ
    moved text = line_moved d m (line_with text e.input_cursor)

    pub moves : (prompt : Prompt) (search_state : SearchState) (line : List ℕ) → input_line_of (in-state e prompt search_state) ≡ Some line
        → ShowsLine line (moved line) (Pressed prompt search_state)
    moves prompts.Off Off line h = absurd (cc h)
    moves prompts.Off Begun line h =
        let x = cleared (in-state e prompts.Off Begun) in
        let same = is-some e.query line h in
        subst (λ a. ShowsLine line (moved line) (as_left key (answered d fault was x key a))) (sym is)
        (record { line_is = ap Some same; cursor_is = ap moved same })
    moves prompts.Off Typed line h =
        let x = cleared (in-state e prompts.Off Typed) in
        let same = is-some e.query line h in
        subst (λ a. ShowsLine line (moved line) (as_left key (answered d fault was x key a))) (sym is)
        (record { line_is = ap Some same; cursor_is = ap moved same })
    moves prompts.Off WithBegun line h =
        let x = cleared (in-state e prompts.Off WithBegun) in
        let same = is-some e.replacement line h in
        subst (λ a. ShowsLine line (moved line) (as_left key (answered_replacement d fault was x key a))) (sym is)
        (record { line_is = ap Some same; cursor_is = ap moved same })
    moves prompts.Off WithTyped line h =
        let x = cleared (in-state e prompts.Off WithTyped) in
        let same = is-some e.replacement line h in
        subst (λ a. ShowsLine line (moved line) (as_left key (answered_replacement d fault was x key a))) (sym is)
        (record { line_is = ap Some same; cursor_is = ap moved same })
    moves prompts.Off Replacing line h = absurd (cc h)
    moves prompts.Line search_state line h =
        let x = cleared (in-state e prompts.Line search_state) in
        let same = is-some e.answer line h in
        subst (λ a. ShowsLine line (moved line) (as_left key (answered_question d fault was x key a))) (sym is)
        (record { line_is = ap Some same; cursor_is = ap moved same })
    moves prompts.Code search_state line h =
        let x = cleared (in-state e prompts.Code search_state) in
        let same = is-some e.answer line h in
        subst (λ a. ShowsLine line (moved line) (as_left key (answered_question d fault was x key a))) (sym is)
        (record { line_is = ap Some same; cursor_is = ap moved same })
    moves prompts.File search_state line h =
        let x = cleared (in-state e prompts.File search_state) in
        let same = is-some e.answer line h in
        subst (λ a. ShowsLine line (moved line) (as_left key (answered_question d fault was x key a))) (sym is)
        (record { line_is = ap Some same; cursor_is = ap moved same })
    moves prompts.Name search_state line h = absurd (cc h)
    moves prompts.Overwrite search_state line h = absurd (cc h)

  -- ---- removals

  -- the line without what an erasure removes, if it removes anything
  abbrev pub erased : Erasure → LineState → LineState
  erased how l = if erases_nothing d how l then l else line_shortened d how l

  module _ (how : Erasure) (is : answer_of key ≡ answers.Erases how) where
    abbrev pub rest : List ℕ → LineState
    rest text = erased how (line_with text e.input_cursor)

    query-erased : (search_state : SearchState) → input_line_of (in-state e prompts.Off search_state) ≡ Some e.query
        → (nothing : Bool)
        → let x = cleared (in-state e prompts.Off search_state) in let l = line_with e.query e.input_cursor in
        Shows (if nothing then l else line_shortened d how l)
        (as_left key (if nothing then x else search_on d false (with_query x (line_shortened d how (query_line x)))))
    query-erased search_state h true = record { line_is = h; cursor_is = refl }
    query-erased search_state h false = record { line_is = refl; cursor_is = refl }

    replacement-erased : (search_state : SearchState) → input_line_of (in-state e prompts.Off search_state) ≡ Some e.replacement
        → (nothing : Bool)
        → let x = cleared (in-state e prompts.Off search_state) in let l = line_with e.replacement e.input_cursor in
        Shows (if nothing then l else line_shortened d how l)
        (as_left key (if nothing then x else with_replacement x (line_shortened d how (replacement_line x))))
    replacement-erased search_state h true = record { line_is = h; cursor_is = refl }
    replacement-erased search_state h false = record { line_is = refl; cursor_is = refl }

    answer-erased : (prompt : Prompt) (search_state : SearchState) → input_line_of (in-state e prompt search_state) ≡ Some e.answer
        → ((text : List ℕ) → input_line_of (record (in-state e prompt search_state) { answer = text }) ≡ Some text)
        → (nothing : Bool)
        → let x = cleared (in-state e prompt search_state) in let l = line_with e.answer e.input_cursor in
        Shows (if nothing then l else line_shortened d how l)
        (as_left key (if nothing then x else with_answer x (line_shortened d how (answer_line x))))
    answer-erased prompt search_state h shows true = record { line_is = h; cursor_is = refl }
    answer-erased prompt search_state h shows false =
        record { line_is = shows (line_shortened d how (line_with e.answer e.input_cursor)).text; cursor_is = refl }

    pub removes : (prompt : Prompt) (search_state : SearchState) (line : List ℕ) → input_line_of (in-state e prompt search_state) ≡ Some line
        → (is_of_last how && (length line == 0)) ≡ false → Shows (rest line) (Pressed prompt search_state)
    removes prompts.Off Off line h some = absurd (cc h)
    removes prompts.Off Begun line h some =
        let x = cleared (in-state e prompts.Off Begun) in
        subst (λ a. Shows (rest line) (as_left key (answered d fault was x key a))) (sym is)
        (subst (λ t. Shows (rest t) (as_left key (answered d fault was x key (answers.Erases how)))) (is-some e.query line h)
        (query-erased Begun refl (erases_nothing d how (line_with e.query e.input_cursor))))
    removes prompts.Off Typed line h some =
        let x = cleared (in-state e prompts.Off Typed) in
        subst (λ a. Shows (rest line) (as_left key (answered d fault was x key a))) (sym is)
        (subst (λ t. Shows (rest t) (as_left key (answered d fault was x key (answers.Erases how)))) (is-some e.query line h)
        (query-erased Typed refl (erases_nothing d how (line_with e.query e.input_cursor))))
    removes prompts.Off WithBegun line h some =
        let x = cleared (in-state e prompts.Off WithBegun) in
        subst (λ a. Shows (rest line) (as_left key (answered_replacement d fault was x key a))) (sym is)
        (subst (λ t. Shows (rest t) (as_left key (answered_replacement d fault was x key (answers.Erases how)))) (is-some e.replacement line h)
        (replacement-erased WithBegun refl (erases_nothing d how (line_with e.replacement e.input_cursor))))
    removes prompts.Off WithTyped line h some =
        let x = cleared (in-state e prompts.Off WithTyped) in
        subst (λ a. Shows (rest line) (as_left key (answered_replacement d fault was x key a))) (sym is)
        (subst (λ t. Shows (rest t) (as_left key (answered_replacement d fault was x key (answers.Erases how)))) (is-some e.replacement line h)
        (replacement-erased WithTyped refl (erases_nothing d how (line_with e.replacement e.input_cursor))))
    removes prompts.Off Replacing line h some = absurd (cc h)
    removes prompts.Line search_state line h some =
        let x = cleared (in-state e prompts.Line search_state) in
        subst (λ a. Shows (rest line) (as_left key (answered_question d fault was x key a))) (sym is)
        (subst (λ t. Shows (rest t) (as_left key (answered_question d fault was x key (answers.Erases how)))) (is-some e.answer line h)
        (answer-erased prompts.Line search_state refl (λ text. refl) (erases_nothing d how (line_with e.answer e.input_cursor))))
    removes prompts.Code search_state line h some =
        let x = cleared (in-state e prompts.Code search_state) in
        let same = is-some e.answer line h in
        let own : (is_of_last how && (length e.answer == 0)) ≡ false = ap (λ t. is_of_last how && (length t == 0)) same ∙ some in
        let otherwise : Editor =
        if erases_nothing d how (line_with e.answer e.input_cursor) then x else with_answer x (line_shortened d how (answer_line x)) in
        subst (λ a. Shows (rest line) (as_left key (answered_question d fault was x key a))) (sym is)
        (subst (λ b. Shows (rest line) (as_left key (if b then record x { prompt = prompts.Name } else otherwise))) (sym own)
        (subst (λ t. Shows (rest t) (as_left key otherwise)) same
        (answer-erased prompts.Code search_state refl (λ text. refl) (erases_nothing d how (line_with e.answer e.input_cursor)))))
    removes prompts.File search_state line h some =
        let x = cleared (in-state e prompts.File search_state) in
        subst (λ a. Shows (rest line) (as_left key (answered_question d fault was x key a))) (sym is)
        (subst (λ t. Shows (rest t) (as_left key (answered_question d fault was x key (answers.Erases how)))) (is-some e.answer line h)
        (answer-erased prompts.File search_state refl (λ text. refl) (erases_nothing d how (line_with e.answer e.input_cursor))))
    removes prompts.Name search_state line h some = absurd (cc h)
    removes prompts.Overwrite search_state line h some = absurd (cc h)

-- ---- what is typed

-- a character goes in as itself
as-itself : (c letter : ℕ) (ends refused : Bool) → (if ends then None else if refused then None else Some c) ≡ Some letter
    → (ends ≡ false) × ((refused ≡ false) × (c ≡ letter))
as-itself c letter true refused h = absurd (cc h)
as-itself c letter false true h = absurd (cc h)
as-itself c letter false false h = (refl, (refl, cc h))

as-allowed : (c letter : ℕ) (ends allowed : Bool) → (if ends then None else if allowed then Some c else None) ≡ Some letter
    → (ends ≡ false) × ((allowed ≡ true) × (c ≡ letter))
as-allowed c letter true allowed h = absurd (cc h)
as-allowed c letter false false h = absurd (cc h)
as-allowed c letter false true h = (refl, (refl, cc h))

module _ (d : Data) (fault : Option StoreFault) (e : Editor) (was : Before) (c letter : ℕ) (taken : is_taken d was.typing c ≡ true) where
  abbrev key : Key
  key = Insert c

  abbrev pub Typing-in : Prompt → SearchState → Editor
  Typing-in prompt search_state = as_left key (after_any d fault was prompt search_state (cleared (in-state e prompt search_state)) key)

  -- it is taken, whether typed or pasted
  takes : (l : LineState) (x new : Editor) → Shows l new → Shows l (as_left key (after_taking d was.typing c x new))
  takes l x new h =
      left key l.text l.cursor (after_taking d was.typing c x new)
      (pasting (paste_behind d was.typing c) l.text l.cursor (if is_taken d was.typing c then new else x)
      (subst (λ b. Shows l (if b then new else x)) (sym taken) h))

  -- the line into which it goes, with it
  abbrev pub grown : ℕ → LineState → LineState
  grown most l = line_lengthened d most l letter

  sought-shows : (x : Editor) (grows : Bool) (l : LineState) → x.prompt ≡ prompts.Off → Shows l (search_on d grows (with_query x l))
  sought-shows x true l unasked = record { line_is = ap (λ p. input_line_of (record (with_query x l) { prompt = p })) unasked; cursor_is = refl }
  sought-shows x false l unasked = record { line_is = ap (λ p. input_line_of (record (with_query x l) { prompt = p })) unasked; cursor_is = refl }

  query-typed : (search_state : SearchState) → goes_in_as d prompts.Off c ≡ Some letter
      → let x = cleared (in-state e prompts.Off search_state) in
      Shows (grown longest_query (kept search_state (line_with e.query e.input_cursor))) (after_sought_letter d x c)
  query-typed search_state h =
      let x = cleared (in-state e prompts.Off search_state) in
      let l = kept search_state (line_with e.query e.input_cursor) in
      let goes = as-itself c letter (c == 0xA) (is_no_letter d c) h in
      let longer : ℕ → Editor = λ a. search_on d (is_at_end l) (with_query x (line_lengthened d longest_query l a)) in
      subst (λ b. Shows (grown longest_query l) (if b then after_sought_end d x else if is_no_letter d c then x else longer c)) (sym goes.0)
      (subst (λ b. Shows (grown longest_query l) (if b then x else longer c)) (sym goes.1.0)
      (subst (λ a. Shows (grown longest_query l) (longer a)) (sym goes.1.1) (sought-shows x (is_at_end l) (grown longest_query l) refl)))

  replacement-typed-in : (search_state : SearchState) → goes_in_as d prompts.Off c ≡ Some letter
      → let x = cleared (in-state e prompts.Off search_state) in
      Shows (grown longest_query (kept search_state (line_with e.replacement e.input_cursor))) (after_replacement_letter d x c)
  replacement-typed-in search_state h =
      let x = cleared (in-state e prompts.Off search_state) in
      let l = kept search_state (line_with e.replacement e.input_cursor) in
      let goes = as-itself c letter (c == 0xA) (is_no_letter d c) h in
      let longer : ℕ → Editor = λ a. with_replacement x (line_lengthened d longest_query l a) in
      subst (λ b. Shows (grown longest_query l) (if b then after_showing d x else if is_no_letter d c then x else longer c)) (sym goes.0)
      (subst (λ b. Shows (grown longest_query l) (if b then x else longer c)) (sym goes.1.0)
      (subst (λ a. Shows (grown longest_query l) (longer a)) (sym goes.1.1) (record { line_is = refl; cursor_is = refl })))

  pub types : (prompt : Prompt) (search_state : SearchState) (line : List ℕ) → input_line_of (in-state e prompt search_state) ≡ Some line
      → goes_in_as d prompt c ≡ Some letter
      → Shows (grown (most_characters prompt) (typed_over prompt search_state (line_with line e.input_cursor))) (Typing-in prompt search_state)
  types prompts.Off Off line h goes = absurd (cc h)
  types prompts.Off Begun line h goes =
      let x = cleared (in-state e prompts.Off Begun) in
      takes (grown longest_query (line_with [] 0)) x (after_sought_letter d x c) (query-typed Begun goes)
  types prompts.Off Typed line h goes =
      let x = cleared (in-state e prompts.Off Typed) in
      subst (λ t. Shows (grown longest_query (line_with t e.input_cursor)) (Typing-in prompts.Off Typed)) (is-some e.query line h)
      (takes (grown longest_query (line_with e.query e.input_cursor)) x (after_sought_letter d x c) (query-typed Typed goes))
  types prompts.Off WithBegun line h goes =
      let x = cleared (in-state e prompts.Off WithBegun) in
      takes (grown longest_query (line_with [] 0)) x (after_replacement_letter d x c) (replacement-typed-in WithBegun goes)
  types prompts.Off WithTyped line h goes =
      let x = cleared (in-state e prompts.Off WithTyped) in
      subst (λ t. Shows (grown longest_query (line_with t e.input_cursor)) (Typing-in prompts.Off WithTyped)) (is-some e.replacement line h)
      (takes (grown longest_query (line_with e.replacement e.input_cursor)) x (after_replacement_letter d x c) (replacement-typed-in WithTyped goes))
  types prompts.Off Replacing line h goes = absurd (cc h)
  types prompts.Line search_state line h goes =
      let x = cleared (in-state e prompts.Line search_state) in
      let l = line_with e.answer e.input_cursor in
      let is = as-allowed c letter (c == 0xA) (is_line_letter c) goes in
      let longer : ℕ → Editor = λ a. answer_lengthened d longest_line x a in
      subst (λ t. Shows (grown longest_line (line_with t e.input_cursor)) (Typing-in prompts.Line search_state)) (is-some e.answer line h)
      (takes (grown longest_line l) x (after_answer_letter d fault prompts.Line x c)
      (subst (λ b. Shows (grown longest_line l) (if b then after_going d x else if is_line_letter c then longer c else x)) (sym is.0)
      (subst (λ b. Shows (grown longest_line l) (if b then longer c else x)) (sym is.1.0)
      (subst (λ a. Shows (grown longest_line l) (longer a)) (sym is.1.1) (record { line_is = refl; cursor_is = refl })))))
  types prompts.Code search_state line h goes =
      let x = cleared (in-state e prompts.Code search_state) in
      let l = line_with e.answer e.input_cursor in
      let digit = code_letter c in
      let is = as-allowed digit letter (digit == 0xA) (is_code_letter digit) goes in
      let longer : ℕ → Editor = λ a. answer_lengthened d longest_code x a in
      subst (λ t. Shows (grown longest_code (line_with t e.input_cursor)) (Typing-in prompts.Code search_state)) (is-some e.answer line h)
      (takes (grown longest_code l) x (after_answer_letter d fault prompts.Code x c)
      (subst (λ b. Shows (grown longest_code l)
      (if b then after_code d (without_prompt x) (coded x.answer) else if is_code_letter digit then longer digit else x)) (sym is.0)
      (subst (λ b. Shows (grown longest_code l) (if b then longer digit else x)) (sym is.1.0)
      (subst (λ a. Shows (grown longest_code l) (longer a)) (sym is.1.1) (record { line_is = refl; cursor_is = refl })))))
  types prompts.File search_state line h goes =
      let x = cleared (in-state e prompts.File search_state) in
      let l = line_with e.answer e.input_cursor in
      let is = as-itself c letter (c == 0xA) (is_no_letter d c) goes in
      let longer : ℕ → Editor = λ a. answer_lengthened d longest_name x a in
      subst (λ t. Shows (grown longest_name (line_with t e.input_cursor)) (Typing-in prompts.File search_state)) (is-some e.answer line h)
      (takes (grown longest_name l) x (after_answer_letter d fault prompts.File x c)
      (subst (λ b. Shows (grown longest_name l) (if b then after_naming fault (without_prompt x) else if is_no_letter d c then x else longer c)) (sym is.0)
      (subst (λ b. Shows (grown longest_name l) (if b then x else longer c)) (sym is.1.0)
      (subst (λ a. Shows (grown longest_name l) (longer a)) (sym is.1.1) (record { line_is = refl; cursor_is = refl })))))
  types prompts.Name search_state line h goes = absurd (cc h)
  types prompts.Overwrite search_state line h goes = absurd (cc h)
