-- What Put puts into an input line is typed there character by character.
use Rattle.std.proofs.Common.{◌≡◌, ◌≢◌, ◌∙◌, ℕ, Bool, true, false, not, List, [], ◌∷◌, map, chars, Option, Some, None, refl, sym, ap, ap₂, subst, if◌then◌else◌}
use Rattle.std.specs.Prelude.{◌==◌, fold}
use Rattle.std.specs.List.{list_all}
use Rattle.std.proofs.lemmas.Bool.{not-true}
use Rattle.bx_keys.specs.declared.key.Key.TheVariants.{Insert, Put}
use Rattle.bx_store.specs.declared.store.StoreFault.{StoreFault}
use Rattle.bx_ucd.specs.Data.{Data}
use Rattle.bx_editor.specs.declared.questions.answers.Prompt.{Prompt}
use Rattle.bx_editor.specs.declared.questions.answers.Prompt.TheVariants as prompts
use Rattle.bx_editor.specs.declared.search_state.SearchState.{SearchState}
use Rattle.bx_editor.specs.declared.search_state.SearchState.TheVariants.{Off, Begun, Typed, WithBegun, WithTyped, Replacing}
use Rattle.bx_editor.specs.declared.undo_groups.typing.Typing.{Typing}
use Rattle.bx_editor.specs.declared.undo_groups.typing.Typing.TheVariants as typings
use Rattle.bx_editor.specs.Asking.{after_answer_letter, after_code, after_going, answer_lengthened, longest_code, longest_line, without_prompt}
use Rattle.bx_editor.specs.Before.{Before, before}
use Rattle.bx_editor.specs.Editor.{Editor, cleared}
use Rattle.bx_editor.specs.Functions.{after_keys}
use Rattle.bx_editor.specs.InputLines.{after_taking, first_line, input_line_of, is_at_end, is_no_letter, line_lengthened, prompt_line}
use Rattle.bx_editor.specs.Keys.{after_any, after_key, as_left, is_typed}
use Rattle.bx_editor.specs.LinePuts.{after_line_put, is_in_line, typed_alone, typed_in, typed_one_by_one}
use Rattle.bx_editor.specs.Replacing.{after_replacement_letter, after_showing, after_sought_end, after_sought_letter, replacement_line, with_replacement}
use Rattle.bx_editor.specs.Saving.{after_naming, longest_name}
use Rattle.bx_editor.specs.Scrolling.{has_input_line}
use Rattle.bx_editor.specs.Search.{kept, longest_query, query_line, search_on, with_query}
use Rattle.bx_editor.specs.questions.Answers.{is_line_letter}
use Rattle.bx_editor.specs.questions.KeyLetters.{code_letter}
use Rattle.bx_editor.specs.questions.Names.{coded, is_code_letter}
use Rattle.bx_editor.proofs.LinePutsLeft.{code-letter-kept, first-of, others-of}
use Rattle.bx_editor_laws.specs.LineTextLaws.{ShowsSameLine}
use Rattle.bx_editor_laws.proofs.KeyEnds.{user-key}
use Rattle.bx_editor_laws.proofs.LineKept.{in-line-before}

-- ---- editors with the same input

-- what is asked and sought, and what is typed there, in an input line of the first, into which nothing is pasted
record SameInput (a b : Editor) : Type 0 where
  pub settled_is : a.pasted ≡ None
  pub typing_is : is_typed a.typing ≡ true
  pub in_line : has_input_line a.prompt a.search_state ≡ true
  pub prompt_is : a.prompt ≡ b.prompt
  pub search_is : a.search_state ≡ b.search_state
  pub query_is : a.query ≡ b.query
  pub replacement_is : a.replacement ≡ b.replacement
  pub answer_is : a.answer ≡ b.answer
  pub cursor_is : a.input_cursor ≡ b.input_cursor

abbrev with-input : Editor → Prompt → SearchState → List ℕ → List ℕ → List ℕ → ℕ → Editor
with-input e prompt search_state query replacement answer cursor = record e {
  prompt = prompt;
  search_state = search_state;
  query = query;
  replacement = replacement;
  answer = answer;
  input_cursor = cursor;
}

either : (b : Bool) (p q r s : Editor) → SameInput p r → SameInput q s → SameInput (if b then p else q) (if b then r else s)
either true p q r s h k = h
either false p q r s h k = k

-- it is taken as it is typed
taken : (d : Data) (typing : Typing) (c : ℕ) (x new : Editor) → is_typed typing ≡ true → after_taking d typing c x new ≡ new
taken d typings.Off c x new is = refl
taken d typings.Word c x new is = refl
taken d typings.Blanks c x new is = refl
taken d typings.Erasing c x new is = refl
taken d typings.Deleting c x new is = refl
taken d typings.Paste c x new is = absurd (cc is)
taken d typings.Spent c x new is = absurd (cc is)

module _ (d : Data) (c : ℕ) (inside : (c == 0xA) ≡ false) where
  -- a search goes on
  sought : (grows : Bool) (p r : Editor) → SameInput p r → SameInput (search_on d grows p) (search_on d grows r)
  sought true p r h = record {
    settled_is = h.settled_is;
    typing_is = h.typing_is;
    in_line = h.in_line;
    prompt_is = h.prompt_is;
    search_is = h.search_is;
    query_is = h.query_is;
    replacement_is = h.replacement_is;
    answer_is = h.answer_is;
    cursor_is = h.cursor_is;
  }
  sought false p r h = record {
    settled_is = h.settled_is;
    typing_is = h.typing_is;
    in_line = h.in_line;
    prompt_is = h.prompt_is;
    search_is = h.search_is;
    query_is = h.query_is;
    replacement_is = h.replacement_is;
    answer_is = h.answer_is;
    cursor_is = h.cursor_is;
  }

  no-end : (p q r : Editor) → SameInput q r → SameInput (if c == 0xA then p else q) r
  no-end p q r h = subst (λ b. SameInput (if b then p else q) r) (sym inside) h

  no-end-too : (p q r s : Editor) → SameInput q s → SameInput (if c == 0xA then p else q) (if c == 0xA then r else s)
  no-end-too p q r s h = subst (λ b. SameInput (if b then p else q) (if b then r else s)) (sym inside) h

  module _ (fault : Option StoreFault) (was : Before) (typed : is_typed was.typing ≡ true) (a b : Editor) (settled : a.pasted ≡ None) where
    -- a character in both, where their inputs are these
    abbrev Both : Prompt → SearchState → List ℕ → List ℕ → List ℕ → ℕ → Type 0
    Both prompt search_state query replacement answer cursor =
        SameInput
        (as_left (Insert c) (after_any d fault was prompt search_state (cleared (with-input a prompt search_state query replacement answer cursor)) (Insert c)))
        (typed_in d prompt search_state (cleared (with-input b prompt search_state query replacement answer cursor)) c)

    unless-taken : (x new r : Editor) → SameInput new r → SameInput (as_left (Insert c) (after_taking d was.typing c x new)) r
    unless-taken x new r h = subst (λ y. SameInput (as_left (Insert c) y) r) (sym (taken d was.typing c x new typed)) (record {
      settled_is = h.settled_is;
      typing_is = h.typing_is;
      in_line = h.in_line;
      prompt_is = h.prompt_is;
      search_is = h.search_is;
      query_is = h.query_is;
      replacement_is = h.replacement_is;
      answer_is = h.answer_is;
      cursor_is = h.cursor_is;
    })

    module _ (query replacement answer : List ℕ) (cursor : ℕ) where
      abbrev in-a : Prompt → SearchState → Editor
      in-a prompt search_state = cleared (with-input a prompt search_state query replacement answer cursor)

      abbrev in-b : Prompt → SearchState → Editor
      in-b prompt search_state = cleared (with-input b prompt search_state query replacement answer cursor)

      by-query : (search_state : SearchState) → has_input_line prompts.Off search_state ≡ true → let x = in-a prompts.Off search_state in let y = in-b prompts.Off search_state in
          let l = kept search_state (query_line x) in
          SameInput (after_sought_letter d x c)
          (if is_no_letter d c then y else search_on d (is_at_end l) (with_query y (line_lengthened d longest_query l c)))
      by-query search_state in-it =
          let x = in-a prompts.Off search_state in
          let y = in-b prompts.Off search_state in
          let l = kept search_state (query_line x) in
          let longer : Editor → Editor = λ e. with_query e (line_lengthened d longest_query l c) in
          no-end (after_sought_end d x) (if is_no_letter d c then x else search_on d (is_at_end l) (longer x))
          (if is_no_letter d c then y else search_on d (is_at_end l) (longer y))
          (either (is_no_letter d c) x (search_on d (is_at_end l) (longer x)) y (search_on d (is_at_end l) (longer y))
          (record { settled_is = settled; typing_is = refl; in_line = in-it; prompt_is = refl; search_is = refl; query_is = refl; replacement_is = refl; answer_is = refl; cursor_is = refl })
          (sought (is_at_end l) (longer x) (longer y)
          (record { settled_is = settled; typing_is = refl; in_line = refl; prompt_is = refl; search_is = refl; query_is = refl; replacement_is = refl; answer_is = refl; cursor_is = refl })))

      by-replacement : (search_state : SearchState) → has_input_line prompts.Off search_state ≡ true → let x = in-a prompts.Off search_state in let y = in-b prompts.Off search_state in
          let l = kept search_state (replacement_line x) in
          SameInput (after_replacement_letter d x c) (if is_no_letter d c then y else with_replacement y (line_lengthened d longest_query l c))
      by-replacement search_state in-it =
          let x = in-a prompts.Off search_state in
          let y = in-b prompts.Off search_state in
          let l = kept search_state (replacement_line x) in
          let longer : Editor → Editor = λ e. with_replacement e (line_lengthened d longest_query l c) in
          no-end (after_showing d x) (if is_no_letter d c then x else longer x) (if is_no_letter d c then y else longer y)
          (either (is_no_letter d c) x (longer x) y (longer y)
          (record { settled_is = settled; typing_is = refl; in_line = in-it; prompt_is = refl; search_is = refl; query_is = refl; replacement_is = refl; answer_is = refl; cursor_is = refl })
          (record { settled_is = settled; typing_is = refl; in_line = refl; prompt_is = refl; search_is = refl; query_is = refl; replacement_is = refl; answer_is = refl; cursor_is = refl }))

      one : (prompt : Prompt) (search_state : SearchState) → has_input_line prompt search_state ≡ true
          → Both prompt search_state query replacement answer cursor
      one prompts.Off Off h = absurd (cc h)
      one prompts.Off Begun h =
          let x = in-a prompts.Off Begun in
          unless-taken x (after_sought_letter d x c) (typed_in d prompts.Off Begun (in-b prompts.Off Begun) c) (by-query Begun refl)
      one prompts.Off Typed h =
          let x = in-a prompts.Off Typed in
          unless-taken x (after_sought_letter d x c) (typed_in d prompts.Off Typed (in-b prompts.Off Typed) c) (by-query Typed refl)
      one prompts.Off WithBegun h =
          let x = in-a prompts.Off WithBegun in
          unless-taken x (after_replacement_letter d x c) (typed_in d prompts.Off WithBegun (in-b prompts.Off WithBegun) c) (by-replacement WithBegun refl)
      one prompts.Off WithTyped h =
          let x = in-a prompts.Off WithTyped in
          unless-taken x (after_replacement_letter d x c) (typed_in d prompts.Off WithTyped (in-b prompts.Off WithTyped) c) (by-replacement WithTyped refl)
      one prompts.Off Replacing h = absurd (cc h)
      one prompts.Line search_state h =
          let x = in-a prompts.Line search_state in
          let y = in-b prompts.Line search_state in
          let longer : Editor → Editor = λ e. answer_lengthened d longest_line e c in
          unless-taken x (after_answer_letter d fault prompts.Line x c) (typed_in d prompts.Line search_state y c)
          (no-end-too (after_going d x) (if is_line_letter c then longer x else x) (after_going d y) (if is_line_letter c then longer y else y)
          (either (is_line_letter c) (longer x) x (longer y) y
          (record { settled_is = settled; typing_is = refl; in_line = refl; prompt_is = refl; search_is = refl; query_is = refl; replacement_is = refl; answer_is = refl; cursor_is = refl })
          (record { settled_is = settled; typing_is = refl; in_line = refl; prompt_is = refl; search_is = refl; query_is = refl; replacement_is = refl; answer_is = refl; cursor_is = refl })))
      one prompts.Code search_state h =
          let x = in-a prompts.Code search_state in
          let y = in-b prompts.Code search_state in
          let digit = code_letter c in
          let no-lf : (digit == 0xA) ≡ false = not-true (digit == 0xA) (code-letter-kept c (ap not inside)) in
          let longer : Editor → Editor = λ e. answer_lengthened d longest_code e digit in
          let ends : Editor → Editor = λ e. after_code d (without_prompt e) (coded e.answer) in
          unless-taken x (after_answer_letter d fault prompts.Code x c) (typed_in d prompts.Code search_state y c)
          (subst (λ b. SameInput (if b then ends x else if is_code_letter digit then longer x else x)
          (if b then ends y else if is_code_letter digit then longer y else y)) (sym no-lf)
          (either (is_code_letter digit) (longer x) x (longer y) y
          (record { settled_is = settled; typing_is = refl; in_line = refl; prompt_is = refl; search_is = refl; query_is = refl; replacement_is = refl; answer_is = refl; cursor_is = refl })
          (record { settled_is = settled; typing_is = refl; in_line = refl; prompt_is = refl; search_is = refl; query_is = refl; replacement_is = refl; answer_is = refl; cursor_is = refl })))
      one prompts.File search_state h =
          let x = in-a prompts.File search_state in
          let y = in-b prompts.File search_state in
          let longer : Editor → Editor = λ e. answer_lengthened d longest_name e c in
          unless-taken x (after_answer_letter d fault prompts.File x c) (typed_in d prompts.File search_state y c)
          (no-end-too (after_naming fault (without_prompt x)) (if is_no_letter d c then x else longer x)
          (after_naming None (without_prompt y)) (if is_no_letter d c then y else longer y)
          (either (is_no_letter d c) x (longer x) y (longer y)
          (record { settled_is = settled; typing_is = refl; in_line = refl; prompt_is = refl; search_is = refl; query_is = refl; replacement_is = refl; answer_is = refl; cursor_is = refl })
          (record { settled_is = settled; typing_is = refl; in_line = refl; prompt_is = refl; search_is = refl; query_is = refl; replacement_is = refl; answer_is = refl; cursor_is = refl })))
      one prompts.Name search_state h = absurd (cc h)
      one prompts.Overwrite search_state h = absurd (cc h)

-- ---- one after the other

letter-one : (d : Data) (fault : Option StoreFault) (a b : Editor) (c : ℕ) → (c == 0xA) ≡ false → SameInput a b
    → SameInput (after_key d fault a (Insert c)) (typed_alone d b c)
letter-one d fault a b c inside h =
    let there = one d c inside fault (before a) h.typing_is a b h.settled_is a.query a.replacement a.answer a.input_cursor a.prompt a.search_state h.in_line in
    let as-b : with-input b a.prompt a.search_state a.query a.replacement a.answer a.input_cursor ≡ b =
    ap₂ (λ p s. with-input b p s a.query a.replacement a.answer a.input_cursor) h.prompt_is h.search_is
    ∙ ap₂ (λ q r. with-input b b.prompt b.search_state q r a.answer a.input_cursor) h.query_is h.replacement_is
    ∙ ap₂ (λ t n. with-input b b.prompt b.search_state b.query b.replacement t n) h.answer_is h.cursor_is in
    subst (λ x. SameInput x (typed_alone d b c)) (sym (user-key d fault a (Insert c) h.settled_is refl refl))
    (subst (λ y. SameInput (as_left (Insert c) (after_any d fault (before a) a.prompt a.search_state (cleared a) (Insert c))) (typed_alone d y c)) as-b there)

letters-many : (d : Data) (fault : Option StoreFault) (cs : List ℕ) (a b : Editor) → list_all is_in_line cs ≡ true → SameInput a b
    → SameInput (after_keys d fault a (map Insert cs)) (fold (typed_alone d) b cs)
letters-many d fault [] a b inside h = h
letters-many d fault (c ∷ cs) a b inside h =
    letters-many d fault cs (after_key d fault a (Insert c)) (typed_alone d b c) (others-of c cs inside)
    (letter-one d fault a b c (not-true (c == 0xA) (first-of c cs inside)) h)

same-line : (a b : Editor) → SameInput a b → input_line_of a ≡ input_line_of b
same-line a b h =
    ap₂ (λ p s. input_line_of (with-input a p s a.query a.replacement a.answer a.input_cursor)) h.prompt_is h.search_is
    ∙ ap₂ (λ q r. input_line_of (with-input a b.prompt b.search_state q r a.answer a.input_cursor)) h.query_is h.replacement_is
    ∙ ap (λ t. input_line_of (with-input a b.prompt b.search_state b.query b.replacement t a.input_cursor)) h.answer_is

-- ---- Put

-- Put in each state with an input line
put-any : (d : Data) (fault : Option StoreFault) (was : Before) (prompt : Prompt) (search_state : SearchState) (x : Editor)
    → has_input_line prompt search_state ≡ true → after_any d fault was prompt search_state x Put ≡ after_line_put d x
put-any d fault was prompts.Off Off x h = absurd (cc h)
put-any d fault was prompts.Off Begun x h = refl
put-any d fault was prompts.Off Typed x h = refl
put-any d fault was prompts.Off WithBegun x h = refl
put-any d fault was prompts.Off WithTyped x h = refl
put-any d fault was prompts.Off Replacing x h = absurd (cc h)
put-any d fault was prompts.Line search_state x h = refl
put-any d fault was prompts.Code search_state x h = refl
put-any d fault was prompts.File search_state x h = refl
put-any d fault was prompts.Name search_state x h = absurd (cc h)
put-any d fault was prompts.Overwrite search_state x h = absurd (cc h)

has-line : (prompt : Prompt) (search_state : SearchState) (query replacement answer line : List ℕ)
    → prompt_line prompt search_state query replacement answer ≡ Some line → has_input_line prompt search_state ≡ true
has-line prompts.Off Off query replacement answer line h = absurd (cc h)
has-line prompts.Off Begun query replacement answer line h = refl
has-line prompts.Off Typed query replacement answer line h = refl
has-line prompts.Off WithBegun query replacement answer line h = refl
has-line prompts.Off WithTyped query replacement answer line h = refl
has-line prompts.Off Replacing query replacement answer line h = absurd (cc h)
has-line prompts.Line search_state query replacement answer line h = refl
has-line prompts.Code search_state query replacement answer line h = refl
has-line prompts.File search_state query replacement answer line h = refl
has-line prompts.Name search_state query replacement answer line h = absurd (cc h)
has-line prompts.Overwrite search_state query replacement answer line h = absurd (cc h)

not-none : (d : Data) (e : Editor) (cs : List ℕ) → cs ≢ [] → typed_one_by_one d e cs ≡ fold (typed_alone d) e cs
not-none d e [] some = absurd (some refl)
not-none d e (c ∷ cs) some = refl

pub put-is-typed : (d : Data) (fault : Option StoreFault) (e : Editor) (line : List ℕ) → input_line_of e ≡ Some line → e.pasted ≡ None
    → first_line d e.held ≢ [] → is_typed e.typing ≡ true
    → ShowsSameLine (after_key d fault e Put) (after_keys d fault e (map Insert (first_line d e.held)))
put-is-typed d fault e line shown settled some typed =
    let cs = first_line d e.held in
    let in-it = has-line e.prompt e.search_state e.query e.replacement e.answer line shown in
    let put : after_key d fault e Put ≡ as_left Put (fold (typed_alone d) (cleared e) cs) =
    user-key d fault e Put settled refl refl
    ∙ ap (as_left Put) (put-any d fault (before e) e.prompt e.search_state (cleared e) in-it ∙ not-none d (cleared e) cs some) in
    let start : SameInput e (cleared e) = record {
      settled_is = settled;
      typing_is = typed;
      in_line = in-it;
      prompt_is = refl;
      search_is = refl;
      query_is = refl;
      replacement_is = refl;
      answer_is = refl;
      cursor_is = refl;
    } in
    let typed-there = letters-many d fault cs e (cleared e) (in-line-before d (chars e.held)) start in
    record {
      line_is = ap input_line_of put ∙ sym (same-line (after_keys d fault e (map Insert cs)) (fold (typed_alone d) (cleared e) cs) typed-there);
      cursor_is = ap (λ (x : Editor). x.input_cursor) put ∙ sym typed-there.cursor_is;
    }
