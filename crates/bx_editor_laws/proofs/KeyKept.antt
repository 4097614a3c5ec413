-- What edits, undo and redo keep of the text, each key keeps.
use Rattle.std.proofs.Common.{◌≡◌, ℕ, Bool, true, false, List, [], ◌∷◌, length, Option, Some, None, refl, if◌then◌else◌}
use Rattle.std.specs.Prelude.{◌==◌}
use Rattle.bx_keys.specs.declared.key.Key.{Key}
use Rattle.bx_store.specs.declared.store.StoreFault.{StoreFault}
use Rattle.bx_ucd.specs.Data.{Data}
use Rattle.bx_document.specs.declared.history.HistoryStep.{HistoryStep}
use Rattle.bx_view.specs.declared.moves.Vertical.{Vertical}
use Rattle.bx_view.specs.Moves.{row_home}
use Rattle.bx_editor.specs.declared.answer.Answer.{Answer}
use Rattle.bx_editor.specs.declared.answer.Answer.TheVariants as answers
use Rattle.bx_editor.specs.declared.questions.answers.Prompt.{Prompt}
use Rattle.bx_editor.specs.declared.questions.answers.Prompt.TheVariants as prompts
use Rattle.bx_editor.specs.declared.search_state.SearchPurpose.TheVariants as purposes
use Rattle.bx_editor.specs.declared.search_state.SearchState.{SearchState}
use Rattle.bx_editor.specs.declared.search_state.SearchState.TheVariants.{Off, Begun, Typed, WithBegun, WithTyped, Replacing}
use Rattle.bx_editor.specs.Answering.{answer_of, without_line}
use Rattle.bx_editor.specs.declared.message.Message.TheVariants.{NothingToPut}
use Rattle.bx_editor.specs.Asking.{with_wrap, without_prompt}
use Rattle.bx_editor.specs.Before.{Before, before}
use Rattle.bx_editor.specs.Editor.{Editor, after_group_step, after_step, cleared, rows, unpressed, with_base, with_exchange, with_insertion, with_notice}
use Rattle.bx_editor.specs.Editor.{with_place, with_removal, with_size, with_typing}
use Rattle.bx_editor.specs.Effects.{Effect, Wheels, Seeks, SeeksNext, SeeksPrevious, Saves, AsksLine, AsksName, AsksFile, AsksOverwrite, Refuses, by}
use Rattle.bx_editor.specs.Keys.{after_any, after_key, after_pressing, after_user, allowed_effect, answered, answered_match}
use Rattle.bx_editor.specs.Keys.{answered_name, answered_overwrite, answered_question, answered_replacement, as_left, refuses_replacing}
use Rattle.bx_editor.specs.LinePuts.{after_line_put, typed_in}
use Rattle.bx_editor.specs.Putting.{is_paste, with_line_put}
use Rattle.bx_editor.specs.Region.{unselected}
use Rattle.bx_editor.specs.RowMoves.{after_wheel, carried, shows_place, wheel_top}
use Rattle.bx_editor.specs.Saving.{after_deciding, asking_name, asking_over}
use Rattle.bx_editor.specs.Search.{after_beginning, after_moving_in, next_or_start, search_back, search_from, sought, sought_alone, without_search}
use Rattle.bx_editor_laws.specs.Laws.{after_typing}
use Rattle.bx_editor.proofs.EffectsKept as kept
use Rattle.bx_editor.proofs.InSearch.{each-key, press-keeps}
use Rattle.bx_editor.proofs.LinePutsKept.{line-put-keeps}
use Rattle.bx_editor.proofs.QuestionSteps.{IsKept, letter-keeps, name-keeps, question-keeps}
use Rattle.bx_editor.proofs.Saved.{IsKeptSaving, deciding-keeps, naming-keeps, saving-keeps}
use Rattle.bx_editor.proofs.Searches.{IsKeptSeeking, match-keeps, query-keeps, replacement-keeps, typed-in-search}

-- Edits, undo and redo keep this property of editors, and so does all that leaves text and history, and what a paste has brought.
pub record IsKeptByUser (d : Data) (P : Editor → Type 0) : Type 0 where
  pub inserted : (e : Editor) (new : List ℕ) (on : Bool) → P e → P (with_insertion d e new on)
  pub lined : (e : Editor) (new : List ℕ) → P e → P (with_line_put d e new)
  pub removed : (e : Editor) (start stop : ℕ) (on : Bool) → P e → P (with_removal d e start stop on)
  pub wrapped : (e : Editor) (opener closer : List ℕ) → P e → P (with_wrap d e opener closer)
  pub exchanged : (e : Editor) (start stop : ℕ) (new : List ℕ) → P e → P (with_exchange d e start stop new)
  pub stepped : (way : HistoryStep) (e : Editor) → P e → P (after_step way e)
  pub run : (way : HistoryStep) (e : Editor) → P e → P (after_group_step way e)
  pub same : (e new : Editor) → new.content ≡ e.content → new.read_only ≡ e.read_only → new.pasted ≡ e.pasted → P e → P new

-- whatever a paste has brought
pub record IsKeptByEdits (d : Data) (P : Editor → Type 0) : Type 0 where
  pub inserted : (e : Editor) (new : List ℕ) (on : Bool) → P e → P (with_insertion d e new on)
  pub lined : (e : Editor) (new : List ℕ) → P e → P (with_line_put d e new)
  pub removed : (e : Editor) (start stop : ℕ) (on : Bool) → P e → P (with_removal d e start stop on)
  pub wrapped : (e : Editor) (opener closer : List ℕ) → P e → P (with_wrap d e opener closer)
  pub exchanged : (e : Editor) (start stop : ℕ) (new : List ℕ) → P e → P (with_exchange d e start stop new)
  pub stepped : (way : HistoryStep) (e : Editor) → P e → P (after_step way e)
  pub run : (way : HistoryStep) (e : Editor) → P e → P (after_group_step way e)
  pub same : (e new : Editor) → new.content ≡ e.content → new.read_only ≡ e.read_only → P e → P new

module _ (d : Data) (P : Editor → Type 0) (keeps : IsKeptByUser d P) where
  either : (b : Bool) (p q : Editor) → P p → P q → P (if b then p else q)
  either true p q h k = h
  either false p q h k = k

  pub pressing : kept.IsKeptPressing d P
  pressing = record {
    inserted = λ e new on h. keeps.inserted e new on h;
    lined = λ e new h. keeps.lined e new h;
    removed = λ e start stop on h. keeps.removed e start stop on h;
    stepped = λ way e h. keeps.stepped way e h;
    run = λ way e h. keeps.run way e h;
    quit = λ e ended message h. keeps.same e (record e { quit_before = true; ended = ended; message = message }) refl refl refl h;
    based = λ e base h. keeps.same e (with_base e base) refl refl refl h;
    gone = λ e place goal h. keeps.same e (record e { place = place; goal = goal }) refl refl refl h;
    pointed = λ e clicks pressed h. keeps.same e (record e { clicks = clicks; pressed = pressed }) refl refl refl h;
    marked = λ e mark soft held whole_line h.
        keeps.same e (record e { mark = mark; soft = soft; held = held; whole_line = whole_line }) refl refl refl h;
    told = λ e message typing h. keeps.same e (record e { message = message; typing = typing }) refl refl refl h;
  }

  saving : IsKeptSaving P
  saving = record {
    stored = λ e stored changed home message h.
        keeps.same e (record e { stored = stored; changed = changed; home = home; message = message }) refl refl refl h;
    asked = λ e prompt answer cursor h. keeps.same e (record e { prompt = prompt; answer = answer; input_cursor = cursor }) refl refl refl h;
    named = λ e name answer h. keeps.same e (record e { name = name; answer = answer }) refl refl refl h;
  }

  asks : IsKept d P
  asks = record {
    inserted = λ e new h. keeps.inserted e new false h;
    wrapped = λ e opener closer h. keeps.wrapped e opener closer h;
    told = λ e message h. keeps.same e (record e { message = Some message }) refl refl refl h;
    placed = λ e place h. keeps.same e (with_place e place) refl refl refl h;
    typed = λ e typing h. keeps.same e (with_typing e typing) refl refl refl h;
    asked = λ e prompt answer cursor h. keeps.same e (record e { prompt = prompt; answer = answer; input_cursor = cursor }) refl refl refl h;
    unasked = λ e h. keeps.same e (without_prompt e) refl refl refl h;
    moved = λ e text m h. keeps.same e (after_moving_in d e text m) refl refl refl h;
    saved = λ fault e h. naming-keeps P saving fault e h;
  }

  seeks : IsKeptSeeking d P
  seeks = record {
    exchanged = λ e start stop new h. keeps.exchanged e start stop new h;
    told = λ e message h. keeps.same e (record e { message = message }) refl refl refl h;
    placed = λ e place h. keeps.same e (with_place e place) refl refl refl h;
    typed = λ e typing h. keeps.same e (with_typing e typing) refl refl refl h;
    sought = λ e search_state purpose origin query other at count cursor h.
        keeps.same e (record e {
          search_state = search_state;
          purpose = purpose;
          origin = origin;
          query = query;
          replacement = other;
          at = at;
          count = count;
          input_cursor = cursor;
        }) refl refl refl h;
  }

  -- ---- a key outside a search and a question

  wheel : (was : Before) (e : Editor) (way : Vertical) → P e → P (after_wheel d was e way)
  wheel was e way h =
      let top = wheel_top d e way in
      let still : Editor = record e { message = was.message } in
      either (shows_place d e top) (if top == row_home (rows d e) e.top then still else e) (carried d e top)
      (either (top == row_home (rows d e) e.top) still e (keeps.same e still refl refl refl h) h) (keeps.same e (carried d e top) refl refl refl h)

  asking-keeps : (fault : Option StoreFault) (was : Before) (e : Editor) (one : Effect) → P e → kept.asks_or_seeks one ≡ true → P (by d fault was e one)
  asking-keeps fault was e (Wheels way) h is = wheel was e way h
  asking-keeps fault was e (Seeks purpose) h is = keeps.same e (after_beginning purpose (unselected e)) refl refl refl h
  asking-keeps fault was e SeeksNext h is =
      let free = unselected e in
      let begun = after_beginning purposes.Find free in
      let gone = search_from d (next_or_start d free) (sought_alone free) in
      either (length (sought d free) == 0) begun gone (keeps.same e begun refl refl refl h) (keeps.same e gone refl refl refl h)
  asking-keeps fault was e SeeksPrevious h is =
      let free = unselected e in
      let begun = after_beginning purposes.Find free in
      let gone = search_back d (sought_alone free) in
      either (length (sought d free) == 0) begun gone (keeps.same e begun refl refl refl h) (keeps.same e gone refl refl refl h)
  asking-keeps fault was e Saves h is = saving-keeps P saving fault e h
  asking-keeps fault was e AsksLine h is = keeps.same e (by d fault was e AsksLine) refl refl refl h
  asking-keeps fault was e AsksName h is = keeps.same e (by d fault was e AsksName) refl refl refl h
  asking-keeps fault was e AsksFile h is = keeps.same e (asking_name e) refl refl refl h
  asking-keeps fault was e AsksOverwrite h is = keeps.same e (asking_over e) refl refl refl h
  asking-keeps fault was e _ h is = absurd (cc is)

  pub effect-keeps : (fault : Option StoreFault) (was : Before) (e : Editor) (one : Effect) → P e → P (by d fault was e one)
  effect-keeps fault was e one h = kept.effect-keeps d P pressing fault was e one h (λ is. asking-keeps fault was e one h is)

  press : (fault : Option StoreFault) (was : Before) (e : Editor) (key : Key) → P e → P (after_pressing d fault was e key)
  press fault was e key h = effect-keeps fault was e (allowed_effect d e key) h

  -- ---- in a search, and in a question

  typed : (prompt : Prompt) (e : Editor) (c : ℕ) → P e → P (typed_in d prompt e.search_state e c)
  typed prompts.Off e c h = typed-in-search d P seeks e.search_state e c h
  typed prompts.Line e c h = letter-keeps d P asks None prompts.Line e c h
  typed prompts.Name e c h = letter-keeps d P asks None prompts.Name e c h
  typed prompts.Code e c h = letter-keeps d P asks None prompts.Code e c h
  typed prompts.File e c h = letter-keeps d P asks None prompts.File e c h
  typed prompts.Overwrite e c h = letter-keeps d P asks None prompts.Overwrite e c h

  line-put : (e : Editor) → P e → P (after_line_put d e)
  line-put e h =
      line-put-keeps d P (record {
        cleared = λ x k. keeps.same x (cleared x) refl refl refl k;
        told = λ x k. keeps.same x (record x { message = Some NothingToPut }) refl refl refl k;
        typed = λ x c k. typed x.prompt x c k;
      }) e h

  free : (e : Editor) → P e → P (without_search e)
  free e h = keeps.same e (without_search e) refl refl refl h

  answer : (fault : Option StoreFault) (was : Before) (e : Editor) (key : Key) (one : Answer) → P e → P (answered d fault was e key one)
  answer fault was e key one h =
      query-keeps d P seeks fault was e key one h (λ ends. press fault was (without_search e) key (free e h)) (λ way. wheel was e way h) (line-put e h)

  begins : (fault : Option StoreFault) (was : Before) (e : Editor) → P e → P (by d fault was (without_search e) (Seeks purposes.Find))
  begins fault was e h = effect-keeps fault was (without_search e) (Seeks purposes.Find) (free e h)

  replacement : (fault : Option StoreFault) (was : Before) (e : Editor) (key : Key) (one : Answer) → P e → P (answered_replacement d fault was e key one)
  replacement fault was e key one h =
      replacement-keeps d P seeks fault was e key one h (begins fault was e h) (λ ends. press fault was (without_search e) key (free e h))
      (λ way. wheel was e way h) (line-put e h)

  at-match : (fault : Option StoreFault) (was : Before) (e : Editor) (key : Key) (one : Answer) → P e → P (answered_match d fault was e key one)
  at-match fault was e key one h =
      match-keeps d P seeks fault was e key one h (begins fault was e h) (λ ends. press fault was (without_search e) key (free e h))
      (λ way. wheel was e way h)

  unasked : (e : Editor) → P e → P (without_prompt e)
  unasked e h = keeps.same e (without_prompt e) refl refl refl h

  question : (fault : Option StoreFault) (was : Before) (e : Editor) (key : Key) (one : Answer) → P e → P (answered_question d fault was e key one)
  question fault was e key one h =
      question-keeps d P asks fault was e key one h (press fault was (without_prompt e) key (unasked e h)) (λ way. wheel was e way h) (line-put e h)

  name : (fault : Option StoreFault) (was : Before) (e : Editor) (key : Key) (one : Answer) → P e → P (answered_name d fault was e key one)
  name fault was e key one h =
      name-keeps d P asks fault was e key one h (press fault was (without_prompt e) key (unasked e h)) (λ way. wheel was e way h)

  overwrite : (fault : Option StoreFault) (was : Before) (e : Editor) (one : Answer) → P e → P (answered_overwrite fault was e one)
  overwrite fault was e (answers.Letter c) h =
      either (is_paste was.typing) (with_typing e was.typing) (after_deciding fault (without_prompt e) c)
      (keeps.same e (with_typing e was.typing) refl refl refl h) (deciding-keeps P saving fault (without_prompt e) c (unasked e h))
  overwrite fault was e answers.Stays h = keeps.same e (with_typing e was.typing) refl refl refl h
  overwrite fault was e (answers.Erases how) h = unasked e h
  overwrite fault was e (answers.Moves m) h = unasked e h
  overwrite fault was e answers.PutsIn h = unasked e h
  overwrite fault was e answers.Passes h = unasked e h
  overwrite fault was e answers.GoesBack h = unasked e h
  overwrite fault was e answers.Next h = unasked e h
  overwrite fault was e answers.Previous h = unasked e h
  overwrite fault was e answers.Replaces h = unasked e h
  overwrite fault was e (answers.Scrolls way) h = unasked e h
  overwrite fault was e answers.Ends h = unasked e h

  -- ---- any key

  any : (fault : Option StoreFault) (was : Before) (prompt : Prompt) (search_state : SearchState) (e : Editor) (key : Key) → P e
      → P (after_any d fault was prompt search_state e key)
  any fault was prompts.Off Off e key h = press fault was e key h
  any fault was prompts.Off Begun e key h = answer fault was e key (answer_of key) h
  any fault was prompts.Off Typed e key h = answer fault was e key (answer_of key) h
  any fault was prompts.Off WithBegun e key h = replacement fault was e key (answer_of key) h
  any fault was prompts.Off WithTyped e key h = replacement fault was e key (answer_of key) h
  any fault was prompts.Off Replacing e key h = at-match fault was e key (without_line (answer_of key)) h
  any fault was prompts.Line search_state e key h = question fault was e key (answer_of key) h
  any fault was prompts.Name search_state e key h = name fault was e key (without_line (answer_of key)) h
  any fault was prompts.Code search_state e key h = question fault was e key (answer_of key) h
  any fault was prompts.File search_state e key h = question fault was e key (answer_of key) h
  any fault was prompts.Overwrite search_state e key h = overwrite fault was e (answer_of key) h

  -- a key that the user presses
  pub user-keeps : (fault : Option StoreFault) (e : Editor) (key : Key) → P e → P (after_user d fault e key)
  user-keeps fault e key h =
      let was = before e in
      let plain = cleared e in
      let k : P plain = keeps.same e plain refl refl refl h in
      let refused = by d fault was plain Refuses in
      let new = after_any d fault was e.prompt e.search_state plain key in
      let left = if refuses_replacing e key then refused else new in
      keeps.same left (as_left key left) refl refl refl
      (either (refuses_replacing e key) refused new (effect-keeps fault was plain Refuses k) (any fault was e.prompt e.search_state plain key k))

by-user : (d : Data) (P : Editor → Type 0) → IsKeptByEdits d P → IsKeptByUser d P
by-user d P keeps = record {
  inserted = λ e new on h. keeps.inserted e new on h;
  lined = λ e new h. keeps.lined e new h;
  removed = λ e start stop on h. keeps.removed e start stop on h;
  wrapped = λ e opener closer h. keeps.wrapped e opener closer h;
  exchanged = λ e start stop new h. keeps.exchanged e start stop new h;
  stepped = λ way e h. keeps.stepped way e h;
  run = λ way e h. keeps.run way e h;
  same = λ e new content looked pasted h. keeps.same e new content looked h;
}

module _ (d : Data) (P : Editor → Type 0) (keeps : IsKeptByEdits d P) where
  pastes : kept.IsKeptPasting P
  pastes = record {
    pasted = λ e pasted message typing h. keeps.same e (record e { pasted = pasted; message = message; typing = typing }) refl refl h;
    lengthened = λ e pasted soft h.
        keeps.same e (record e { pasted = pasted; quit_before = false; goal = None; soft = soft; clicks = None; pressed = None }) refl refl h;
    unpressed = λ e h. keeps.same e (unpressed e) refl refl h;
  }

  pub key-keeps : (fault : Option StoreFault) (e : Editor) (key : Key) → P e → P (after_key d fault e key)
  key-keeps fault e key h =
      each-key d fault e (λ k new. P new) (λ height width. keeps.same e (with_size e height width) refl refl h)
      (λ notice. keeps.same e (with_notice e notice) refl refl h) h
      (kept.start-keeps P pastes e h, kept.paste-end-keeps d P (pressing d P (by-user d P keeps)) pastes e h)
      (λ k small.
      press-keeps d fault e P k (λ x has. user-keeps d P (by-user d P keeps) fault x k has) (λ x has. kept.ended-keeps d P (pressing d P (by-user d P keeps)) pastes x has)
      (λ c. kept.pasted-letter-keeps P pastes d e c h) h)
      key

  pub typing-keeps : (e : Editor) (typed : List (Key × Option StoreFault)) → P e → P (after_typing d e typed)
  typing-keeps e [] h = h
  typing-keeps e (key ∷ typed) h = typing-keeps (after_key d key.1 e key.0) typed (key-keeps key.1 e key.0 h)
