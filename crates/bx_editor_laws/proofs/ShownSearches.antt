-- In each state of a search a match is shown only where the query stands.
use Rattle.std.proofs.Common.{◌≡◌, ℕ, ◌+◌, ◌≤◌, Bool, true, false, List, [], ◌∷◌, length, Option, Some, None, unwrap_or, refl, sym, ap, subst, ◌∙◌, if◌then◌else◌}
use Rattle.std.specs.Prelude.{◌≢◌, ◌==◌, ◌&&◌, not, MatchOption, IsUtf8}
use Rattle.bx_keys.specs.declared.key.Key.{Key}
use Rattle.bx_store.specs.declared.store.StoreFault.{StoreFault}
use Rattle.bx_text.specs.Edits.{fits}
use Rattle.bx_editor.specs.declared.undo_groups.typing.Typing.{Typing}
use Rattle.bx_ucd.specs.Data.{Data}
use Rattle.bx_editor.specs.declared.questions.answers.Prompt.{Prompt}
use Rattle.bx_editor.specs.declared.questions.answers.Prompt.TheVariants as prompts
use Rattle.bx_find.specs.Nearest.{IsFirst, MatchesAt}
use Rattle.bx_find.specs.Matches.{first_from}
use Rattle.bx_find.specs.declared.letters.Reading.TheVariants.{Close}
use Rattle.bx_find.proofs.Nearest.{first_is}
use Rattle.bx_document.specs.Swapped.{behind_character, last_stop, swapped}
use Rattle.bx_view.specs.Moves.{place_at}
use Rattle.bx_view.specs.TextRows.{TextRow}
use Rattle.bx_editor.specs.declared.search_state.SearchPurpose.TheVariants as purposes
use Rattle.bx_editor.specs.declared.matches.Landing.{Landing}
use Rattle.bx_editor.specs.declared.message.Message.{Message}
use Rattle.bx_editor.specs.declared.message.Message.TheVariants.{FromStart, TextFull}
use Rattle.bx_editor.specs.declared.search_state.SearchState.{SearchState}
use Rattle.bx_editor.specs.declared.search_state.SearchState.TheVariants.{Off, Begun, Typed, WithBegun, WithTyped, Replacing}
use Rattle.bx_view.specs.declared.moves.Vertical.{Vertical}
use Rattle.bx_view.specs.Moves.{row_home}
use Rattle.bx_editor.specs.declared.answer.Answer.{Answer}
use Rattle.bx_editor.specs.declared.answer.Answer.TheVariants.{Letter, Erases, Moves, PutsIn, Passes, GoesBack, Next, Previous, Replaces, Scrolls, Stays, Ends}
use Rattle.bx_editor.specs.declared.input_line.Erasure.{Erasure}
use Rattle.bx_editor.specs.Before.{Before}
use Rattle.bx_editor.specs.Editor.{Editor, rows, with_exchange, with_place, with_typing}
use Rattle.bx_editor.specs.InputLines.{after_taking, erases_nothing, is_at_end, is_no_letter, is_taken, line_lengthened, line_shortened, paste_behind}
use Rattle.bx_editor.specs.InputLines.{with_paste_behind}
use Rattle.bx_editor.specs.Keys.{after_pressing, allowed_effect, answered}
use Rattle.bx_editor.specs.Keys.{answered_match, answered_replacement}
use Rattle.bx_editor.specs.LinePuts.{after_line_put, typed_in, typed_in_search}
use Rattle.bx_editor.specs.LineState.{LineState}
use Rattle.bx_editor.specs.Putting.{is_paste}
use Rattle.bx_editor.specs.Replacing.{after_asking_replacement, after_ending, after_erasing_replacement, after_replacement_letter, after_replacing, after_replacing_all}
use Rattle.bx_editor.specs.Replacing.{after_showing, after_sought_end, after_sought_letter, asked_at, at_match, is_replacing, match_stop, matches_on, next_match}
use Rattle.bx_editor.specs.Replacing.{on_from, replacement_line, replacement_typed, shown_at, with_matches_replaced, with_replacement}
use Rattle.bx_editor.specs.RowMoves.{after_wheel, carried, shows_place, wheel_top}
use Rattle.bx_editor.specs.Search.{after_erasing_query, after_letter, after_moving_in, as_typed, forward, kept, landed, landing_from, longest_query, match_or}
use Rattle.bx_editor.specs.Search.{not_found, nothing_sought, query_line, reading, search_from, search_on, sought, with_query, without_search}
use Rattle.bx_editor.proofs.LinePutsKept.{line-put-keeps}
use Rattle.bx_editor.proofs.QuestionSteps.{letter-keeps, IsKept}
use Rattle.bx_editor.proofs.Saved.{IsKeptSaving, naming-keeps}
use Rattle.bx_editor_laws.proofs.PlacesBetween.{place-before, place-between}
use Rattle.bx_editor_laws.proofs.QuietSearch.{effect-quiet, is_quiet, IsQuiet}

-- ---- what holds in each state of a search

-- the query stands, closely read, at an offset whose place this is
abbrev pub IsNear : Data → Editor → Type 0
IsNear d e = (e.purpose ≡ purposes.Replace) × ((at : ℕ) × MatchesAt d Close (sought d e) e.content.text at × (e.place ≡ place_at (rows d e) at))

-- the match is the one that is kept
abbrev pub IsThere : Data → Editor → Type 0
IsThere d e = (e.purpose ≡ purposes.Replace) × (MatchesAt d Close (sought d e) e.content.text e.at × (e.place ≡ place_at (rows d e) e.at))

abbrev pub Stands : Data → Editor → SearchState → Type 0
Stands d e WithBegun = IsNear d e
Stands d e WithTyped = IsNear d e
Stands d e Replacing = IsThere d e
Stands d e _ = Unit {0}

-- and while something is asked no search for replacing is on
abbrev pub IsSound : Data → Editor → Type 0
IsSound d e = (e.prompt ≢ prompts.Off → IsQuiet e) × Stands d e e.search_state

quiet-stands : (d : Data) (e : Editor) (search_state : SearchState) → is_quiet search_state ≡ true → Stands d e search_state
quiet-stands d e Off h = tt
quiet-stands d e Begun h = tt
quiet-stands d e Typed h = tt
quiet-stands d e WithBegun h = absurd (cc h)
quiet-stands d e WithTyped h = absurd (cc h)
quiet-stands d e Replacing h = absurd (cc h)

pub quiet-sound : (d : Data) (e : Editor) → IsQuiet e → IsSound d e
quiet-sound d e h = (λ asked. h, quiet-stands d e e.search_state h)

either : (d : Data) (b : Bool) (p q : Editor) → IsSound d p → IsSound d q → IsSound d (if b then p else q)
either d true p q h k = h
either d false p q h k = k

-- ---- the query is sought

-- where the landing leads to a place, that is the place of a match
abbrev Lands : Data → List ℕ → List TextRow → List ℕ → Landing → Type 0
Lands d q rows text landing = (p : ℕ) → landing.place ≡ Some p → (at : ℕ) × MatchesAt d Close q text at × (p ≡ place_at rows at)

module _ (d : Data) (q : List ℕ) (rows : List TextRow) (text : List ℕ) (u : IsUtf8 text) where
  lands-or : (message : Option Message) (otherwise : Landing) (x : ℕ) (o : Option ℕ) → Lands d q rows text otherwise
      → MatchOption o ((i : ℕ) → x ≤ i → ¬ (MatchesAt d Close q text i)) (IsFirst d Close q text x) → Lands d q rows text (match_or rows message otherwise o)
  lands-or message otherwise x None h none = h
  lands-or message otherwise x (Some at) h first = λ p is. let same : p ≡ place_at rows at = cc is in (at, first.is_match, same)

  lands-first : (message : Option Message) (otherwise : Landing) (x : ℕ) → Lands d q rows text otherwise
      → Lands d q rows text (match_or rows message otherwise (first_from d Close q text x))
  lands-first message otherwise x h = lands-or message otherwise x (first_from d Close q text x) h (first_is d Close q text x u)

lands : (d : Data) (q : List ℕ) (rows : List TextRow) (text : List ℕ) (x : ℕ) (query : List ℕ) → IsUtf8 text
    → Lands d q rows text (forward d Close rows text x query q)
lands d [] rows text x [] u = λ p is. absurd (cc is)
lands d [] rows text x (b ∷ bs) u = λ p is. absurd (cc is)
lands d (c ∷ cs) rows text x query u =
    let q : List ℕ = c ∷ cs in
    lands-first d q rows text u None (match_or rows (Some FromStart) not_found (first_from d Close q text 0)) x
    (lands-first d q rows text u (Some FromStart) not_found 0 (λ p is. absurd (cc is)))

-- what is typed next
quiet-typed : (search_state : SearchState) → is_quiet search_state ≡ true → is_quiet (as_typed search_state) ≡ true
quiet-typed Off h = refl
quiet-typed Begun h = refl
quiet-typed Typed h = refl
quiet-typed WithBegun h = absurd (cc h)
quiet-typed WithTyped h = absurd (cc h)
quiet-typed Replacing h = absurd (cc h)

pasted-sound : (d : Data) (typing : Option Typing) (e : Editor) → IsSound d e → IsSound d (with_paste_behind typing e)
pasted-sound d None e h = h
pasted-sound d (Some typing) e h = h

taking-sound : (d : Data) (typing : Typing) (c : ℕ) (e new : Editor) → IsSound d e → IsSound d new → IsSound d (after_taking d typing c e new)
taking-sound d typing c e new h k =
    pasted-sound d (paste_behind d typing c) (if is_taken d typing c then new else e) (either d (is_taken d typing c) new e k h)

wheel-sound : (d : Data) (was : Before) (e : Editor) (way : Vertical) → IsSound d e → IsSound d (after_wheel d was e way)
wheel-sound d was e way h =
    let top = wheel_top d e way in
    let still : Editor = record e { message = was.message } in
    either d (shows_place d e top) (if top == row_home (rows d e) e.top then still else e) (carried d e top)
    (either d (top == row_home (rows d e) e.top) still e h h) (quiet-sound d (carried d e top) refl)

-- ---- the held text, and the wheel, where no match is sought to be replaced

pub either-quiet : (b : Bool) (p q : Editor) → IsQuiet p → IsQuiet q → IsQuiet (if b then p else q)
either-quiet true p q h k = h
either-quiet false p q h k = k

pub wheel-quiet : (d : Data) (was : Before) (e : Editor) (way : Vertical) → IsQuiet e → IsQuiet (after_wheel d was e way)
wheel-quiet d was e way h =
    let top = wheel_top d e way in
    let still : Editor = record e { message = was.message } in
    either-quiet (shows_place d e top) (if top == row_home (rows d e) e.top then still else e) (carried d e top)
    (either-quiet (top == row_home (rows d e) e.top) still e h h) refl

on-quiet : (d : Data) (grows : Bool) (e : Editor) (l : LineState) → IsQuiet (search_on d grows (with_query e l))
on-quiet d grows e l =
    let x = with_query e l in
    either-quiet grows (search_from d x.place x) (search_from d x.origin (with_place x x.origin)) refl refl

letter-quiet : (d : Data) (e : Editor) (c : ℕ) → IsQuiet e → IsQuiet (after_letter d e c)
letter-quiet d e c h =
    let l = kept e.search_state (query_line e) in
    let longer = line_lengthened d longest_query l c in
    either-quiet (is_no_letter d c) e (search_on d (is_at_end l) (with_query e longer)) h (on-quiet d (is_at_end l) e longer)

in-search-quiet : (d : Data) (search_state : SearchState) (e : Editor) (c : ℕ) → e.search_state ≡ search_state → IsQuiet e
    → IsQuiet (typed_in_search d search_state e c)
in-search-quiet d Off e c is h = h
in-search-quiet d Begun e c is h = letter-quiet d e c h
in-search-quiet d Typed e c is h = letter-quiet d e c h
in-search-quiet d WithBegun e c is h = let no : false ≡ true = sym (ap is_quiet is) ∙ h in absurd (cc no)
in-search-quiet d WithTyped e c is h = let no : false ≡ true = sym (ap is_quiet is) ∙ h in absurd (cc no)
in-search-quiet d Replacing e c is h = h

pub saving-quiet : IsKeptSaving IsQuiet
saving-quiet = record {
  stored = λ e stored changed home message h. h;
  asked = λ e prompt answer cursor h. h;
  named = λ e name answer h. h;
}

pub quiet-kept : (d : Data) → IsKept d IsQuiet
quiet-kept d = record {
  inserted = λ e new h. refl;
  wrapped = λ e opener closer h. refl;
  told = λ e message h. h;
  placed = λ e place h. h;
  typed = λ e typing h. h;
  asked = λ e prompt answer cursor h. h;
  unasked = λ e h. refl;
  moved = λ e text m h. quiet-typed e.search_state h;
  saved = λ fault e h. naming-keeps IsQuiet saving-quiet fault e h;
}

typed-quiet : (d : Data) (prompt : Prompt) (e : Editor) (c : ℕ) → IsQuiet e → IsQuiet (typed_in d prompt e.search_state e c)
typed-quiet d prompts.Off e c h = in-search-quiet d e.search_state e c refl h
typed-quiet d prompts.Line e c h = letter-keeps d IsQuiet (quiet-kept d) None prompts.Line e c h
typed-quiet d prompts.Name e c h = letter-keeps d IsQuiet (quiet-kept d) None prompts.Name e c h
typed-quiet d prompts.Code e c h = letter-keeps d IsQuiet (quiet-kept d) None prompts.Code e c h
typed-quiet d prompts.File e c h = letter-keeps d IsQuiet (quiet-kept d) None prompts.File e c h
typed-quiet d prompts.Overwrite e c h = letter-keeps d IsQuiet (quiet-kept d) None prompts.Overwrite e c h

pub put-quiet : (d : Data) (e : Editor) → IsQuiet e → IsQuiet (after_line_put d e)
put-quiet d e h =
    line-put-keeps d IsQuiet (record { cleared = λ x k. k; told = λ x k. k; typed = λ x c k. typed-quiet d x.prompt x c k }) e h

pub pressed-quiet : (d : Data) (fault : Option StoreFault) (was : Before) (e : Editor) (key : Key) → IsQuiet e → IsQuiet (after_pressing d fault was e key)
pressed-quiet d fault was e key h = effect-quiet d fault was e (allowed_effect d e key) h

module _ (d : Data) (e : Editor) (u : IsUtf8 e.content.text) (unasked : e.prompt ≡ prompts.Off) where
  free : (new : Editor) → new.prompt ≡ e.prompt → new.prompt ≢ prompts.Off → IsQuiet new
  free new same asked = absurd (asked (same ∙ unasked))

  -- ---- the replacement is asked for

  asked-sound : (landing : Landing) (place : Option ℕ) → landing.place ≡ place
      → let aimed : Editor = record e { purpose = purposes.Replace } in Lands d (sought d aimed) (rows d aimed) e.content.text landing
      → IsSound d (asked_at place (landed aimed landing))
  asked-sound landing None is h = quiet-sound d (asked_at None (landed (record e { purpose = purposes.Replace }) landing)) refl
  asked-sound landing (Some p) is h =
      let there = h p is in
      let new = asked_at (Some p) (landed (record e { purpose = purposes.Replace }) landing) in
      (free new refl, (refl, (there.0, there.1, ap (λ o. unwrap_or o e.place) is ∙ there.2)))

  asking-sound : IsQuiet e → IsSound d (after_asking_replacement d e)
  asking-sound h =
      let aimed : Editor = record e { purpose = purposes.Replace } in
      let landing = landing_from d aimed.place aimed in
      let nothing = landed aimed (nothing_sought aimed.query) in
      either d (length (sought d aimed) == 0) nothing (asked_at landing.place (landed aimed landing)) (quiet-sound d nothing h)
      (asked-sound landing landing.place refl (lands d (sought d aimed) (rows d aimed) e.content.text e.place e.query u))

  end-sound : IsQuiet e → IsSound d (after_sought_end d e)
  end-sound h =
      either d (is_replacing e.purpose) (after_asking_replacement d e) (without_search e) (asking-sound h) (quiet-sound d (without_search e) refl)

  letter-sound : (c : ℕ) → IsQuiet e → IsSound d (after_sought_letter d e c)
  letter-sound c h =
      either d (c == 0xA) (after_sought_end d e) (after_letter d e c) (end-sound h) (quiet-sound d (after_letter d e c) (letter-quiet d e c h))

  -- a key that ends the search
  ended-sound : (fault : Option StoreFault) (was : Before) (key : Key) → IsSound d (after_pressing d fault was (without_search e) key)
  ended-sound fault was key =
      let ended = without_search e in quiet-sound d (after_pressing d fault was ended key) (pressed-quiet d fault was ended key refl)

  erased-sound : (how : Erasure) → IsQuiet e → IsSound d (after_erasing_query d e how)
  erased-sound how h =
      let l = line_shortened d how (query_line e) in
      let shorter = search_on d false (with_query e l) in
      either d (erases_nothing d how (query_line e)) e shorter (quiet-sound d e h) (quiet-sound d shorter (on-quiet d false e l))

  pub answer-sound : (fault : Option StoreFault) (was : Before) (key : Key) (answer : Answer) → IsQuiet e → IsSound d (answered d fault was e key answer)
  answer-sound fault was key (Letter c) h = taking-sound d was.typing c e (after_sought_letter d e c) (quiet-sound d e h) (letter-sound c h)
  answer-sound fault was key (Erases how) h = erased-sound how h
  answer-sound fault was key (Moves m) h = quiet-sound d (after_moving_in d e e.query m) (quiet-typed e.search_state h)
  answer-sound fault was key PutsIn h = quiet-sound d (after_line_put d e) (put-quiet d e h)
  answer-sound fault was key Passes h = quiet-sound d e h
  answer-sound fault was key GoesBack h = (λ asked. refl, tt)
  answer-sound fault was key Next h = (λ asked. refl, tt)
  answer-sound fault was key Previous h = (λ asked. refl, tt)
  answer-sound fault was key Replaces h = asking-sound h
  answer-sound fault was key (Scrolls way) h = quiet-sound d (after_wheel d was e way) (wheel-quiet d was e way h)
  answer-sound fault was key Stays h = quiet-sound d (with_typing e was.typing) h
  answer-sound fault was key Ends h = ended-sound fault was key

  -- ---- while it is asked for

  shown-sound : (near : IsNear d e) (o : Option ℕ)
      → MatchOption o ((i : ℕ) → e.place ≤ i → ¬ (MatchesAt d Close (sought d e) e.content.text i)) (IsFirst d Close (sought d e) e.content.text e.place)
      → IsSound d e → IsSound d (shown_at e o)
  shown-sound near None none h = h
  shown-sound near (Some at) first h =
      let other = near.1.0 in
      let place = near.1.2 in
      let before : e.place ≤ other = subst (λ p. p ≤ other) (sym place) (place-before (rows d e) other) in
      let from : place_at (rows d e) other ≤ at = subst (λ p. p ≤ at) place first.not_before in
      let same = place-between (rows d e) at other from (first.least other before near.1.1) in
      (free (shown_at e (Some at)) refl, (near.0, (first.is_match, place ∙ sym same)))

  showing-sound : IsNear d e → IsSound d e → IsSound d (after_showing d e)
  showing-sound near h =
      let closely : next_match d e e.place ≡ first_from d Close (sought d e) e.content.text e.place =
      ap (λ a. first_from d (reading a) (sought d e) e.content.text e.place) near.0 in
      subst (λ o. IsSound d (shown_at e o)) (sym closely)
      (shown-sound near (first_from d Close (sought d e) e.content.text e.place) (first_is d Close (sought d e) e.content.text e.place u) h)

  replaced-near : (l : LineState) → IsNear d e → IsSound d (with_replacement e l)
  replaced-near l near = (free (with_replacement e l) refl, near)

  replacement-typed-sound : (c : ℕ) → IsNear d e → IsSound d e → IsSound d (replacement_typed d e c)
  replacement-typed-sound c near h =
      let longer = line_lengthened d longest_query (kept e.search_state (replacement_line e)) c in
      either d (is_no_letter d c) e (with_replacement e longer) h (replaced-near longer near)

  replacement-letter-sound : (c : ℕ) → IsNear d e → IsSound d e → IsSound d (after_replacement_letter d e c)
  replacement-letter-sound c near h =
      either d (c == 0xA) (after_showing d e) (replacement_typed d e c) (showing-sound near h) (replacement-typed-sound c near h)

  erased-replacement : (how : Erasure) → IsNear d e → IsSound d e → IsSound d (after_erasing_replacement d e how)
  erased-replacement how near h =
      let l = line_shortened d how (replacement_line e) in
      either d (erases_nothing d how (replacement_line e)) e (with_replacement e l) h (replaced-near l near)

  moved-stands : (search_state : SearchState) → IsNear d e → Stands d e search_state → Stands d e (as_typed search_state)
  moved-stands Off near h = h
  moved-stands Begun near h = h
  moved-stands Typed near h = h
  moved-stands WithBegun near h = near
  moved-stands WithTyped near h = near
  moved-stands Replacing near h = h

  pub replacement-sound : (fault : Option StoreFault) (was : Before) (key : Key) (answer : Answer) → IsNear d e → IsSound d e → IsSound d (after_line_put d e)
      → IsSound d (answered_replacement d fault was e key answer)
  replacement-sound fault was key (Letter c) near h put =
      taking-sound d was.typing c e (after_replacement_letter d e c) h (replacement-letter-sound c near h)
  replacement-sound fault was key (Erases how) near h put = erased-replacement how near h
  replacement-sound fault was key (Moves m) near h put =
      (free (after_moving_in d e e.replacement m) refl, moved-stands e.search_state near h.1)
  replacement-sound fault was key PutsIn near h put = put
  replacement-sound fault was key Passes near h put = h
  replacement-sound fault was key GoesBack near h put = (λ asked. refl, tt)
  replacement-sound fault was key Next near h put = (λ asked. refl, tt)
  replacement-sound fault was key Previous near h put = (λ asked. refl, tt)
  replacement-sound fault was key Replaces near h put = showing-sound near h
  replacement-sound fault was key (Scrolls way) near h put = wheel-sound d was e way h
  replacement-sound fault was key Stays near h put = h
  replacement-sound fault was key Ends near h put = ended-sound fault was key

  -- ---- while a match is shown

  on-sound : (z : ℕ) (now : Editor) → IsUtf8 now.content.text → now.prompt ≡ prompts.Off → now.purpose ≡ purposes.Replace → IsSound d (on_from d z now)
  on-sound z now v off purpose =
      let closely : next_match d now z ≡ first_from d Close (sought d now) now.content.text z =
      ap (λ a. first_from d (reading a) (sought d now) now.content.text z) purpose in
      subst (λ o. IsSound d (at_match d now o)) (sym closely)
      (found (first_from d Close (sought d now) now.content.text z) (first_is d Close (sought d now) now.content.text z v))
    where
      found : (o : Option ℕ) → MatchOption o ((i : ℕ) → z ≤ i → ¬ (MatchesAt d Close (sought d now) now.content.text i)) (IsFirst d Close (sought d now) now.content.text z)
          → IsSound d (at_match d now o)
      found None none = quiet-sound d (at_match d now None) refl
      found (Some at) first = (λ asked. absurd (asked off), (purpose, (first.is_match, refl)))

  exchange-keeps : (start stop : ℕ) (new : List ℕ) → let now = with_exchange d e start stop new in (now.prompt ≡ e.prompt) × (now.purpose ≡ e.purpose)
  exchange-keeps start stop new = (refl, refl)

  on-text : (now : Editor) (o : Option ℕ) → (at_match d now o).content ≡ now.content
  on-text now None = refl
  on-text now (Some at) = refl

  -- where the text gives way, and then the next match is shown
  by-room : (room : Bool) → e.purpose ≡ purposes.Replace → let now = with_matches_replaced d e (match_stop d e) e.replacement 1 in
      let new = if room then on_from d (e.at + length e.replacement) now else record e { message = Some TextFull } in IsUtf8 new.content.text → IsSound d e → IsSound d new
  by-room false purpose v h = h
  by-room true purpose v h =
      let z = e.at + length e.replacement in
      let now = with_matches_replaced d e (match_stop d e) e.replacement 1 in
      let keeps = exchange-keeps e.at (match_stop d e) e.replacement in
      on-sound z now (subst (λ t. IsUtf8 t.text) (on-text now (next_match d now z)) v) (keeps.0 ∙ unasked) (keeps.1 ∙ purpose)

  by-enter : (enters : Bool) → e.purpose ≡ purposes.Replace → let new = if enters then after_replacing d e else e in IsUtf8 new.content.text → IsSound d e → IsSound d new
  by-enter true purpose v h = by-room (fits e.content.text e.at (match_stop d e) e.replacement) purpose v h
  by-enter false purpose v h = h

  all-sound : IsSound d e → IsSound d (after_replacing_all d e)
  all-sound h =
      let all = matches_on d e in
      let stop = last_stop e.at all in
      let new = swapped e.at e.content.text e.replacement all in
      either d (fits e.content.text e.at stop new) (after_ending (with_matches_replaced d e stop new (length all))) (record e { message = Some TextFull })
      (λ asked. refl, tt) h

  pub match-sound : (fault : Option StoreFault) (was : Before) (key : Key) (answer : Answer) → e.purpose ≡ purposes.Replace
      → IsUtf8 (answered_match d fault was e key answer).content.text → IsSound d e → IsSound d (answered_match d fault was e key answer)
  match-sound fault was key (Letter c) purpose v h = by-enter ((c == 0xA) && not (is_paste was.typing)) purpose v h
  match-sound fault was key (Erases how) purpose v h = h
  match-sound fault was key (Moves m) purpose v h = ended-sound fault was key
  match-sound fault was key PutsIn purpose v h = ended-sound fault was key
  match-sound fault was key Passes purpose v h = ended-sound fault was key
  match-sound fault was key GoesBack purpose v h = (λ asked. refl, tt)
  match-sound fault was key Next purpose v h = on-sound (behind_character e.content.text e.at) e u unasked purpose
  match-sound fault was key Previous purpose v h = (λ asked. refl, tt)
  match-sound fault was key Replaces purpose v h = all-sound h
  match-sound fault was key (Scrolls way) purpose v h = wheel-sound d was e way h
  match-sound fault was key Stays purpose v h = h
  match-sound fault was key Ends purpose v h = ended-sound fault was key
