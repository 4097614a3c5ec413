-- Keys after which a search is still on leave the place and the text to which giving it up leads.
use Rattle.std.proofs.Common.{◌≡◌, ℕ, Bool, true, false, length, refl, sym, ap, subst, ◌∙◌, if◌then◌else◌}
use Rattle.std.specs.Prelude.{◌==◌, ◌&&◌, Option, Some, None}
use Rattle.bx_keys.specs.declared.key.Key.{Key}
use Rattle.bx_keys.specs.declared.key.Key.TheVariants.{Find, FindBack, FindNext, FindPrevious, Replace}
use Rattle.bx_store.specs.declared.store.StoreFault.{StoreFault}
use Rattle.bx_ucd.specs.Data.{Data}
use Rattle.bx_view.specs.declared.moves.Vertical.{Vertical}
use Rattle.bx_view.specs.Moves.{row_home}
use Rattle.bx_editor.specs.declared.undo_groups.typing.Typing.{Typing}
use Rattle.bx_editor.specs.declared.answer.Answer.{Answer}
use Rattle.bx_editor.specs.declared.answer.Answer.TheVariants.{Letter, Erases, Moves, PutsIn, Passes, GoesBack, Next, Previous, Replaces, Scrolls, Stays, Ends}
use Rattle.bx_editor.specs.declared.input_line.Erasure.{Erasure}
use Rattle.bx_editor.specs.declared.questions.answers.Prompt.TheVariants as prompts
use Rattle.bx_editor.specs.declared.search_state.SearchPurpose.TheVariants as purposes
use Rattle.bx_editor.specs.declared.search_state.SearchState.{SearchState}
use Rattle.bx_editor.specs.declared.search_state.SearchState.TheVariants.{Off, Begun, Typed, WithBegun, WithTyped, Replacing}
use Rattle.bx_editor.specs.Answering.{answer_of}
use Rattle.bx_editor.specs.Before.{Before}
use Rattle.bx_editor.specs.Editor.{Editor, rows, with_place}
use Rattle.bx_editor.specs.Effects.{Effect, Refuses}
use Rattle.bx_editor.specs.InputLines.{after_taking, erases_nothing, is_at_end, is_no_letter, is_taken, line_lengthened, line_shortened, paste_behind}
use Rattle.bx_editor.specs.InputLines.{with_paste_behind}
use Rattle.bx_editor.specs.Keys.{allowed_effect, answered, answered_replacement}
use Rattle.bx_editor.specs.Keys.{changes_text, effect_of}
use Rattle.bx_editor.specs.LinePuts.{after_line_put, typed_in, typed_in_search}
use Rattle.bx_editor.specs.LineState.{LineState}
use Rattle.bx_editor.specs.Replacing.{after_asking_replacement, after_erasing_replacement, after_replacement_letter, after_showing, after_sought_end}
use Rattle.bx_editor.specs.Replacing.{after_sought_letter, asked_at, is_replacing, next_match, replacement_line, replacement_typed, shown_at, with_replacement}
use Rattle.bx_editor.specs.RowMoves.{after_wheel, carried, shows_place, wheel_top}
use Rattle.bx_editor.specs.Search.{after_erasing_query, after_letter, kept, landed, landing_from, longest_query}
use Rattle.bx_editor.specs.Search.{nothing_sought, query_line, search_from, search_on, sought, with_query, without_search}
use Rattle.bx_editor_laws.specs.Laws.{finds, is_on}
use Rattle.bx_editor.proofs.LinePutsKept.{line-put-keeps}
use Rattle.bx_editor.proofs.Searches.{is_end}
use Rattle.bx_editor_laws.proofs.Unsought.{effect-unsought, is_seeking}

-- the new editor has the text and the mark of the old one, and the place where its search began
pub record KeepsSearch (e new : Editor) : Type 0 where
  pub origin_is : new.origin ≡ e.origin
  pub mark_is : new.mark ≡ e.mark
  pub content_is : new.content ≡ e.content
  pub prompt_is : new.prompt ≡ e.prompt
  pub pasted_is : new.pasted ≡ e.pasted

-- ---- a key after which the search is still on

pub keeps-all : (e : Editor) → KeepsSearch e e
keeps-all e = record { origin_is = refl; mark_is = refl; content_is = refl; prompt_is = refl; pasted_is = refl }

then-keeps : (e x y : Editor) → KeepsSearch e x → KeepsSearch x y → KeepsSearch e y
then-keeps e x y h k = record {
  origin_is = k.origin_is ∙ h.origin_is;
  mark_is = k.mark_is ∙ h.mark_is;
  content_is = k.content_is ∙ h.content_is;
  prompt_is = k.prompt_is ∙ h.prompt_is;
  pasted_is = k.pasted_is ∙ h.pasted_is;
}

pub either-keeps : (b : Bool) (e p q : Editor) → KeepsSearch e p → KeepsSearch e q → KeepsSearch e (if b then p else q)
either-keeps true e p q h k = h
either-keeps false e p q h k = k

-- a letter may end the search
pub either-on : (b : Bool) (e p q : Editor) → (is_on p.search_state ≡ true → KeepsSearch e p) → (is_on q.search_state ≡ true → KeepsSearch e q)
    → is_on (if b then p else q).search_state ≡ true → KeepsSearch e (if b then p else q)
either-on true e p q h k on = h on
either-on false e p q h k on = k on

-- a typed or a pasted character
pasted-on : (typing : Option Typing) (e x : Editor) → (is_on x.search_state ≡ true → KeepsSearch e x)
    → is_on (with_paste_behind typing x).search_state ≡ true → KeepsSearch e (with_paste_behind typing x)
pasted-on None e x h on = h on
pasted-on (Some typing) e x h on =
    let keeps = h on in
    record { origin_is = keeps.origin_is; mark_is = keeps.mark_is; content_is = keeps.content_is; prompt_is = keeps.prompt_is; pasted_is = keeps.pasted_is }

taking-on : (d : Data) (typing : Typing) (c : ℕ) (e new : Editor) → (is_on new.search_state ≡ true → KeepsSearch e new)
    → is_on (after_taking d typing c e new).search_state ≡ true → KeepsSearch e (after_taking d typing c e new)
taking-on d typing c e new h =
    pasted-on (paste_behind d typing c) e (if is_taken d typing c then new else e)
    (either-on (is_taken d typing c) e new e h (λ on. keeps-all e))

-- the query is sought
on-keeps : (d : Data) (e : Editor) (grows : Bool) (l : LineState) → KeepsSearch e (search_on d grows (with_query e l))
on-keeps d e grows l =
    let x = with_query e l in
    either-keeps grows e (search_from d x.place x) (search_from d x.origin (with_place x x.origin))
    (record { origin_is = refl; mark_is = refl; content_is = refl; prompt_is = refl; pasted_is = refl })
    (record { origin_is = refl; mark_is = refl; content_is = refl; prompt_is = refl; pasted_is = refl })

letter-keeps : (d : Data) (e : Editor) (c : ℕ) → KeepsSearch e (after_letter d e c)
letter-keeps d e c =
    let l = kept e.search_state (query_line e) in
    let longer = line_lengthened d longest_query l c in
    either-keeps (is_no_letter d c) e e (search_on d (is_at_end l) (with_query e longer)) (keeps-all e) (on-keeps d e (is_at_end l) longer)

erasing-keeps : (d : Data) (e : Editor) (how : Erasure) → KeepsSearch e (after_erasing_query d e how)
erasing-keeps d e how =
    let l = line_shortened d how (query_line e) in
    either-keeps (erases_nothing d how (query_line e)) e e (search_on d false (with_query e l)) (keeps-all e) (on-keeps d e false l)

asked-keeps : (e went : Editor) (place : Option ℕ) → KeepsSearch e went → KeepsSearch e (asked_at place went)
asked-keeps e went None h = record { origin_is = h.origin_is; mark_is = h.mark_is; content_is = h.content_is; prompt_is = h.prompt_is; pasted_is = h.pasted_is }
asked-keeps e went (Some place) h =
    record { origin_is = h.origin_is; mark_is = h.mark_is; content_is = h.content_is; prompt_is = h.prompt_is; pasted_is = h.pasted_is }

asking-keeps : (d : Data) (e : Editor) → KeepsSearch e (after_asking_replacement d e)
asking-keeps d e =
    let aimed : Editor = record e { purpose = purposes.Replace } in
    let l = landing_from d aimed.place aimed in
    let same : KeepsSearch e (landed aimed l) = record { origin_is = refl; mark_is = refl; content_is = refl; prompt_is = refl; pasted_is = refl } in
    either-keeps (length (sought d aimed) == 0) e (landed aimed (nothing_sought aimed.query)) (asked_at l.place (landed aimed l))
    (record { origin_is = refl; mark_is = refl; content_is = refl; prompt_is = refl; pasted_is = refl }) (asked-keeps e (landed aimed l) l.place same)

-- the end of a search to find
sought-end-keeps : (d : Data) (e : Editor) → is_on (after_sought_end d e).search_state ≡ true → KeepsSearch e (after_sought_end d e)
sought-end-keeps d e =
    either-on (is_replacing e.purpose) e (after_asking_replacement d e) (without_search e) (λ on. asking-keeps d e) (λ on. absurd (cc on))

sought-keeps : (d : Data) (e : Editor) (c : ℕ) → is_on (after_sought_letter d e c).search_state ≡ true → KeepsSearch e (after_sought_letter d e c)
sought-keeps d e c = either-on (c == 0xA) e (after_sought_end d e) (after_letter d e c) (sought-end-keeps d e) (λ on. letter-keeps d e c)

-- ---- the held text, and the wheel

replacement-typed-keeps : (d : Data) (e : Editor) (c : ℕ) → KeepsSearch e (replacement_typed d e c)
replacement-typed-keeps d e c =
    let longer = with_replacement e (line_lengthened d longest_query (kept e.search_state (replacement_line e)) c) in
    either-keeps (is_no_letter d c) e e longer (keeps-all e)
    (record { origin_is = refl; mark_is = refl; content_is = refl; prompt_is = refl; pasted_is = refl })

in-search-keeps : (d : Data) (search_state : SearchState) (e : Editor) (c : ℕ) → KeepsSearch e (typed_in_search d search_state e c)
in-search-keeps d Off e c = keeps-all e
in-search-keeps d Begun e c = letter-keeps d e c
in-search-keeps d Typed e c = letter-keeps d e c
in-search-keeps d WithBegun e c = replacement-typed-keeps d e c
in-search-keeps d WithTyped e c = replacement-typed-keeps d e c
in-search-keeps d Replacing e c = keeps-all e

line-put-search : (d : Data) (e : Editor) → e.prompt ≡ prompts.Off → KeepsSearch e (after_line_put d e)
line-put-search d e unasked =
    line-put-keeps d (KeepsSearch e) (record {
      cleared = λ x h.
          record { origin_is = h.origin_is; mark_is = h.mark_is; content_is = h.content_is; prompt_is = h.prompt_is; pasted_is = h.pasted_is };
      told = λ x h.
          record { origin_is = h.origin_is; mark_is = h.mark_is; content_is = h.content_is; prompt_is = h.prompt_is; pasted_is = h.pasted_is };
      typed = λ x c h.
          then-keeps e x (typed_in d x.prompt x.search_state x c) h
          (subst (λ p. KeepsSearch x (typed_in d p x.search_state x c)) (sym (h.prompt_is ∙ unasked)) (in-search-keeps d x.search_state x c));
    }) e (keeps-all e)

wheel-keeps : (d : Data) (was : Before) (e : Editor) (way : Vertical) → is_on (after_wheel d was e way).search_state ≡ true
    → KeepsSearch e (after_wheel d was e way)
wheel-keeps d was e way =
    let top = wheel_top d e way in
    let still : Editor = record e { message = was.message } in
    either-on (shows_place d e top) e (if top == row_home (rows d e) e.top then still else e) (carried d e top)
    (λ on. either-keeps (top == row_home (rows d e) e.top) e still e
    (record { origin_is = refl; mark_is = refl; content_is = refl; prompt_is = refl; pasted_is = refl }) (keeps-all e))
    (λ on. absurd (cc on))

-- ---- while the query is asked for

pub answered-keeps : (d : Data) (fault : Option StoreFault) (was : Before) (e : Editor) (key : Key) (answer : Answer) → e.prompt ≡ prompts.Off
    → (is_end answer ≡ true → is_seeking (allowed_effect d (without_search e) key) ≡ false)
    → is_on (answered d fault was e key answer).search_state ≡ true → KeepsSearch e (answered d fault was e key answer)
answered-keeps d fault was e key (Letter c) unasked ends on = taking-on d was.typing c e (after_sought_letter d e c) (sought-keeps d e c) on
answered-keeps d fault was e key (Erases how) unasked ends on = erasing-keeps d e how
answered-keeps d fault was e key (Moves m) unasked ends on = record { origin_is = refl; mark_is = refl; content_is = refl; prompt_is = refl; pasted_is = refl }
answered-keeps d fault was e key PutsIn unasked ends on = line-put-search d e unasked
answered-keeps d fault was e key Passes unasked ends on = keeps-all e
answered-keeps d fault was e key GoesBack unasked ends on = absurd (cc on)
answered-keeps d fault was e key Next unasked ends on = record { origin_is = refl; mark_is = refl; content_is = refl; prompt_is = refl; pasted_is = refl }
answered-keeps d fault was e key Previous unasked ends on =
    record { origin_is = refl; mark_is = refl; content_is = refl; prompt_is = refl; pasted_is = refl }
answered-keeps d fault was e key Replaces unasked ends on = asking-keeps d e
answered-keeps d fault was e key (Scrolls way) unasked ends on = wheel-keeps d was e way on
answered-keeps d fault was e key Stays unasked ends on = record { origin_is = refl; mark_is = refl; content_is = refl; prompt_is = refl; pasted_is = refl }
answered-keeps d fault was e key Ends unasked ends on =
    let off = effect-unsought d fault was (without_search e) (allowed_effect d (without_search e) key) (ends refl) refl in
    let none : false ≡ true = sym (ap is_on off) ∙ on in
    absurd (cc none)

-- ---- while the replacement is asked for

shown-keeps : (e : Editor) (at : Option ℕ) → is_on (shown_at e at).search_state ≡ true → KeepsSearch e (shown_at e at)
shown-keeps e None on = keeps-all e
shown-keeps e (Some at) on = absurd (cc on)

replacement-letter-keeps : (d : Data) (e : Editor) (c : ℕ) → is_on (after_replacement_letter d e c).search_state ≡ true
    → KeepsSearch e (after_replacement_letter d e c)
replacement-letter-keeps d e c =
    either-on (c == 0xA) e (after_showing d e) (replacement_typed d e c) (shown-keeps e (next_match d e e.place)) (λ on. replacement-typed-keeps d e c)

erasing-replacement-keeps : (d : Data) (e : Editor) (how : Erasure) → KeepsSearch e (after_erasing_replacement d e how)
erasing-replacement-keeps d e how =
    either-keeps (erases_nothing d how (replacement_line e)) e e (with_replacement e (line_shortened d how (replacement_line e))) (keeps-all e)
    (record { origin_is = refl; mark_is = refl; content_is = refl; prompt_is = refl; pasted_is = refl })

-- the key does not begin another search
abbrev is_search : Answer → Bool
is_search Next = true
is_search Previous = true
is_search _ = false

pub replacement-keeps : (d : Data) (fault : Option StoreFault) (was : Before) (e : Editor) (key : Key) (answer : Answer) → e.prompt ≡ prompts.Off
    → is_search answer ≡ false
    → (is_end answer ≡ true → is_seeking (allowed_effect d (without_search e) key) ≡ false)
    → is_on (answered_replacement d fault was e key answer).search_state ≡ true → KeepsSearch e (answered_replacement d fault was e key answer)
replacement-keeps d fault was e key (Letter c) unasked other ends on =
    taking-on d was.typing c e (after_replacement_letter d e c) (replacement-letter-keeps d e c) on
replacement-keeps d fault was e key (Erases how) unasked other ends on = erasing-replacement-keeps d e how
replacement-keeps d fault was e key (Moves m) unasked other ends on =
    record { origin_is = refl; mark_is = refl; content_is = refl; prompt_is = refl; pasted_is = refl }
replacement-keeps d fault was e key PutsIn unasked other ends on = line-put-search d e unasked
replacement-keeps d fault was e key Passes unasked other ends on = keeps-all e
replacement-keeps d fault was e key GoesBack unasked other ends on = absurd (cc on)
replacement-keeps d fault was e key Next unasked other ends on = absurd (cc other)
replacement-keeps d fault was e key Previous unasked other ends on = absurd (cc other)
replacement-keeps d fault was e key Replaces unasked other ends on = shown-keeps e (next_match d e e.place) on
replacement-keeps d fault was e key (Scrolls way) unasked other ends on = wheel-keeps d was e way on
replacement-keeps d fault was e key Stays unasked other ends on =
    record { origin_is = refl; mark_is = refl; content_is = refl; prompt_is = refl; pasted_is = refl }
replacement-keeps d fault was e key Ends unasked other ends on =
    let off = effect-unsought d fault was (without_search e) (allowed_effect d (without_search e) key) (ends refl) refl in
    let none : false ≡ true = sym (ap is_on off) ∙ on in
    absurd (cc none)

-- a key that begins no search, and one that ends a search, seeks nothing
pub begins-none : (key : Key) → finds key ≡ false → is_search (answer_of key) ≡ false
begins-none Find h = absurd (cc h)
begins-none FindBack h = absurd (cc h)
begins-none FindNext h = absurd (cc h)
begins-none FindPrevious h = absurd (cc h)
begins-none _ h = refl

plain-effect : (d : Data) (e : Editor) (key : Key) → is_end (answer_of key) ≡ true → is_seeking (effect_of d e key) ≡ false
plain-effect d e Find h = absurd (cc h)
plain-effect d e FindBack h = absurd (cc h)
plain-effect d e FindNext h = absurd (cc h)
plain-effect d e FindPrevious h = absurd (cc h)
plain-effect d e Replace h = absurd (cc h)
plain-effect d e _ h = refl

-- nor where it is refused
refused-effect : (b : Bool) (one : Effect) → is_seeking one ≡ false → is_seeking (if b then Refuses else one) ≡ false
refused-effect true one h = refl
refused-effect false one h = h

pub ends-all : (d : Data) (e : Editor) (key : Key) → is_end (answer_of key) ≡ true → is_seeking (allowed_effect d e key) ≡ false
ends-all d e key h = refused-effect (changes_text key && e.read_only) (effect_of d e key) (plain-effect d e key h)
