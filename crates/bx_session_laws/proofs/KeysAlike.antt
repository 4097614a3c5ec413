-- Any key that stores nothing and is no Quit does the same to two editors of which the same lasts, if they show the same row first or it
-- rests on no row of the picture.
use Rattle.std.proofs.Common.{◌≡◌, ℕ, Bool, true, false, List, [], length, Option, Some, None, refl, sym, ap, subst, ◌∙◌, inl, inr, if◌then◌else◌}
use Rattle.std.specs.Prelude.{◌==◌, ◌⊎◌, ◌&&◌, ◌||◌, not, is_some}
use Rattle.bx_keys.specs.declared.key.Key.{Key}
use Rattle.bx_keys.specs.declared.key.Key.TheVariants.{Insert, Repaint, Save}
use Rattle.bx_store.specs.declared.store.StoreFault.{StoreFault}
use Rattle.bx_editor.specs.declared.undo_groups.typing.Typing.{Typing}
use Rattle.bx_editor.specs.declared.undo_groups.typing.Typing.TheVariants as typings
use Rattle.bx_text.specs.index.Paragraphs.{is_separator}
use Rattle.bx_ucd.specs.Data.{Data}
use Rattle.bx_editor.specs.declared.answer.Answer.{Answer}
use Rattle.bx_editor.specs.declared.answer.Answer.TheVariants.{Letter, Erases, Moves, PutsIn, Passes, GoesBack, Next, Previous, Replaces, Scrolls, Stays, Ends}
use Rattle.bx_editor.specs.declared.input_line.Erasure.{Erasure}
use Rattle.bx_editor.specs.declared.questions.answers.Prompt.{Prompt}
use Rattle.bx_editor.specs.declared.questions.answers.Prompt.TheVariants as prompts
use Rattle.bx_editor.specs.declared.message.Message.TheVariants.{ViewOnly}
use Rattle.bx_editor.specs.declared.search_state.SearchState.{SearchState}
use Rattle.bx_editor.specs.declared.search_state.SearchState.TheVariants.{Off, Begun, Typed, WithBegun, WithTyped, Replacing}
use Rattle.bx_editor.specs.Answering.{answer_of, without_line}
use Rattle.bx_editor.specs.Before.{Before, before}
use Rattle.bx_editor.specs.Clicks.{clicks_behind, pressed_behind}
use Rattle.bx_editor.specs.Editor.{Editor, cleared, unpressed, with_typing}
use Rattle.bx_editor.specs.Effects.{Refuses, by}
use Rattle.bx_editor.specs.InputLines.{erases_nothing, is_taken, line_shortened}
use Rattle.bx_editor.specs.Keys.{after_any, after_in_paste, after_key, after_press, after_user, answered, answered_question, as_left, ends_name, is_save, is_typed, overwrites}
use Rattle.bx_editor.specs.Keys.{refuses_replacing, saving_by}
use Rattle.bx_editor.specs.LinePuts.{after_line_put}
use Rattle.bx_editor.specs.Putting.{after_paste_start, ended_with, is_paste, paste_begun, paste_ended, refuses_paste, with_pasted, without_paste, put_in}
use Rattle.bx_editor.specs.Replacing.{after_asking_replacement, after_sought_end, after_sought_letter, is_replacing}
use Rattle.bx_editor.specs.RowMoves.{goal_behind}
use Rattle.bx_editor.specs.Saving.{Saving, can_save, confirms, is_empty_name, is_nameless, own_saving, saving_over, saving_under}
use Rattle.bx_editor.specs.Search.{after_erasing_query, after_letter, query_line, search_on, with_query, without_search}
use Rattle.bx_editor.specs.Region.{soft_behind}
use Rattle.bx_editor.proofs.InSearch.{each-key, pressed-key}
use Rattle.bx_session.proofs.Ending.{Place, over, ready_stores, same_place}
use Rattle.bx_session.proofs.KeyKinds.{stores}
use Rattle.bx_session.proofs.KeySizes.{ended_top}
use Rattle.bx_session.specs.Parts.{is_quit}
use Rattle.bx_session_laws.specs.Recovery.{PastesAlone}
use Rattle.bx_session_laws.proofs.Lasting.{Lasting, Presses, RestsAlike, Serves, answer_rests, answer_rests_alone, having, lasting, own, refuses_alike, scrolls}
use Rattle.bx_session_laws.proofs.Alike.{Alike, either_alike, going_on, idle, idle_on, put_in_alike}
use Rattle.bx_session_laws.proofs.PressedAlike.{pressed_alike}
use Rattle.bx_session_laws.proofs.AskedAlike.{name_alike, overwrite_alike, question_alike, scrolled_alike, taking_alike}
use Rattle.bx_session_laws.proofs.PutAlike.{letter_alike, line_put_in_alike, then_alike}
use Rattle.bx_session_laws.proofs.ReplacingAlike.{asking_alike, ends_search_alike, match_alike, replacement_alike}

-- ---- a key in a search

erasing_query_alike : (d : Data) (e f : Editor) (how : Erasure)
    → Alike e (after_erasing_query d e how) (having (lasting e) f) (after_erasing_query d (having (lasting e) f) how)
erasing_query_alike d e f how =
    let g = having (lasting e) f in
    let shorter : Editor → Editor = λ x. search_on d false (with_query x (line_shortened d how (query_line e))) in
    either_alike (erases_nothing d how (query_line e)) e e (shorter e) g g (shorter g) (idle e e g g refl refl refl)
    (idle e (shorter e) g (shorter g) refl refl refl)

end_alike : (d : Data) (e f : Editor) → Alike e (after_sought_end d e) (having (lasting e) f) (after_sought_end d (having (lasting e) f))
end_alike d e f =
    let g = having (lasting e) f in
    either_alike (is_replacing e.purpose) e (after_asking_replacement d e) (without_search e) g (after_asking_replacement d g) (without_search g)
    (asking_alike d e f) (idle e (without_search e) g (without_search g) refl refl refl)

sought_letter_alike : (d : Data) (e f : Editor) (c : ℕ)
    → Alike e (after_sought_letter d e c) (having (lasting e) f) (after_sought_letter d (having (lasting e) f) c)
sought_letter_alike d e f c =
    let g = having (lasting e) f in
    either_alike (c == 0xA) e (after_sought_end d e) (after_letter d e c) g (after_sought_end d g) (after_letter d g c)
    (end_alike d e f) (letter_alike d e f c)

answered_alike : (d : Data) (fault : Option StoreFault) (was was' : Before) (e f : Editor) (key : Key) (answer : Answer) → Presses e f key
    → (scrolls answer ≡ false) ⊎ (f.top ≡ e.top) → Alike e (after_line_put d e) (having (lasting e) f) (after_line_put d (having (lasting e) f))
    → Alike e (answered d fault was e key answer) (having (lasting e) f)
    (answered d None (record was' { typing = was.typing }) (having (lasting e) f) key answer)
answered_alike d fault was was' e f key (Letter c) h r put =
    let g = having (lasting e) f in
    taking_alike d was.typing c e (after_sought_letter d e c) g (after_sought_letter d g c) refl (λ taken. sought_letter_alike d e f c)
answered_alike d fault was was' e f key (Erases how) h r put = erasing_query_alike d e f how
answered_alike d fault was was' e f key (Moves m) h r put = record { lasts = refl; deeds = []; first = refl; other = refl }
answered_alike d fault was was' e f key PutsIn h r put = put
answered_alike d fault was was' e f key Passes h r put = record { lasts = refl; deeds = []; first = refl; other = refl }
answered_alike d fault was was' e f key GoesBack h r put = record { lasts = refl; deeds = []; first = refl; other = refl }
answered_alike d fault was was' e f key Next h r put = record { lasts = refl; deeds = []; first = refl; other = refl }
answered_alike d fault was was' e f key Previous h r put = record { lasts = refl; deeds = []; first = refl; other = refl }
answered_alike d fault was was' e f key Replaces h r put = asking_alike d e f
answered_alike d fault was was' e f key (Scrolls way) h r put = scrolled_alike d was (record was' { typing = was.typing }) e f way r
answered_alike d fault was was' e f key Stays h r put = record { lasts = refl; deeds = []; first = refl; other = refl }
answered_alike d fault was was' e f key Ends h r put = ends_search_alike d fault was was' e f key h

-- ---- a key that stores nothing, by what is asked and sought

-- where no paste is under way and this is asked
abbrev StoresNothing : Editor → Prompt → Key → Type 0
StoresNothing e prompt key = is_some (saving_by e prompt key (answer_of key)) ≡ false

some_if : (b : Bool) (saving : Saving) → is_some (if b then Some saving else None) ≡ false → b ≡ false
some_if true saving h = absurd (cc h)
some_if false saving h = refl

-- a letter that completes no name
typed_by : (c : Bool) (is_typed empty taken : Bool) → (taken ≡ true → c ≡ true → is_typed ≡ true) → (c && is_typed && not empty) ≡ false → taken ≡ true
    → (c && not empty) ≡ false
typed_by true true empty taken h k t = k
typed_by true false empty taken h k t = let both : false ≡ true = h t refl in absurd (cc both)
typed_by false is_typed empty taken h k t = refl

-- a pasted line end is not taken
taken_typed : (d : Data) (typing : Typing) (c : ℕ) → is_taken d typing c ≡ true → (c == 0xA) ≡ true → is_typed typing ≡ true
taken_typed d typings.Paste c taken ends =
    let both : false ≡ true = sym (ap (λ b. not (b || is_separator (d.class c))) ends) ∙ taken in absurd (cc both)
taken_typed d typings.Spent c taken ends = absurd (cc taken)
taken_typed d typing c taken ends = refl

unsaved_name : (d : Data) (e : Editor) (key : Key) (c : ℕ) → StoresNothing e prompts.File key → answer_of key ≡ Letter c → is_taken d e.typing c ≡ true
    → ((c == 0xA) && not (length e.answer == 0)) ≡ false
unsaved_name d e key c none letter taken =
    let by_letter : is_some (saving_by e prompts.File key (Letter c)) ≡ false = subst (λ a. is_some (saving_by e prompts.File key a) ≡ false) letter none in
    typed_by (c == 0xA) (is_typed e.typing) (length e.answer == 0) (is_taken d e.typing c) (taken_typed d e.typing c)
    (some_if (ends_name e c) (saving_under e e.answer) by_letter) taken

undecided_letter : (e : Editor) (key : Key) (c : ℕ) → StoresNothing e prompts.Overwrite key → answer_of key ≡ Letter c
    → (confirms c && not (is_paste e.typing) && can_save e) ≡ false
undecided_letter e key c none letter =
    some_if (overwrites e c) (saving_over e) (subst (λ a. is_some (saving_by e prompts.Overwrite key a) ≡ false) letter none)

-- a Save that stores nothing, where it does not only decline to overwrite
save_at : (e : Editor) (prompt : Prompt) → (prompt ≡ prompts.Overwrite → ⊥) → is_some (saving_by e prompt Save Ends) ≡ false → can_save e ≡ false
save_at e prompts.Off other h = some_if (can_save e) (own_saving e e.name) h
save_at e prompts.Line other h = some_if (can_save e) (own_saving e e.name) h
save_at e prompts.Name other h = some_if (can_save e) (own_saving e e.name) h
save_at e prompts.Code other h = some_if (can_save e) (own_saving e e.name) h
save_at e prompts.File other h = some_if (can_save e) (own_saving e e.name) h
save_at e prompts.Overwrite other h = absurd (other refl)

saves_nothing : (e : Editor) (prompt : Prompt) (key : Key) → (prompt ≡ prompts.Overwrite → ⊥) → StoresNothing e prompt key → is_save key ≡ true
    → can_save e ≡ false
saves_nothing e prompt Save other h is = save_at e prompt other h
saves_nothing e prompt key other h is = absurd (cc is)

-- ---- whether a search or a question is on or not; `e` is the editor before the key

module _ (d : Data) (fault : Option StoreFault) (was : Before) (e f : Editor) (key : Key) (goes_on : is_quit (Some key) ≡ false)
    (rests : RestsAlike e f key) (names : is_nameless f ≡ is_nameless e) where
  abbrev old : Editor
  old = cleared e

  abbrev other : Editor
  other = having (lasting old) (cleared f)

  abbrev was' : Before
  was' = record was { typing = e.typing }

  presses : (prompt : Prompt) → (prompt ≡ prompts.Overwrite → ⊥) → StoresNothing e prompt key → Presses old (cleared f) key
  presses prompt asks none =
      record { goes_on = goes_on; saves_nothing = saves_nothing e prompt key asks none; rests = rests; names = names }

  put : Alike old (after_line_put d old) other (after_line_put d other)
  put = line_put_in_alike d old (cleared f)

  asked : (prompt : Prompt) → (prompt ≡ prompts.Overwrite → ⊥) → e.prompt ≡ prompt → StoresNothing e prompt key
      → Alike old (answered_question d fault (before e) old key (answer_of key)) other (answered_question d None was' other key (answer_of key))
  asked prompt asks is none =
      question_alike d fault (before e) was old (cleared f) key (answer_of key) (presses prompt asks none) (answer_rests e f key rests)
      (λ c letter taken is_file. unsaved_name d e key c (subst (λ p. StoresNothing e p key) (sym is ∙ is_file) none) letter taken) put

  any_alike : (prompt : Prompt) (search_state : SearchState) → e.prompt ≡ prompt → StoresNothing e prompt key
      → Alike old (after_any d fault (before e) prompt search_state old key) other (after_any d None was' prompt search_state other key)
  any_alike prompts.Off Off is none = pressed_alike d fault (before e) was old (cleared f) key (presses prompts.Off (λ x. cc x) none)
  any_alike prompts.Off Begun is none =
      answered_alike d fault (before e) was old (cleared f) key (answer_of key) (presses prompts.Off (λ x. cc x) none) (answer_rests e f key rests) put
  any_alike prompts.Off Typed is none =
      answered_alike d fault (before e) was old (cleared f) key (answer_of key) (presses prompts.Off (λ x. cc x) none) (answer_rests e f key rests) put
  any_alike prompts.Off WithBegun is none =
      replacement_alike d fault (before e) was old (cleared f) key (answer_of key) (presses prompts.Off (λ x. cc x) none) (answer_rests e f key rests) put
  any_alike prompts.Off WithTyped is none =
      replacement_alike d fault (before e) was old (cleared f) key (answer_of key) (presses prompts.Off (λ x. cc x) none) (answer_rests e f key rests) put
  any_alike prompts.Off Replacing is none =
      match_alike d fault (before e) was old (cleared f) key (without_line (answer_of key)) (presses prompts.Off (λ x. cc x) none)
      (answer_rests_alone e f key rests)
  any_alike prompts.Line search_state is none = asked prompts.Line (λ x. cc x) is none
  any_alike prompts.Name search_state is none =
      name_alike d fault (before e) was old (cleared f) key (without_line (answer_of key)) (presses prompts.Name (λ x. cc x) none)
      (answer_rests_alone e f key rests)
  any_alike prompts.Code search_state is none = asked prompts.Code (λ x. cc x) is none
  any_alike prompts.File search_state is none = asked prompts.File (λ x. cc x) is none
  any_alike prompts.Overwrite search_state is none =
      overwrite_alike fault (before e) was old (cleared f) (answer_of key) names (λ c letter. undecided_letter e key c none letter)

-- ---- a key where no paste is under way, or once it has ended

left_alike : (key : Key) (e new f new' : Editor) → Alike e new f new' → Alike e (as_left key new) f (as_left key new')
left_alike key e new f new' h =
    idle_on e new (as_left key new) f new' (as_left key new') (λ (l : Lasting). record l {
      goal = goal_behind key l.goal;
      soft = soft_behind key l.soft;
      clicks = clicks_behind key l.clicks;
      pressed = pressed_behind key l.pressed;
    }) refl refl refl refl h

uncleared : (e new f new' : Editor) → Alike (cleared e) new (cleared f) new' → Alike e new f new'
uncleared e new f new' h = record { lasts = h.lasts; deeds = h.deeds; first = h.first; other = h.other }

user_alike : (d : Data) (fault : Option StoreFault) (e f : Editor) (key : Key) → is_quit (Some key) ≡ false → StoresNothing e e.prompt key → RestsAlike e f key
    → is_nameless f ≡ is_nameless e → Alike e (after_user d fault e key) (having (lasting e) f) (after_user d None (having (lasting e) f) key)
user_alike d fault e f key goes_on none rests names =
    let g = having (lasting e) f in
    let any = any_alike d fault (before f) e f key goes_on rests names e.prompt e.search_state refl none in
    let refused : Editor → Editor = λ x. by d None (before x) (cleared x) Refuses in
    let pressed = after_any d fault (before e) e.prompt e.search_state (cleared e) key in
    let pressed' = after_any d None (before g) e.prompt e.search_state (cleared g) key in
    left_alike key e (if refuses_replacing e key then refused e else pressed) g (if refuses_replacing g key then refused g else pressed')
    (subst (λ b. Alike e (if refuses_replacing e key then refused e else pressed) g (if b then refused g else pressed')) (sym (refuses_alike e f key))
    (either_alike (refuses_replacing e key) e (refused e) pressed g (refused g) pressed' (idle e (refused e) g (refused g) refl refl refl)
    (uncleared e pressed g pressed' any)))

-- ---- a paste

-- what it has brought is put in
list_alike : (d : Data) (e f : Editor) (list : List ℕ) → Alike e (with_pasted d e list) (having (lasting e) f) (with_pasted d (having (lasting e) f) list)
list_alike d e f list =
    let g = having (lasting e) f in
    let left = without_paste e in
    let left' = without_paste g in
    let put = put_in_alike d left (without_paste f) list false in
    either_alike (length list == 0) e left (put_in d left list false) g left' (put_in d left' list false) (idle e left g left' refl refl refl)
    (record { lasts = put.lasts; deeds = put.deeds; first = put.first; other = put.other })

ended_by : (d : Data) (e f : Editor) (pasted : Option (List ℕ)) → Alike e (ended_with d e pasted) (having (lasting e) f) (ended_with d (having (lasting e) f) pasted)
ended_by d e f None = idle e e (having (lasting e) f) (having (lasting e) f) refl refl refl
ended_by d e f (Some list) = list_alike d e f list

pub ended_alike : (d : Data) (e f : Editor) → Alike e (paste_ended d e) (having (lasting e) f) (paste_ended d (having (lasting e) f))
ended_alike d e f = ended_by d e f e.pasted

unpressed_alike : (e new f new' : Editor) → Alike e new f new' → Alike e (unpressed new) f (unpressed new')
unpressed_alike e new f new' h =
    idle_on e new (unpressed new) f new' (unpressed new') (λ (l : Lasting). record l { clicks = None; pressed = None }) refl refl refl refl h

begun_alike : (e f : Editor) (prompt : Prompt) (search_state : SearchState) (pasted : Option (List ℕ))
    → Alike e (paste_begun prompt search_state pasted e) (having (lasting e) f) (paste_begun prompt search_state pasted (having (lasting e) f))
begun_alike e f prompts.Off Off None = record { lasts = refl; deeds = []; first = refl; other = refl }
begun_alike e f prompts.Off Off (Some list) = record { lasts = refl; deeds = []; first = refl; other = refl }
begun_alike e f prompts.Off Begun pasted = record { lasts = refl; deeds = []; first = refl; other = refl }
begun_alike e f prompts.Off Typed pasted = record { lasts = refl; deeds = []; first = refl; other = refl }
begun_alike e f prompts.Off WithBegun pasted = record { lasts = refl; deeds = []; first = refl; other = refl }
begun_alike e f prompts.Off WithTyped pasted = record { lasts = refl; deeds = []; first = refl; other = refl }
begun_alike e f prompts.Off Replacing pasted = record { lasts = refl; deeds = []; first = refl; other = refl }
begun_alike e f prompts.Line search_state pasted = record { lasts = refl; deeds = []; first = refl; other = refl }
begun_alike e f prompts.Name search_state pasted = record { lasts = refl; deeds = []; first = refl; other = refl }
begun_alike e f prompts.Code search_state pasted = record { lasts = refl; deeds = []; first = refl; other = refl }
begun_alike e f prompts.File search_state pasted = record { lasts = refl; deeds = []; first = refl; other = refl }
begun_alike e f prompts.Overwrite search_state pasted = record { lasts = refl; deeds = []; first = refl; other = refl }

start_alike : (e f : Editor) → Alike e (after_paste_start e) (having (lasting e) f) (after_paste_start (having (lasting e) f))
start_alike e f =
    let g = having (lasting e) f in
    let refused : Editor → Editor = λ x. unpressed (record x { message = Some ViewOnly }) in
    let begun : Editor → Editor = λ x. paste_begun e.prompt e.search_state e.pasted x in
    let typed : Editor → Editor = λ x. with_typing (begun x) typings.Paste in
    either_alike (refuses_paste e) e (refused e) (unpressed (typed e)) g (refused g) (unpressed (typed g)) (idle e (refused e) g (refused g) refl refl refl)
    (unpressed_alike e (typed e) g (typed g) (going_on typings.Paste e (begun e) g (begun g) (begun_alike e f e.prompt e.search_state e.pasted)))

-- where no paste is under way
stores_at : (pasted : Option (List ℕ)) (save : Bool) (saving : Option Saving) → pasted ≡ None → is_some (if is_some pasted && not save then None else saving) ≡ false
    → is_some saving ≡ false
stores_at None save saving none h = h
stores_at (Some list) save saving none h = absurd (cc none)

unpasted : (e : Editor) (key : Key) → e.pasted ≡ None → stores e key ≡ false → StoresNothing e e.prompt key
unpasted e key none h = stores_at e.pasted (is_save key) (saving_by e e.prompt key (answer_of key)) none h

-- where one is, nothing is asked
none_if : (b can : Bool) (saving : Saving) → b ≡ false → is_some (if b && can then Some saving else None) ≡ false
none_if true can saving h = absurd (cc h)
none_if false can saving h = refl

unasked : (e : Editor) (key : Key) → e.prompt ≡ prompts.Off → is_save key ≡ false → StoresNothing e e.prompt key
unasked e key off other =
    subst (λ prompt. StoresNothing e prompt key) (sym off) (none_if (is_save key) (can_save e) (own_saving e e.name) other)

-- once the paste has ended
ended_stores : (d : Data) (e : Editor) (key : Key) → e.prompt ≡ prompts.Off → stores e key ≡ false
    → let x : Editor = paste_ended d e in StoresNothing x x.prompt key
ended_stores d e Save off h = let x : Editor = paste_ended d e in unpasted x Save (over d e) (ready_stores d e Save ∙ h)
ended_stores d e key off h = let x : Editor = paste_ended d e in unasked x key (ap (λ (at : Place). at.prompt) (same_place d e) ∙ off) refl

rests_ended : (d : Data) (e f : Editor) (key : Key) → RestsAlike e f key → RestsAlike (paste_ended d e) (paste_ended d (having (lasting e) f)) key
rests_ended d e f key (inl none) = inl none
rests_ended d e f key (inr same) = inr (ended_top d (having (lasting e) f) ∙ same ∙ sym (ended_top d e))

names_ended : (d : Data) (e : Editor) → is_nameless (paste_ended d e) ≡ is_nameless e
names_ended d e = ap (λ (at : Place). is_empty_name at.name) (same_place d e)

-- a key that ends a paste
ends_alike : (d : Data) (fault : Option StoreFault) (e f : Editor) (key : Key) → e.prompt ≡ prompts.Off → Serves e f key → let g = having (lasting e) f in
    Alike e (after_user d fault (paste_ended d e) key) g (after_user d None (paste_ended d g) key)
ends_alike d fault e f key off h =
    let g = having (lasting e) f in
    let x : Editor = paste_ended d e in
    let y : Editor = paste_ended d g in
    let one = ended_alike d e f in
    let names : is_nameless y ≡ is_nameless x = names_ended d g ∙ h.names ∙ sym (names_ended d e) in
    let pressed = user_alike d fault x y key h.goes_on (ended_stores d e key off h.stores_nothing) (rests_ended d e f key h.rests) names in
    let more = subst (λ (z : Editor). Alike x (after_user d fault x key) z (after_user d None z key)) (own x y one.lasts) pressed in
    then_alike e x (after_user d fault x key) g y (after_user d None y key) one more

in_paste_alike : (d : Data) (fault : Option StoreFault) (e f : Editor) (key : Key) → e.prompt ≡ prompts.Off → Serves e f key
    → Alike e (after_in_paste d fault e key) (having (lasting e) f) (after_in_paste d None (having (lasting e) f) key)
in_paste_alike d fault e f (Insert c) off h = record { lasts = refl; deeds = []; first = refl; other = refl }
in_paste_alike d fault e f Repaint off h = user_alike d fault e f Repaint refl (unasked e Repaint off refl) h.rests h.names
in_paste_alike d fault e f key off h = ends_alike d fault e f key off h

press_alike : (d : Data) (fault : Option StoreFault) (e f : Editor) (key : Key) (pasted : Option (List ℕ)) → e.pasted ≡ pasted → PastesAlone e → Serves e f key
    → Alike e (after_press d fault pasted e key) (having (lasting e) f) (after_press d None pasted (having (lasting e) f) key)
press_alike d fault e f key None is alone h = user_alike d fault e f key h.goes_on (unpasted e key is h.stores_nothing) h.rests h.names
press_alike d fault e f key (Some list) is alone h =
    in_paste_alike d fault e f key (alone (λ none. let both : Some list ≡ None = sym is ∙ none in cc both)).0 h

-- ---- any key

pub key_alike : (d : Data) (fault : Option StoreFault) (e f : Editor) (key : Key) → PastesAlone e → Serves e f key
    → Alike e (after_key d fault e key) (having (lasting e) f) (after_key d None (having (lasting e) f) key)
key_alike d fault e f key alone =
    let g = having (lasting e) f in
    each-key d fault e (λ key new. Serves e f key → Alike e new g (after_key d None g key))
    (λ height width h. record { lasts = refl; deeds = []; first = refl; other = refl })
    (λ notice h. record { lasts = refl; deeds = []; first = refl; other = refl })
    (λ h. record { lasts = refl; deeds = []; first = refl; other = refl }) (
      λ h. start_alike e f,
      λ h. unpressed_alike e (with_typing (paste_ended d e) typings.Off) g (with_typing (paste_ended d g) typings.Off)
          (going_on typings.Off e (paste_ended d e) g (paste_ended d g) (ended_alike d e f)),
    )
    (λ k small h. subst (Alike e (after_press d fault e.pasted e k) g) (sym (pressed-key d None g k small))
    (press_alike d fault e f k e.pasted refl alone h)) key
