-- A key that ends a paste: the same key after the end of the paste; and the keys that a replay passes over.
use Rattle.std.proofs.Common.{◌≡◌, ℕ, Bool, true, false, not, ◌&&◌, ◌||◌, List, Option, Some, None, refl, sym, ap, subst, ◌∙◌, if◌then◌else◌}
use Rattle.std.specs.Prelude.{◌≢◌, is_some, option_map, Result, Ok, Err, OnErr}
use Rattle.bx_keys.specs.declared.key.Key.{Key}
use Rattle.bx_keys.specs.declared.key.Key.TheVariants.{Save, Quit}
use Rattle.bx_store.specs.declared.store.StoreFault.{StoreFault}
use Rattle.bx_ucd.specs.Data.{Data}
use Rattle.bx_editor.specs.declared.questions.answers.Prompt.{Prompt}
use Rattle.bx_editor.specs.declared.questions.answers.Prompt.TheVariants as prompts
use Rattle.bx_editor.specs.declared.search_state.SearchState.{SearchState}
use Rattle.bx_editor.specs.declared.search_state.SearchState.TheVariants.{Off}
use Rattle.bx_editor.specs.declared.scrolling.Scroll.{Scroll}
use Rattle.bx_editor.specs.Editor.{Editor}
use Rattle.bx_editor.specs.declared.answer.Answer.TheVariants as answers
use Rattle.bx_editor.specs.Answering.{answer_of}
use Rattle.bx_editor.specs.Keys.{after_key, after_press, after_user, is_save, may_refuse, saving_by}
use Rattle.bx_editor.specs.Putting.{ended_with, paste_ended}
use Rattle.bx_editor.specs.Replay.{after_passed_quit}
use Rattle.bx_editor.specs.Saving.{Saving, can_save, is_empty_name, own_saving}
use Rattle.bx_editor.specs.Scrolling.{scroll_of}
use Rattle.bx_editor.proofs.EffectsKept as kept
use Rattle.bx_editor.proofs.Pasted.{ended-none}
use Rattle.bx_session.specs.Session.{Session, counted_key, known_after, ready_to_store, session_after_key, text_to_save, with_painting_owed}
use Rattle.bx_session.specs.Parts.{is_quit}
use Rattle.bx_session.specs.Feeding.{SessionState}
use Rattle.bx_session.specs.Replaying.{after_passed, after_replayed_key, after_replayed_press, session_after_replayed, session_moved_by}
use Rattle.bx_session.specs.Replaying.{session_replayed_on, session_scrolled, unmoved_after_key, unmoved_after_press}
use Rattle.bx_session.proofs.KeyKinds.{quit_stores_nothing, stores}

-- no paste is under way any more
pub over : (d : Data) (e : Editor) → (paste_ended d e).pasted ≡ None
over d e = ended-none d e e.pasted refl

pub not_pasting : (d : Data) (e : Editor) → e.pasted ≡ None → paste_ended d e ≡ e
not_pasting d e none = ap (ended_with d e) none

-- a key that the user presses, and that ends a paste
abbrev pub Ends : Data → Option StoreFault → Editor → Key → Type 0
Ends d fault e key =
    ((x : Editor) → after_key d fault x key ≡ after_press d fault x.pasted x key)
    × ((list : List ℕ) → after_press d fault (Some list) e key ≡ after_user d fault (paste_ended d e) key)

by_paste : (d : Data) (fault : Option StoreFault) (e : Editor) (pasted : Option (List ℕ)) (key : Key) → e.pasted ≡ pasted → Ends d fault e key
    → after_user d fault (paste_ended d e) key ≡ after_press d fault pasted e key
by_paste d fault e None key none ends = ap (λ pasted. after_user d fault (ended_with d e pasted) key) none
by_paste d fault e (Some list) key is ends = sym (ends.1 list)

ahead : (d : Data) (fault : Option StoreFault) (e : Editor) (key : Key) → Ends d fault e key
    → after_key d fault (paste_ended d e) key ≡ after_key d fault e key
ahead d fault e key ends =
    let x : Editor = paste_ended d e in
    ends.0 x
    ∙ ap (λ pasted. after_press d fault pasted x key) (over d e)
    ∙ by_paste d fault e e.pasted key refl ends
    ∙ sym (ends.0 e)

pub save_ahead : (d : Data) (fault : Option StoreFault) (e : Editor) → after_key d fault (paste_ended d e) Save ≡ after_key d fault e Save
save_ahead d fault e = ahead d fault e Save (λ x. refl, λ list. refl)

pub quit_ahead : (d : Data) (fault : Option StoreFault) (e : Editor) → after_key d fault (paste_ended d e) Quit ≡ after_key d fault e Quit
quit_ahead d fault e = ahead d fault e Quit (λ x. refl, λ list. refl)

-- and what a Quit makes of the editor once the paste has ended
pub quit_user : (d : Data) (fault : Option StoreFault) (e : Editor) → after_key d fault e Quit ≡ after_user d fault (paste_ended d e) Quit
quit_user d fault e = sym (by_paste d fault e e.pasted Quit refl (λ x. refl, λ list. refl))

-- only a paste is refused at its end
pub refused_paste : (e : Editor) → e.pasted ≢ None → is_some e.pasted ≡ true
refused_paste e some = by e.pasted some where
  by : (pasted : Option (List ℕ)) → pasted ≢ None → is_some pasted ≡ true
  by None none = absurd (none refl)
  by (Some list) none = refl

-- ---- the end of a paste leaves what is asked, and where saves go

pub record Place : Type 0 where
  pub prompt : Prompt
  pub read_only : Bool
  pub name : Option (List ℕ)
  pub home : Bool

abbrev pub place_of : Editor → Place
place_of e = record { prompt = e.prompt; read_only = e.read_only; name = e.name; home = e.home }

module _ (d : Data) (at : Place) where
  abbrev IsAt : Editor → Type 0
  IsAt e = place_of e ≡ at

  pressing : kept.IsKeptPressing d IsAt
  pressing = record {
    inserted = λ e new on h. h;
    lined = λ e new h. h;
    removed = λ e start stop on h. h;
    stepped = kept.step-keeps IsAt (λ e content place changed h. h) (λ e message h. h);
    run = kept.run-keeps IsAt (λ e content place changed h. h) (λ e message h. h);
    quit = λ e ended message h. h;
    based = λ e base h. h;
    gone = λ e place goal h. h;
    pointed = λ e clicks pressed h. h;
    marked = λ e mark soft held whole_line h. h;
    told = λ e message typing h. h;
  }

  pasting : kept.IsKeptPasting IsAt
  pasting = record { pasted = λ e pasted message typing h. h; lengthened = λ e pasted soft h. h; unpressed = λ e h. h }

  stays_at : (e : Editor) → IsAt e → IsAt (paste_ended d e)
  stays_at e h = kept.ended-keeps d IsAt pressing pasting e h

pub same_place : (d : Data) (e : Editor) → place_of (paste_ended d e) ≡ place_of e
same_place d e = stays_at d (place_of e) e refl

-- so a Save stores the text where it did
abbrev pub saves_at : Place → Prompt → Bool
saves_at at prompts.Overwrite = false
saves_at at prompt = not (at.read_only || is_empty_name at.name)

has_some : (b : Bool) (saving : Saving) → is_some (if b then Some saving else None) ≡ b
has_some true saving = refl
has_some false saving = refl

save_at : (e : Editor) (prompt : Prompt) → is_some (saving_by e prompt Save answers.Ends) ≡ saves_at (place_of e) prompt
save_at e prompts.Off = has_some (can_save e) (own_saving e e.name)
save_at e prompts.Line = has_some (can_save e) (own_saving e e.name)
save_at e prompts.Name = has_some (can_save e) (own_saving e e.name)
save_at e prompts.Code = has_some (can_save e) (own_saving e e.name)
save_at e prompts.File = has_some (can_save e) (own_saving e e.name)
save_at e prompts.Overwrite = refl

unpasted : (pasted : Bool) (saving : Option Saving) → is_some (if pasted && false then None else saving) ≡ is_some saving
unpasted true saving = refl
unpasted false saving = refl

pub save_stores : (e : Editor) → stores e Save ≡ saves_at (place_of e) e.prompt
save_stores e = unpasted (is_some e.pasted) (saving_by e e.prompt Save answers.Ends) ∙ save_at e e.prompt

save_stores_ahead : (d : Data) (e : Editor) → stores (paste_ended d e) Save ≡ stores e Save
save_stores_ahead d e =
    save_stores (paste_ended d e) ∙ ap (λ (at : Place). saves_at at at.prompt) (same_place d e) ∙ sym (save_stores e)

pub ready_stores : (d : Data) (e : Editor) (key : Key) → stores (ready_to_store d e key) key ≡ stores e key
ready_stores d e Save = save_stores_ahead d e
ready_stores d e key = refl

-- no other key stores the text while a paste is under way
none_pasted : (pasted : Option (List ℕ)) (saving : Option Saving) → is_some (if is_some pasted && true then None else saving) ≡ true → pasted ≡ None
none_pasted None saving h = refl
none_pasted (Some list) saving h = absurd (cc h)

pub stores_alone : (e : Editor) (key : Key) → is_save key ≡ false → stores e key ≡ true → e.pasted ≡ None
stores_alone e Save other h = absurd (cc other)
stores_alone e key other h = none_pasted e.pasted (saving_by e e.prompt key (answer_of key)) h

pub ready_text : (d : Data) (e : Editor) (key : Key) → stores e key ≡ true → (ready_to_store d e key).content.text ≡ (paste_ended d e).content.text
ready_text d e Save h = refl
ready_text d e key h = ap (λ (x : Editor). x.content.text) (sym (not_pasting d e (stores_alone e key refl h)))

-- ---- a key that may store the text, once it is ready

ready_is : (d : Data) (fault : Option StoreFault) (s : Session) (key : Key)
    → session_after_key d fault (record s { editor = ready_to_store d s.editor key }) key ≡ session_after_key d fault s key
ready_is d fault s Save = ap (λ (e : Editor). record s { editor = e; known = known_after s.known Save e }) (save_ahead d fault s.editor)
ready_is d fault s key = refl

abbrev pub IsReady : {D : Type 0} → (D → Data) → SessionState D → SessionState D → Key → Type 0
IsReady ucd old mid key = mid ≡ record old { session = record old.session { editor = ready_to_store (ucd old.tables) old.session.editor key } }

pub pressed_is : {D : Type 0} (ucd : D → Data) (fault : Option StoreFault) (old mid new : SessionState D) (key : Key) → IsReady ucd old mid key
    → new ≡ record mid { session = session_after_key (ucd mid.tables) fault mid.session key }
    → new ≡ record old { session = session_after_key (ucd old.tables) fault old.session key }
pressed_is {D} ucd fault old mid new key is pressed =
    pressed
    ∙ ap (λ (x : SessionState D). record x { session = session_after_key (ucd x.tables) fault x.session key }) is
    ∙ ap (λ (s : Session). record old { session = s }) (ready_is (ucd old.tables) fault old.session key)

-- a Save that is ready is not refused, and any other key was ready
refused_at : (pasted : Option (List ℕ)) → pasted ≡ None → (is_some pasted && true) ≡ true → ⊥
refused_at None none h = cc h
refused_at (Some list) none h = cc none

pub refused_is : {D : Type 0} (ucd : D → Data) (old mid new : SessionState D) (key : Key) → IsReady ucd old mid key
    → (is_save key ≡ true → mid.session.editor.pasted ≡ None) → may_refuse mid.session.editor key ≡ true → new ≡ mid
    → (new ≡ old) × (may_refuse old.session.editor key ≡ true)
refused_is {D} ucd old mid new Save is alone may same = absurd (refused_at mid.session.editor.pasted (alone refl) may)
refused_is {D} ucd old mid new key is alone may same = (same ∙ is, subst (λ (x : SessionState D). may_refuse x.session.editor key ≡ true) is may)

-- a key that stores the text finds no paste under way, once it is ready
save_or : (e : Editor) (key : Key) (save : Bool) → is_save key ≡ save → (is_save key ≡ true → e.pasted ≡ None) → stores e key ≡ true → e.pasted ≡ None
save_or e key true is ready h = ready is
save_or e key false is ready h = stores_alone e key is h

pub stores_ready : (e : Editor) (key : Key) → (is_save key ≡ true → e.pasted ≡ None) → stores e key ≡ true → e.pasted ≡ None
stores_ready e key ready h = save_or e key (is_save key) refl ready h

pub same_stores : {D : Type 0} (ucd : D → Data) (old mid : SessionState D) (key : Key) → IsReady ucd old mid key
    → stores mid.session.editor key ≡ stores old.session.editor key
same_stores {D} ucd old mid key is =
    ap (λ (x : SessionState D). stores x.session.editor key) is ∙ ready_stores (ucd old.tables) old.session.editor key

pub same_text : {D : Type 0} (ucd : D → Data) (old mid : SessionState D) (key : Key) → IsReady ucd old mid key → stores old.session.editor key ≡ true
    → mid.session.editor.content.text ≡ text_to_save (ucd old.tables) old.session.editor
same_text {D} ucd old mid key is h =
    ap (λ (x : SessionState D). x.session.editor.content.text) is ∙ ready_text (ucd old.tables) old.session.editor key h

-- what an error tells, together with another fact of it
pub both_refused : {A E P Q R : Type 0} (result : Result A E) → (P → Q → R) → OnErr result P → OnErr result Q → OnErr result R
both_refused (Ok value) f p q = tt
both_refused (Err e) f p q = f p q

-- ---- what a replay passes over

-- by whether a key stores the text
pub unless_stored : {X : Type 0} (b : Bool) (x y : X) → b ≡ false → (if b then x else y) ≡ y
unless_stored true x y h = absurd (cc h)
unless_stored false x y h = refl

pub where_stored : {X : Type 0} (b : Bool) (x y : X) → b ≡ true → (if b then x else y) ≡ x
where_stored true x y h = refl
where_stored false x y h = absurd (cc h)

-- the session that each key leaves
pub each-session : (d : Data) (prompt : Prompt) (search_state : SearchState) (s : Session) (P : Key → Session → Type 0)
    → P Quit (session_after_replayed d prompt search_state s Quit)
    → ((key : Key) → is_quit (Some key) ≡ false → P key (if stores s.editor key
    then record s { editor = after_passed prompt key (paste_ended d s.editor) }
    else session_after_key d None s key)) → (key : Key) → P key (session_after_replayed d prompt search_state s key)
each-session d prompt search_state s P quit other Quit = quit
each-session d prompt search_state s P quit other key = other key refl

-- a Quit that gives up a search or a question
pub quits_with : (d : Data) (prompt : Prompt) (search_state : SearchState) (s : Session)
    → ((prompt ≡ prompts.Off) × (search_state ≡ Off) → ⊥) → session_after_replayed d prompt search_state s Quit ≡ session_after_key d None s Quit
quits_with d prompts.Off Off s other = absurd (other (refl, refl))
quits_with d prompts.Off search_state s other = refl
quits_with d prompt search_state s other = refl

-- what is there, in another form
pub some_of : {A B : Type 0} (f : A → B) (o : Option A) → is_some o ≡ is_some (option_map f o)
some_of f None = refl
some_of f (Some x) = refl

-- a key that is not Quit
pub not_quit : (key : Key) → (key ≡ Quit → ⊥) → is_quit (Some key) ≡ false
not_quit Quit other = absurd (other refl)
not_quit key other = refl

quit_first : (d : Data) (s : Session)
    → session_after_key d None (record s { editor = paste_ended d s.editor }) Quit ≡ session_after_key d None s Quit
quit_first d s = ap (λ (x : Editor). record s { editor = x; known = known_after s.known Quit x }) (quit_ahead d None s.editor)

quit_session : (d : Data) (prompt : Prompt) (search_state : SearchState) (s : Session)
    → session_after_replayed d prompt search_state (record s { editor = paste_ended d s.editor }) Quit ≡ session_after_replayed d prompt search_state s Quit
quit_session d prompts.Off Off s =
    let e : Editor = paste_ended d s.editor in
    ap (λ (x : Editor). record s { editor = after_passed_quit x }) (not_pasting d e (over d s.editor))
quit_session d prompts.Off search_state s = quit_first d s
quit_session d prompt search_state s = quit_first d s

-- a Quit, once the paste has ended
pub quit_passed : {D : Type 0} (ucd : D → Data) (old mid new : SessionState D)
    → mid ≡ record old { session = record old.session { editor = paste_ended (ucd old.tables) old.session.editor } }
    → new ≡ record mid { session = session_after_replayed (ucd mid.tables) mid.session.editor.prompt mid.session.editor.search_state mid.session Quit }
    → new ≡ record old { session = session_replayed_on (ucd old.tables) old.session Quit }
quit_passed {D} ucd old mid new is passed =
    let d = ucd old.tables in
    let e : Editor = paste_ended d old.session.editor in
    passed
    ∙ ap (λ (x : SessionState D). record x { session = session_after_replayed (ucd x.tables) x.session.editor.prompt x.session.editor.search_state x.session Quit }) is
    ∙ ap (λ (s : Session). record old { session = s }) (quit_session d e.prompt e.search_state old.session)

-- a key that stored the text, and any other
pub stored_session : (d : Data) (prompt : Prompt) (search_state : SearchState) (s : Session) (key : Key) → stores s.editor key ≡ true
    → session_after_replayed d prompt search_state s key ≡ record s { editor = after_passed prompt key (paste_ended d s.editor) }
stored_session d prompt search_state s Quit h = let none : false ≡ true = sym (quit_stores_nothing s.editor) ∙ h in absurd (cc none)
stored_session d prompt search_state s key h =
    where_stored (stores s.editor key) (record s { editor = after_passed prompt key (paste_ended d s.editor) }) (session_after_key d None s key) h

other_session : (d : Data) (prompt : Prompt) (search_state : SearchState) (s : Session) (key : Key) → is_quit (Some key) ≡ false
    → stores s.editor key ≡ false → session_after_replayed d prompt search_state s key ≡ session_after_key d None s key
other_session d prompt search_state s Quit other h = absurd (cc other)
other_session d prompt search_state s key other h =
    unless_stored (stores s.editor key) (record s { editor = after_passed prompt key (paste_ended d s.editor) }) (session_after_key d None s key) h

pub passed_is : {D : Type 0} (ucd : D → Data) (old new : SessionState D) (key : Key) → stores old.session.editor key ≡ true
    → new ≡ record old {
      session = record old.session {
        editor = after_passed (paste_ended (ucd old.tables) old.session.editor).prompt key (paste_ended (ucd old.tables) old.session.editor);
      };
    } → new ≡ record old { session = session_replayed_on (ucd old.tables) old.session key }
passed_is {D} ucd old new key h is =
    let e : Editor = paste_ended (ucd old.tables) old.session.editor in
    is ∙ ap (λ (s : Session). record old { session = s }) (sym (stored_session (ucd old.tables) e.prompt e.search_state old.session key h))

pub other_is : {D : Type 0} (ucd : D → Data) (old new : SessionState D) (key : Key) → is_quit (Some key) ≡ false → stores old.session.editor key ≡ false
    → new ≡ record old { session = session_after_key (ucd old.tables) None old.session key }
    → new ≡ record old { session = session_replayed_on (ucd old.tables) old.session key }
other_is {D} ucd old new key other h is =
    let e : Editor = paste_ended (ucd old.tables) old.session.editor in
    is ∙ ap (λ (s : Session). record old { session = s }) (sym (other_session (ucd old.tables) e.prompt e.search_state old.session key other h))

-- ---- a key of a journal, and its byte

-- once the session is scrolled
pub scrolled_first : {D : Type 0} (ucd : D → Data) (old mid new : SessionState D) (key : Key)
    → mid ≡ record old { session = session_scrolled (ucd old.tables) old.session }
    → new ≡ record mid { session = session_replayed_on (ucd mid.tables) mid.session key }
    → new ≡ record old { session = unmoved_after_key (ucd old.tables) old.session (Some key) }
scrolled_first {D} ucd old mid new key is pressed =
    pressed ∙ ap (λ (x : SessionState D). record x { session = session_replayed_on (ucd x.tables) x.session key }) is

-- and the top moved
pub moved_is : {D : Type 0} (ucd : D → Data) (old mid new : SessionState D) (key : Key) (scroll : Scroll) → scroll ≡ scroll_of old.session.editor key
    → mid ≡ record old { session = unmoved_after_key (ucd old.tables) old.session (Some key) }
    → new ≡ record mid { session = session_moved_by (ucd mid.tables) scroll mid.session }
    → new ≡ record old { session = after_replayed_key (ucd old.tables) old.session (Some key) }
moved_is {D} ucd old mid new key scroll asks is moved =
    moved
    ∙ ap (λ (x : SessionState D). record x { session = session_moved_by (ucd x.tables) scroll x.session }) is
    ∙ ap (λ (way : Scroll). record old { session = session_moved_by (ucd old.tables) way (unmoved_after_key (ucd old.tables) old.session (Some key)) }) asks

-- a press, by the key that counts
pub again_is : {D : Type 0} (ucd : D → Data) (old new : SessionState D) (key counts : Option Key) → counts ≡ counted_key old.session key
    → new ≡ record old { session = after_replayed_key (ucd old.tables) old.session counts }
    → record new { session = with_painting_owed new.session } ≡ record old { session = after_replayed_press (ucd old.tables) old.session key }
again_is {D} ucd old new key counts is pressed =
    ap (λ (x : SessionState D). record x { session = with_painting_owed x.session })
    (pressed ∙ ap (λ (k : Option Key). record old { session = after_replayed_key (ucd old.tables) old.session k }) is)

pub unmoved_is : {D : Type 0} (ucd : D → Data) (old new : SessionState D) (key counts : Option Key) → counts ≡ counted_key old.session key
    → new ≡ record old { session = unmoved_after_key (ucd old.tables) old.session counts }
    → record new { session = with_painting_owed new.session } ≡ record old { session = unmoved_after_press (ucd old.tables) old.session key }
unmoved_is {D} ucd old new key counts is pressed =
    ap (λ (x : SessionState D). record x { session = with_painting_owed x.session })
    (pressed ∙ ap (λ (k : Option Key). record old { session = unmoved_after_key (ucd old.tables) old.session k }) is)
