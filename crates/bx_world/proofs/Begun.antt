-- A session that begins a run is in step with its terminal: the painting that it owed made it so.
use Rattle.std.proofs.Common.{◌≡◌, ℕ, Bool, true, false, List, [], ◌∷◌, Option, Some, None}
use Rattle.std.proofs.Common.{refl, sym, ap, subst, ◌∙◌, if◌then◌else◌}
use Rattle.std.specs.Prelude.{IfSome, ◌==◌, ◌&&◌, is_some, not}
use Rattle.bx_keys.specs.declared.key.Key.{Key}
use Rattle.bx_keys.specs.declared.key.Key.TheVariants.{Quit, Save}
use Rattle.bx_grid.specs.Picture.{PictureState, IsIdle, Shows}
use Rattle.bx_grid.specs.Terminal.{Terminal, reads}
use Rattle.bx_ucd.specs.Data.{Data}
use Rattle.bx_editor.specs.Editor.{Editor, rows, text_height, with_top}
use Rattle.bx_editor.specs.declared.questions.answers.Prompt.{Prompt}
use Rattle.bx_editor.specs.declared.questions.answers.Prompt.TheVariants as prompts
use Rattle.bx_editor.specs.declared.search_state.SearchState.{SearchState}
use Rattle.bx_editor.specs.declared.search_state.SearchState.TheVariants.{Off}
use Rattle.bx_editor.specs.declared.scrolling.Scroll.TheVariants.{Least}
use Rattle.bx_editor.specs.Keys.{saving_of}
use Rattle.bx_editor.specs.Putting.{paste_ended}
use Rattle.bx_editor.specs.Replay.{after_passed_quit, after_passed_save}
use Rattle.bx_editor.specs.Saving.{with_answered_name, without_answer}
use Rattle.bx_editor.specs.Replay as replay
use Rattle.bx_editor.specs.Picture.{scrolled, scrolled_by}
use Rattle.bx_editor.specs.Scrolling.{scroll_of}
use Rattle.bx_view.specs.Top.{follow}
use Rattle.bx_session.specs.Inputs.{presses_from}
use Rattle.bx_session.specs.Session.{Session, counted_key, session_after_key, clipboard_if}
use Rattle.bx_session.specs.Replaying.{after_all_replayed, after_passed, at_replay_end, after_replayed_key, after_replayed_press, session_after_replayed}
use Rattle.bx_session.specs.Replaying.{moved_by, session_after_replayed_quit, session_replayed_on, session_scrolled}
use Rattle.bx_session.specs.Painting.{QueuesPicture}
use Rattle.bx_session.specs.Laws.{after_journal, after_replaying}
use Rattle.bx_session.specs.Beginning.{Beginning, IsBegun, after_going_to, changed_if, at_offset, opened, unpainted_at, begun}
use Rattle.bx_session.proofs.Input.{keys_of_input}
use Rattle.bx_session.proofs.KeySizes.{SameSize, ended_goes_on}
use Rattle.bx_session.proofs.Pictures.{picture_height, picture_width}
use Rattle.bx_session.proofs.Replayed.{replays_keys}
use Rattle.bx_world.specs.Showing.{FitsWindow, IsInStep, picture_of}
use Rattle.bx_world.specs.Runs.{begins_at}
use Rattle.bx_world.specs.Laws.{BeginsWithKeys}
use Rattle.bx_world.proofs.Fits.{fits, key_fits}
use Rattle.bx_world.proofs.Keys.{both, same_number, key_keeps}
use Rattle.bx_world.proofs.Steps.{painted}

-- ---- a session that was opened

window_is : (height width : ℕ) (e : Editor) → fits height width e ≡ true → FitsWindow height width e
window_is height width e on =
    let each = both (height == e.height) (width == e.width) on in
    (sym (same_number height e.height each.0), sym (same_number width e.width each.1))

opened_at : (d : Data) (rest : List ℕ) (s : Session) (t : Terminal) → IsIdle t → QueuesPicture d [] None s → IsInStep d (begins_at rest s t)
opened_at d rest s t idle queued =
    let paints = queued.1 in
    let p = picture_of d s in record {
      state = λ owed. (paints.painted, paints.known);
      cursor = λ owed. paints.cursor;
      follows = λ on. (let window = window_is t.height t.width s.editor on in
          subst (λ painted. IfSome painted (λ q. Shows (reads t s.pending) q)) (sym paints.known)
          (subst (λ bytes. Shows (reads t bytes) p) (sym paints.appends)
          (paints.updates t idle (sym window.0 ∙ sym (picture_height d s.editor s.editor.top)) (sym window.1 ∙ sym (picture_width d s.editor s.editor.top)))));
      whole = subst (λ bytes. IsIdle (reads t bytes)) (sym paints.appends) (paints.tokens t idle);
      screen = ((refl, refl), λ on. idle.no_run);
      size = λ on. window_is t.height t.width s.editor on;
    }

-- ---- what a journal leaves of the queue and of what is known of the screen

-- Nothing was queued. What is known, where the window still has the session's size, was known before, and the window had it then.
record StaysKnown (t : Terminal) (old new : Session) : Type 0 where
  pub pending : new.pending ≡ old.pending
  pub known : fits t.height t.width new.editor ≡ true
      → IfSome new.known (λ p. (fits t.height t.width old.editor ≡ true) × (old.known ≡ Some p))

known_at : (told : Bool) (known : Option PictureState) → told ≡ true → IfSome known (λ p. (told ≡ true) × (known ≡ Some p))
known_at told None on = tt
known_at told (Some p) on = (on, refl)

stays_at : (t : Terminal) (s : Session) → StaysKnown t s s
stays_at t s = record { pending = refl; known = known_at (fits t.height t.width s.editor) s.known }

known_on : (now mid : Option PictureState) (a b : Bool) (old : Option PictureState)
    → IfSome now (λ p. (a ≡ true) × (mid ≡ Some p)) → (a ≡ true → IfSome mid (λ p. (b ≡ true) × (old ≡ Some p)))
    → IfSome now (λ p. (b ≡ true) × (old ≡ Some p))
known_on None mid a b old last first = tt
known_on (Some p) mid a b old last first = subst (λ x. IfSome x (λ q. (b ≡ true) × (old ≡ Some q))) last.1 (first last.0)

stays_on : (t : Terminal) (old mid new : Session) → StaysKnown t old mid → StaysKnown t mid new → StaysKnown t old new
stays_on t old mid new first last = record {
  pending = last.pending ∙ first.pending;
  known = λ on. known_on new.known mid.known (fits t.height t.width mid.editor) (fits t.height t.width old.editor) old.known (last.known on) first.known;
}

key_stays : (d : Data) (t : Terminal) (s : Session) (key : Key) → StaysKnown t s (session_after_key d None s key)
key_stays d t s key = record {
  pending = refl;
  known = λ on. (key_keeps d None (begins_at [] s t) s key).known
      (key_fits d None t.height t.width (fits t.height t.width s.editor) s.editor key refl ∙ on);
}

-- a key that is passed over
passed_stays : (t : Terminal) (s : Session) (e : Editor) → e.height ≡ s.editor.height → e.width ≡ s.editor.width → StaysKnown t s (record s { editor = e })
passed_stays t s e height width = record {
  pending = refl;
  known = λ on. known_at (fits t.height t.width s.editor) s.known
      (ap (λ h. (t.height == h) && (t.width == s.editor.width)) (sym height) ∙ ap (λ w. (t.height == e.height) && (t.width == w)) (sym width) ∙ on);
}

-- keeps the window's size
answer_size : (named : Bool) (e : Editor) → SameSize e (after_passed_save (if named then with_answered_name e else without_answer e))
answer_size true e = (refl, refl)
answer_size false e = (refl, refl)

passed_size : (prompt : Prompt) (key : Key) (e : Editor) → SameSize e (after_passed prompt key e)
passed_size prompts.File Save e = (refl, refl)
passed_size prompts.File key e = answer_size (is_some e.name && not e.home) e
passed_size prompt key e = (refl, refl)

other_stays : (d : Data) (t : Terminal) (prompt : Prompt) (s : Session) (key : Key) (saves : Bool)
    → StaysKnown t s (if saves then record s { editor = after_passed prompt key (paste_ended d s.editor) } else session_after_key d None s key)
other_stays d t prompt s key true =
    let first = (ended_goes_on d s.editor).1 in
    let last = passed_size prompt key (paste_ended d s.editor) in
    passed_stays t s (after_passed prompt key (paste_ended d s.editor)) (last.0 ∙ first.0) (last.1 ∙ first.1)
other_stays d t prompt s key false = key_stays d t s key

quit_stays : (d : Data) (t : Terminal) (prompt : Prompt) (search_state : SearchState) (s : Session)
    → StaysKnown t s (session_after_replayed_quit d prompt search_state s)
quit_stays d t prompts.Off Off s =
    let size = (ended_goes_on d s.editor).1 in passed_stays t s (after_passed_quit (paste_ended d s.editor)) size.0 size.1
quit_stays d t prompt search_state s = key_stays d t s Quit

replayed_stays : (d : Data) (t : Terminal) (prompt : Prompt) (search_state : SearchState) (s : Session) (key : Key)
    → StaysKnown t s (session_after_replayed d prompt search_state s key)
replayed_stays d t prompt search_state s Quit = quit_stays d t prompt search_state s
replayed_stays d t prompt search_state s key = other_stays d t prompt s key (is_some (saving_of s.editor key))

any_stays : (d : Data) (t : Terminal) (s : Session) (key : Option Key) → StaysKnown t s (after_replayed_key d s key)
any_stays d t s None = stays_at t s
any_stays d t s (Some key) =
    let from : Session = session_scrolled d s in
    let over : Editor = paste_ended d from.editor in
    let new : Session = session_replayed_on d from key in
    stays_on t s new (after_replayed_key d s (Some key))
    (stays_on t s from new (passed_stays t s (scrolled d s.editor) refl refl) (replayed_stays d t over.prompt over.search_state from key))
    (passed_stays t new (moved_by d (scroll_of s.editor key) new.editor) refl refl)

press_stays : (d : Data) (t : Terminal) (s : Session) (key : Option Key) → StaysKnown t s (after_replayed_press d s key)
press_stays d t s key = let all = any_stays d t s (counted_key s key) in record { pending = all.pending; known = all.known }

presses_stay : (d : Data) (t : Terminal) (s : Session) (presses : List (Option Key)) → StaysKnown t s (after_replaying d s presses)
presses_stay d t s [] = stays_at t s
presses_stay d t s (key ∷ more) =
    let next = after_replayed_press d s key in
    stays_on t s next (after_replaying d next more) (press_stays d t s key) (presses_stay d t next more)

end_stays : (d : Data) (t : Terminal) (s : Session) → StaysKnown t s (at_replay_end d s)
end_stays d t s =
    let size = (ended_goes_on d s.editor).1 in
    let passed = passed_stays t s (scrolled d (replay.at_replay_end (paste_ended d s.editor))) size.0 size.1 in
    record { pending = passed.pending; known = passed.known }

journal_stays : (d : Data) (t : Terminal) (s : Session) (presses : List (Option Key)) → StaysKnown t s (after_journal d s presses)
journal_stays d t s presses =
    let left = after_replaying d s presses in
    stays_on t s left (after_journal d s presses) (presses_stay d t s presses) (end_stays d t left)

going_stays : (d : Data) (t : Terminal) (s : Session) (offset : Option ℕ) → StaysKnown t s (after_going_to d s offset)
going_stays d t s None = stays_at t s
going_stays d t s (Some offset) = record { pending = refl; known = known_at (fits t.height t.width s.editor) s.known }

clipboard_stays : (clipboard : Bool) (t : Terminal) (s : Session) → StaysKnown t s (clipboard_if clipboard s)
clipboard_stays false t s = stays_at t s
clipboard_stays true t s = record { pending = refl; known = known_at (fits t.height t.width s.editor) s.known }

changed_stays : (unsaved : Bool) (t : Terminal) (s : Session) → StaysKnown t s (changed_if unsaved s)
changed_stays false t s = stays_at t s
changed_stays true t s = record { pending = refl; known = known_at (fits t.height t.width s.editor) s.known }

offset_stays : (d : Data) (t : Terminal) (b : Beginning) → StaysKnown t (opened d b) (at_offset d b)
offset_stays d t b =
    let s : Session = opened d b in
    let first : Session = clipboard_if b.clipboard s in
    let there : Session = after_going_to d first b.offset in
    stays_on t s first (at_offset d b) (clipboard_stays b.clipboard t s)
    (stays_on t first there (at_offset d b) (going_stays d t first b.offset) (changed_stays b.unsaved t there))

-- ---- a session that begins a run

pub begun_at : (d : Data) (b : Beginning) (rest : List ℕ) (t : Terminal) → IsIdle t → IsBegun d b → IsInStep d (begins_at rest (begun d b) t)
begun_at d b rest t idle begins =
    let s : Session = opened d b in
    let stays : StaysKnown t s (unpainted_at d b) =
    stays_on t s (at_offset d b) (unpainted_at d b) (offset_stays d t b) (journal_stays d t (at_offset d b) (presses_from [] b.journal)) in
    painted d (begins_at rest s t) (begun d b) (fits t.height t.width (begun d b).editor) (unpainted_at d b).known
    (opened_at d rest s t idle begins.opened)
    (subst (λ (q : List ℕ). QueuesPicture d q (unpainted_at d b).known (begun d b)) stays.pending begins.painted)
    stays.known (λ on. window_is t.height t.width (begun d b).editor on)

-- ---- its keys

clipboard_goes_on : (clipboard : Bool) (s : Session) → s.editor.ended ≡ false → (clipboard_if clipboard s).editor.ended ≡ false
clipboard_goes_on true s on = on
clipboard_goes_on false s on = on

going_goes_on : (d : Data) (s : Session) (offset : Option ℕ) → s.editor.ended ≡ false → (after_going_to d s offset).editor.ended ≡ false
going_goes_on d s None on = on
going_goes_on d s (Some offset) on = on

changed_goes_on : (unsaved : Bool) (s : Session) → s.editor.ended ≡ false → (changed_if unsaved s).editor.ended ≡ false
changed_goes_on true s on = on
changed_goes_on false s on = on

offset_goes_on : (d : Data) (b : Beginning) → (at_offset d b).editor.ended ≡ false
offset_goes_on d b =
    let s : Session = opened d b in
    let first : Session = clipboard_if b.clipboard s in
    changed_goes_on b.unsaved (after_going_to d first b.offset) (going_goes_on d first b.offset (clipboard_goes_on b.clipboard s refl))

-- a painting without a key scrolls to the cursor alone
least_is : (d : Data) (e : Editor) → scrolled_by d Least e ≡ scrolled d e
least_is d e = ap (with_top e) (by e.ended (follow (rows d e) e.top e.place (text_height e.height))) where
  by : (ended : Bool) (other : ℕ) → (if ended then e.top else (if ended then e.top else other)) ≡ (if ended then e.top else other)
  by true other = refl
  by false other = refl

pub begins_with_keys : BeginsWithKeys
begins_with_keys = record {
  replayed = λ d b. ap (λ (e : Editor). scrolled d (replay.at_replay_end (paste_ended d e)))
      (replays_keys d (at_offset d b) (presses_from [] b.journal) (offset_goes_on d b)
      ∙ ap (after_all_replayed d (at_offset d b).editor) (keys_of_input b.journal));
  painted = λ d b. least_is d (unpainted_at d b).editor;
}
