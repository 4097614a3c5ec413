-- Replayed presses apply their keys in order.
use Rattle.std.proofs.Common.{◌≡◌, Bool, true, false, List, [], ◌∷◌, ◌++◌, Option, Some, None, refl, sym, ap, ap₂, ◌∙◌, if◌then◌else◌}
use Rattle.std.specs.Prelude.{option_to_list, is_some, not, ◌&&◌}
use Rattle.bx_keys.specs.declared.key.Key.{Key}
use Rattle.bx_keys.specs.declared.key.Key.TheVariants.{Save, Quit}
use Rattle.bx_ucd.specs.Data.{Data}
use Rattle.bx_editor.specs.declared.questions.answers.Prompt.{Prompt}
use Rattle.bx_editor.specs.declared.questions.answers.Prompt.TheVariants as prompts
use Rattle.bx_editor.specs.Editor.{Editor, cleared}
use Rattle.bx_editor.specs.declared.search_state.SearchState.{SearchState}
use Rattle.bx_editor.specs.declared.search_state.SearchState.TheVariants.{Off, Begun, Typed, WithBegun, WithTyped, Replacing}
use Rattle.bx_editor.specs.Before.{before}
use Rattle.bx_editor.specs.Keys.{after_any, after_key}
use Rattle.bx_editor.specs.Picture.{scrolled}
use Rattle.bx_editor.specs.Putting.{paste_ended}
use Rattle.bx_editor.specs.Replay.{after_passed_answer}
use Rattle.bx_editor.specs.Saving.{with_answered_name, without_answer}
use Rattle.bx_editor.specs.Scrolling.{scroll_of}
use Rattle.bx_session.specs.Inputs.{keys_in}
use Rattle.bx_session.specs.Laws.{after_replaying, ReplaysKeys}
use Rattle.bx_session.specs.Parts.{is_quit}
use Rattle.bx_session.specs.Session.{Session, session_after_key, with_painting_owed}
use Rattle.bx_session.specs.Replaying.{after_all_replayed, after_passed, after_replayed, after_replayed_key, after_replayed_press, moved_by, replayed_on, scrolled_on}
use Rattle.bx_session.specs.Replaying.{session_after_replayed, session_scrolled}
use Rattle.bx_session.proofs.KeyKinds.{is_other, not_quitting, stores}
use Rattle.bx_session.proofs.KeySizes.{ended_goes_on, key_goes_on}
use Rattle.bx_session.proofs.Ending.{quit_user}

-- ---- the keys of a replay

stored_or : (P : Editor → Type 0) (b : Bool) (x y : Editor) → (b ≡ true → P x) → (b ≡ false → P y) → P (if b then x else y)
stored_or P true x y h k = h refl
stored_or P false x y h k = k refl

is_not : (b : Bool) → b ≡ false → (not b && true) ≡ true
is_not true h = absurd (cc h)
is_not false h = refl

pub each-replayed : (d : Data) (prompt : Prompt) (search_state : SearchState) (e : Editor) (P : Key → Editor → Type 0)
    → P Quit (after_replayed d prompt search_state e Quit)
    → ((key : Key) → is_quit (Some key) ≡ false → stores e key ≡ true → P key (after_passed prompt key (paste_ended d e)))
    → ((key : Key) → is_other e key ≡ true → P key (after_key d None e key)) → (key : Key)
    → P key (after_replayed d prompt search_state e key)
each-replayed d prompt search_state e P quit stored other Quit = quit
each-replayed d prompt search_state e P quit stored other key =
    stored_or (P key) (stores e key) (after_passed prompt key (paste_ended d e)) (after_key d None e key) (λ h. stored key refl h)
    (λ h. other key (is_not (stores e key) h))

-- a Quit that gives up a search or a question
pub quit_replayed : (d : Data) (prompt : Prompt) (search_state : SearchState) (e : Editor) → ((prompt ≡ prompts.Off) × (search_state ≡ Off) → ⊥)
    → after_replayed d prompt search_state e Quit ≡ after_key d None e Quit
quit_replayed d prompts.Off Off e other = absurd (other (refl, refl))
quit_replayed d prompts.Off search_state e other = refl
quit_replayed d prompt search_state e other = refl

-- ---- the editor and the unfinished input of a session

editor_if : (b : Bool) (s new other : Session) (e f : Editor) → new.editor ≡ e → other.editor ≡ f → (if b then new else other).editor ≡ (if b then e else f)
editor_if true s new other e f h k = h
editor_if false s new other e f h k = k

abbrev passed_session : Data → Prompt → Session → Key → Session
passed_session d prompt s key = record s { editor = after_passed prompt key (paste_ended d s.editor) }

quit_editor : (d : Data) (prompt : Prompt) (search_state : SearchState) (s : Session)
    → (session_after_replayed d prompt search_state s Quit).editor ≡ after_replayed d prompt search_state s.editor Quit
quit_editor d prompts.Off Off s = refl
quit_editor d prompts.Off search_state s = refl
quit_editor d prompt search_state s = refl

editor_is : (d : Data) (prompt : Prompt) (search_state : SearchState) (s : Session) (key : Key)
    → (session_after_replayed d prompt search_state s key).editor ≡ after_replayed d prompt search_state s.editor key
editor_is d prompt search_state s Quit = quit_editor d prompt search_state s
editor_is d prompt search_state s key =
    editor_if (stores s.editor key) s (passed_session d prompt s key) (session_after_key d None s key)
    (after_passed prompt key (paste_ended d s.editor)) (after_key d None s.editor key) refl refl

-- ---- a replay ends no session

passed_if : (b : Bool) (e new other : Editor) → new.ended ≡ e.ended → other.ended ≡ e.ended → (if b then new else other).ended ≡ e.ended
passed_if true e new other h k = h
passed_if false e new other h k = k

answered : (e : Editor) → (after_passed_answer e).ended ≡ e.ended
answered e = passed_if (is_some e.name && not e.home) e (with_answered_name e) (without_answer e) refl refl

pub passed_goes_on : (prompt : Prompt) (key : Key) (e : Editor) → (after_passed prompt key e).ended ≡ e.ended
passed_goes_on prompts.File Save e = refl
passed_goes_on prompts.File key e = answered e
passed_goes_on prompt key e = refl

-- a Quit that gives up a search or a question, where a paste ends first
quit_goes_on : (d : Data) (prompt : Prompt) (search_state : SearchState) (e : Editor) → (paste_ended d e).prompt ≡ prompt → (paste_ended d e).search_state ≡ search_state
    → (after_replayed d prompt search_state e Quit).ended ≡ e.ended
quit_goes_on d prompt search_state e asked is = by_state prompt search_state asked is where
  gives : (a : Prompt) (s : SearchState) → (paste_ended d e).prompt ≡ a → (paste_ended d e).search_state ≡ s
      → ((x : Editor) → (after_any d None (before x) a s (cleared x) Quit).ended ≡ x.ended) → (after_key d None e Quit).ended ≡ e.ended
  gives a s asked is left =
      let x : Editor = paste_ended d e in
      ap (λ (y : Editor). y.ended) (quit_user d None e)
      ∙ ap₂ (λ (a : Prompt) (s : SearchState). (after_any d None (before x) a s (cleared x) Quit).ended) asked is
      ∙ left x
      ∙ (ended_goes_on d e).0

  replays : (a : Prompt) (s : SearchState) → ((a ≡ prompts.Off) × (s ≡ Off) → ⊥) → (after_key d None e Quit).ended ≡ e.ended
      → (after_replayed d a s e Quit).ended ≡ e.ended
  replays a s other h = ap (λ (y : Editor). y.ended) (quit_replayed d a s e other) ∙ h

  by_state : (a : Prompt) (s : SearchState) → (paste_ended d e).prompt ≡ a → (paste_ended d e).search_state ≡ s
      → (after_replayed d a s e Quit).ended ≡ e.ended
  by_state prompts.Off Off asked is = (ended_goes_on d e).0
  by_state prompts.Off Begun asked is = replays prompts.Off Begun (λ off. cc off.1) (gives prompts.Off Begun asked is (λ x. refl))
  by_state prompts.Off Typed asked is = replays prompts.Off Typed (λ off. cc off.1) (gives prompts.Off Typed asked is (λ x. refl))
  by_state prompts.Off WithBegun asked is = replays prompts.Off WithBegun (λ off. cc off.1) (gives prompts.Off WithBegun asked is (λ x. refl))
  by_state prompts.Off WithTyped asked is = replays prompts.Off WithTyped (λ off. cc off.1) (gives prompts.Off WithTyped asked is (λ x. refl))
  by_state prompts.Off Replacing asked is = replays prompts.Off Replacing (λ off. cc off.1) (gives prompts.Off Replacing asked is (λ x. refl))
  by_state prompts.Line s asked is = replays prompts.Line s (λ off. cc off.0) (gives prompts.Line s asked is (λ x. refl))
  by_state prompts.Name s asked is = replays prompts.Name s (λ off. cc off.0) (gives prompts.Name s asked is (λ x. refl))
  by_state prompts.Code s asked is = replays prompts.Code s (λ off. cc off.0) (gives prompts.Code s asked is (λ x. refl))
  by_state prompts.File s asked is = replays prompts.File s (λ off. cc off.0) (gives prompts.File s asked is (λ x. refl))
  by_state prompts.Overwrite s asked is = replays prompts.Overwrite s (λ off. cc off.0) (gives prompts.Overwrite s asked is (λ x. refl))

pub goes_on : (d : Data) (e : Editor) (key : Key) → e.ended ≡ false → (replayed_on d e key).ended ≡ false
goes_on d e key h =
    let over : Editor = paste_ended d e in
    each-replayed d over.prompt over.search_state e (λ k new. new.ended ≡ e.ended) (quit_goes_on d over.prompt over.search_state e refl refl)
    (λ k quits stored. passed_goes_on over.prompt k over ∙ (ended_goes_on d e).0)
    (λ k other. key_goes_on d None e k (not_quitting e k other)) key
    ∙ h

-- ---- a press

-- the session after a press with a given key
pub record Applies (d : Data) (old : Session) (keys : List Key) (new : Session) : Type 0 where
  pub editor : new.editor ≡ after_all_replayed d old.editor keys
  pub goes_on : new.editor.ended ≡ false

applies_any : (d : Data) (s : Session) (key : Option Key) → s.editor.ended ≡ false
    → Applies d s (option_to_list key) (after_replayed_key d s key)
applies_any d s None h = record { editor = refl; goes_on = h }
applies_any d s (Some key) h =
    let from : Session = session_scrolled d s in
    let over : Editor = paste_ended d from.editor in record {
      editor = ap (moved_by d (scroll_of s.editor key)) (editor_is d over.prompt over.search_state from key);
      goes_on = ap (λ (e : Editor). e.ended) (editor_is d over.prompt over.search_state from key) ∙ goes_on d from.editor key h;
    }

applies_at : (ended : Bool) (d : Data) (s : Session) (key : Option Key) → s.editor.ended ≡ ended → ended ≡ false
    → Applies d s (option_to_list key) (with_painting_owed (after_replayed_key d s (if ended then None else key)))
applies_at true d s key e h = absurd (cc h)
applies_at false d s key e h = let each = applies_any d s key e in record { editor = each.editor; goes_on = each.goes_on }

pub applies : (d : Data) (s : Session) (key : Option Key) → s.editor.ended ≡ false
    → Applies d s (option_to_list key) (after_replayed_press d s key)
applies d s key h = applies_at s.editor.ended d s key refl h

-- ---- all presses

pub keys_in_parts : (d : Data) (e : Editor) (first others : List Key)
    → after_all_replayed d e (first ++ others) ≡ after_all_replayed d (after_all_replayed d e first) others
keys_in_parts d e [] others = refl
keys_in_parts d e (key ∷ first) others = keys_in_parts d (scrolled_on d (scrolled d e) key) first others

pub replays_keys : ReplaysKeys
replays_keys d s [] h = refl
replays_keys d s (key ∷ presses) h =
    let each = applies d s key h in
    replays_keys d (after_replayed_press d s key) presses each.goes_on
    ∙ rw each.editor (sym (keys_in_parts d s.editor (option_to_list key) (keys_in presses)))

pub replayed_more : (d : Data) (s : Session) (presses : List (Option Key)) (key : Option Key)
    → after_replaying d s (presses ++ key ∷ []) ≡ after_replayed_press d (after_replaying d s presses) key
replayed_more d s [] key = refl
replayed_more d s (first ∷ presses) key = replayed_more d (after_replayed_press d s first) presses key
