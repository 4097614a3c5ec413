-- What steps bring to the editor, and what they make of it.
use Rattle.std.proofs.Common.{◌≡◌, ℕ, ◌+◌, suc, ◌<◌, ◌≤◌, ◌⊎◌, inl, inr, min, Bool, true, false, List, [], ◌∷◌, ◌++◌}
use Rattle.std.proofs.Common.{Option, Some, None, Result, Ok, Err, refl, sym, ap, subst, ◌∙◌, arith, if◌then◌else◌}
use Rattle.std.specs.Prelude.{◌&&◌, is_some, option_to_list}
use Rattle.std.proofs.Math.Nat.{min-eq_left, min-eq_right}
use Rattle.std.proofs.lemmas.Bool.{cases_lt}
use Rattle.bx_grid.specs.declared.error.GridError.TheVariants as grid
use Rattle.bx_grid.specs.Picture.{is_size}
use Rattle.bx_keys.specs.declared.key.Key.{Key}
use Rattle.bx_keys.specs.Keys.{key_after, rest_after}
use Rattle.bx_keys.specs.Waiting.{head_of}
use Rattle.bx_store.specs.Faults.{greatest}
use Rattle.bx_store.specs.declared.faults.Faults.{Faults}
use Rattle.bx_store.specs.declared.store.StoreFault.{StoreFault}
use Rattle.bx_ucd.specs.Data.{Data}
use Rattle.bx_editor.specs.Editor.{Editor, with_top}
use Rattle.bx_editor.specs.declared.scrolling.Scroll.{Scroll}
use Rattle.bx_session.specs.declared.status.Refused.TheVariants as refused
use Rattle.bx_session.specs.Session.{Session, counted_key, session_after_any, unpainted_after_press, painted_after}
use Rattle.bx_editor.specs.Picture.{next_top, scrolled_by}
use Rattle.bx_editor.specs.Scrolling.{moved_top}
use Rattle.bx_session.specs.Session.{is_painted_press, after_press, scroll_behind, StoreState, StoreAfter, stores_by, is_save_press, text_to_save}
use Rattle.bx_session.specs.Inputs.{keys_in, presses_from, rest_from}
use Rattle.bx_session.specs.Laws.{keys_from}
use Rattle.bx_session.proofs.Input.{keys_of_input}
use Rattle.bx_session.proofs.Typing.{keys_are, keys_in_both, presses_from_both}
use Rattle.bx_world.specs.declared.step.Step.{Step}
use Rattle.bx_world.specs.declared.step.Step.TheVariants.{Byte, Window, Told, Send, Read}
use Rattle.bx_world.specs.declared.step.StepFault.{StepFault}
use Rattle.bx_world.specs.declared.step.StepFault.TheVariants as faults
use Rattle.bx_world.specs.World.{World, after_window, after_send, after_read, with_failed_screen, StepsTo, PlaysTo, AfterByteStep}
use Rattle.bx_world.specs.World.{AfterToldStep, AfterWindowStep, AfterSendStep, AfterReadStep, is_ok, press_of}
use Rattle.bx_world.specs.Events.{Event, Input, Telling, after_input, after_event, after_events, after_save_of, stored_after, stored_after_all, failed_saves}
use Rattle.bx_world.specs.Events.{input_of, keys_of, HasKeysOfAll, is_applied, Brings, BringsByte, AreEventsFrom, owed_after, owed_by, painted_if}
use Rattle.bx_world.specs.Following.{Follows}
use Rattle.bx_world.proofs.Ended.{after_both, has_input, over, over_step}
use Rattle.bx_world.proofs.Schedules.{press_owes}

-- ---- events in two parts

stored_both : (d : Data) (e : Editor) (store : StoreState) (first others : List Event)
    → stored_after_all d e store (first ++ others) ≡ stored_after_all d (after_events d e first) (stored_after_all d e store first) others
stored_both d e store [] others = refl
stored_both d e store (event ∷ first) others = stored_both d (after_event d e event) (stored_after d e store event) first others

-- ---- the keys of events

-- each byte has the key that it ends behind what is kept of those before
abbrev pub AreDecoded : List ℕ → List Event → Type 0
AreDecoded rest [] = Unit {0}
AreDecoded rest (Input byte key applied fault painted ∷ more) = (key ≡ key_after rest byte) × AreDecoded (head_of (rest_after rest byte)) more
AreDecoded rest (Telling height width painted ∷ more) = AreDecoded rest more

decoded_keys : (rest : List ℕ) (events : List Event) → AreDecoded rest events → keys_of events ≡ keys_from rest (input_of events)
decoded_keys rest [] are = refl
decoded_keys rest (Input byte key applied fault painted ∷ more) are =
    ap (λ k. option_to_list k ++ keys_of more) are.0
    ∙ ap (λ ks. option_to_list (key_after rest byte) ++ ks) (decoded_keys (head_of (rest_after rest byte)) more are.1)
decoded_keys rest (Telling height width painted ∷ more) are = decoded_keys rest more are

front_decoded : (rest : List ℕ) (front back : List Event) → AreDecoded rest (front ++ back) → AreDecoded rest front
front_decoded rest [] back are = tt
front_decoded rest (Input byte key applied fault painted ∷ front) back are =
    (are.0, front_decoded (head_of (rest_after rest byte)) front back are.1)
front_decoded rest (Telling height width painted ∷ front) back are = front_decoded rest front back are

-- behind the bytes of a journal
pub decoded_behind : (journal : List ℕ) (events : List Event) → AreDecoded (rest_from [] journal) events → HasKeysOfAll journal events
decoded_behind journal events are front back is =
    let waits = rest_from [] journal in
    let typed = input_of front in
    ap (λ ks. ks ++ keys_of front) (sym (keys_of_input journal))
    ∙ ap (λ ks. keys_in (presses_from [] journal) ++ ks)
    (decoded_keys waits front (front_decoded waits front back (subst (AreDecoded waits) is are)) ∙ sym (keys_are waits typed))
    ∙ sym (keys_in_both (presses_from [] journal) (presses_from waits typed))
    ∙ ap keys_in (sym (presses_from_both [] journal typed))
    ∙ keys_of_input (journal ++ typed)

-- ---- a byte

-- what a byte makes of the editor, of what waits, and of the painting that is owed
pub record IsPressed (d : Data) (answer : Result (Unit {0}) StepFault) (fault : Option StoreFault) (old : World) (b : ℕ) (new : World) : Type 0 where
  pub editor : new.session.editor
      ≡ painted_if (is_ok answer && is_painted_press old.session (press_of old b)) d
      (scroll_behind old.session.editor (counted_key old.session (press_of old b)))
      (after_input d (is_applied answer) fault old.session.editor (counted_key old.session (press_of old b)))
  pub rest : new.rest ≡ head_of (rest_after old.rest b)
  pub owed : new.session.painting_owed ≡ owed_by old.session.painting_owed answer

any_editor : (d : Data) (fault : Option StoreFault) (s : Session) (key : Option Key) → (session_after_any d fault s key).editor ≡ after_input d true fault s.editor key
any_editor d fault s None = refl
any_editor d fault s (Some key) = refl

unpainted_editor : (d : Data) (fault : Option StoreFault) (s : Session) (key : Option Key)
    → (unpainted_after_press d fault s key).editor ≡ after_input d true fault s.editor (counted_key s key)
unpainted_editor d fault s key = any_editor d fault s (counted_key s key)

refused_input : (d : Data) (fault : Option StoreFault) (e : Editor) (key : Option Key) → e ≡ after_input d false fault e key
refused_input d fault e None = refl
refused_input d fault e (Some key) = refl

press_editor : (d : Data) (fault : Option StoreFault) (s : Session) (key : Option Key)
    → (after_press d fault s key).editor
    ≡ painted_if (is_painted_press s key) d (scroll_behind s.editor (counted_key s key)) (after_input d true fault s.editor (counted_key s key))
press_editor d fault s key = by_editor (is_painted_press s key) where
  u : Session
  u = unpainted_after_press d fault s key

  counts : Option Key
  counts = counted_key s key

  scroll : Scroll
  scroll = scroll_behind s.editor counts

  by_editor : (paints : Bool) → (if paints then painted_after d scroll u counts else u).editor
      ≡ painted_if paints d scroll (after_input d true fault s.editor counts)
  by_editor true = ap (scrolled_by d scroll) (unpainted_editor d fault s key)
  by_editor false = unpainted_editor d fault s key

pub byte_pressed : (d : Data) (fault : Option StoreFault) (old new : World) (b : ℕ) (answer : Result (Unit {0}) StepFault)
    → AfterByteStep d fault old b answer new → IsPressed d answer fault old b new
byte_pressed d fault old new b (Ok done) is =
    subst (λ (w : World). IsPressed d (Ok done) fault old b w) (sym is) (record {
      editor = press_editor d fault old.session (press_of old b);
      rest = refl;
      owed = press_owes d fault old.session (press_of old b);
    })
byte_pressed d fault old new b (Err (faults.Session refused.Paint)) is =
    subst (λ (w : World). IsPressed d (Err (faults.Session refused.Paint)) fault old b w) (sym is.0)
    (record { editor = unpainted_editor d fault old.session (press_of old b); rest = refl; owed = refl })
byte_pressed d fault old new b (Err (faults.Session refused.Edit)) is =
    subst (λ (w : World). IsPressed d (Err (faults.Session refused.Edit)) fault old b w) (sym is.0) (record {
      editor = refused_input d fault old.session.editor (counted_key old.session (press_of old b));
      rest = refl;
      owed = refl;
    })
byte_pressed d fault old new b (Err (faults.Session refused.Size)) is = absurd is
byte_pressed d fault old new b (Err (faults.Screen _)) is = absurd is
byte_pressed d fault old new b (Err faults.Line) is = absurd is

-- after the end a painting scrolls no more
ended_top : (painted : Bool) (d : Data) (scroll : Scroll) (e : Editor) → e.ended ≡ true → painted_if painted d scroll e ≡ e
ended_top false d scroll e on = refl
ended_top true d scroll e on = ap (with_top e) (same e.ended (next_top d e (moved_top d e e.top scroll)) on) where
  same : (ended : Bool) (other : ℕ) → ended ≡ true → (if ended then e.top else other) ≡ e.top
  same true other is = refl
  same false other is = absurd (cc is)

neither : (applied : Bool) → (applied && false) ≡ false
neither true = refl
neither false = refl

-- the key of a press after the session's end and before
key_if : (ended : Bool) (key : Option Key) → ended ≡ true → (if ended then None else key) ≡ None
key_if true key on = refl
key_if false key on = absurd (cc on)

key_if_not : (ended : Bool) (key : Option Key) → ended ≡ false → (if ended then None else key) ≡ key
key_if_not true key off = absurd (cc off)
key_if_not false key off = refl

-- events without bytes, whatever waits
none_decoded : (rest : List ℕ) (events : List Event) → input_of events ≡ [] → AreDecoded rest events
none_decoded rest [] none = tt
none_decoded rest (Input byte key applied fault painted ∷ more) none = absurd (cc none)
none_decoded rest (Telling height width painted ∷ more) none = none_decoded rest more none

-- ---- a step

-- what a step brings, and what that makes of editor, store and the input that waits
record StepBrings (d : Data) (old new : World) (store store' : StoreState) (step : Step) (answer : Result (Unit {0}) StepFault) : Type 0 where
  pub first : List Event
  pub brings : Brings old.session.painting_owed old.session.editor step answer first
  pub owed : new.session.painting_owed ≡ owed_after old.session.painting_owed step answer
  pub editor : new.session.editor ≡ after_events d old.session.editor first
  pub stored : store' ≡ stored_after_all d old.session.editor store first
  pub decoded : (others : List Event) → (old.session.editor.ended ≡ true → input_of others ≡ []) → AreDecoded new.rest others
      → AreDecoded old.rest (first ++ others)

store_is : (saves : Bool) (fault : Option StoreFault) (text : List ℕ) (store store' : StoreState) → StoreAfter saves fault text store store'
    → store' ≡ (if saves then after_save_of text fault store else store)
store_is true None text store store' is = is
store_is true (Some fault) text store store' is =
    ap (λ (c : Option (List ℕ)). record { contents = c; faults = store'.faults }) is.0
    ∙ ap (λ (f : Faults). record { contents = store.contents; faults = f }) is.1
store_is false fault text store store' is = is

byte_brings : (ended : Bool) (d : Data) (fault : Option StoreFault) (old new : World) (store store' : StoreState) (b : ℕ) (answer : Result (Unit {0}) StepFault)
    → old.session.editor.ended ≡ ended
    → StoreAfter (is_applied answer && is_save_press old.session (press_of old b)) fault (text_to_save d old.session.editor) store store'
    → IsPressed d answer fault old b new → StepBrings d old new store store' (Byte b) answer
byte_brings true d fault old new store store' b answer on stores pressed =
    let s = old.session in
    let key = counted_key s (press_of old b) in
    let paints = is_ok answer && is_painted_press s (press_of old b) in
    let scroll : Scroll = scroll_behind s.editor key in
    let none : key ≡ None = key_if s.editor.ended (press_of old b) on in record {
      first = [];
      brings = subst (λ ended. BringsByte ended s.painting_owed s.editor b answer []) (sym on) refl;
      owed = pressed.owed;
      editor = pressed.editor
          ∙ ap (λ k. painted_if paints d scroll (after_input d (is_applied answer) fault s.editor k)) none
          ∙ ended_top paints d scroll s.editor on;
      stored = subst (λ saves. StoreAfter saves fault (text_to_save d s.editor) store store')
          (ap (λ k. is_applied answer && stores_by s.editor k) none ∙ neither (is_applied answer)) stores;
      decoded = λ others over are. none_decoded old.rest others (over on);
    }
byte_brings false d fault old new store store' b answer off stores pressed =
    let s = old.session in
    let key = counted_key s (press_of old b) in
    let event = Input b key (is_applied answer) fault (is_ok answer && is_painted_press s (press_of old b)) in record {
      first = event ∷ [];
      brings = subst (λ ended. BringsByte ended s.painting_owed s.editor b answer (event ∷ [])) (sym off) (key, fault, refl);
      owed = pressed.owed;
      editor = pressed.editor;
      stored = store_is (is_applied answer && stores_by s.editor key) fault (text_to_save d s.editor) store store' stores;
      decoded = λ others over are. (
        key_if_not s.editor.ended (press_of old b) off,
        subst (λ rest. AreDecoded rest others) pressed.rest are,
      );
    }

size_if : (sized : Bool) (event : Event) → sized ≡ true → event ∷ [] ≡ (if sized then event ∷ [] else [])
size_if true event on = refl
size_if false event on = absurd (cc on)

no_size_if : (sized : Bool) (event : Event) → sized ≡ false → [] ≡ (if sized then event ∷ [] else [])
no_size_if true event off = absurd (cc off)
no_size_if false event off = refl

telling_brings : (d : Data) (old new : World) (store store' : StoreState) (height width : ℕ) (answer : Result (Unit {0}) StepFault)
    → is_size height width ≡ true → new.session.editor ≡ after_events d old.session.editor (Telling height width (is_ok answer) ∷ [])
    → new.rest ≡ old.rest → new.session.painting_owed ≡ owed_by old.session.painting_owed answer → store' ≡ store
    → StepBrings d old new store store' (Told height width) answer
telling_brings d old new store store' height width answer sized editor rest owed same = record {
  first = Telling height width (is_ok answer) ∷ [];
  brings = size_if (is_size height width) (Telling height width (is_ok answer)) sized;
  owed = owed;
  editor = editor;
  stored = same;
  decoded = λ others over are. subst (λ rest. AreDecoded rest others) rest are;
}

told_brings : (d : Data) (old new : World) (store store' : StoreState) (height width : ℕ) (answer : Result (Unit {0}) StepFault)
    → AfterToldStep d old height width answer new → store' ≡ store → StepBrings d old new store store' (Told height width) answer
told_brings d old new store store' height width (Ok done) is same =
    telling_brings d old new store store' height width (Ok done) is.0 (ap (λ (w : World). w.session.editor) is.1)
    (ap (λ (w : World). w.rest) is.1) (ap (λ (w : World). w.session.painting_owed) is.1) same
told_brings d old new store store' height width (Err (faults.Session refused.Paint)) is same =
    telling_brings d old new store store' height width (Err (faults.Session refused.Paint)) is.0 (ap (λ (w : World). w.session.editor) is.1)
    (ap (λ (w : World). w.rest) is.1) (ap (λ (w : World). w.session.painting_owed) is.1) same
told_brings d old new store store' height width (Err (faults.Session refused.Size)) is same = record {
  first = [];
  brings = no_size_if (is_size height width) (Telling height width false) is.0;
  owed = ap (λ (w : World). w.session.painting_owed) is.1;
  editor = ap (λ (w : World). w.session.editor) is.1;
  stored = same;
  decoded = λ others over are. subst (λ (w : World). AreDecoded w.rest others) is.1 are;
}
told_brings d old new store store' height width (Err (faults.Session refused.Edit)) is same = absurd is
told_brings d old new store store' height width (Err (faults.Screen fault)) is same = absurd is
told_brings d old new store store' height width (Err faults.Line) is same = absurd is

-- editor, waiting input and owed painting are as they were
record IsUntouched (old new : World) : Type 0 where
  pub editor : new.session.editor ≡ old.session.editor
  pub rest : new.rest ≡ old.rest
  pub owed : new.session.painting_owed ≡ old.session.painting_owed

untouched_as : (old w new : World) → new ≡ w → IsUntouched old w → IsUntouched old new
untouched_as old w new is same = subst (IsUntouched old) (sym is) same

window_untouched : (old new : World) (height width : ℕ) (answer : Result (Unit {0}) StepFault) → AfterWindowStep old height width answer new
    → IsUntouched old new
window_untouched old new height width (Ok done) is =
    untouched_as old (after_window old height width) new is.2 (record { editor = refl; rest = refl; owed = refl })
window_untouched old new height width (Err (faults.Screen grid.SizeOutOfRange)) is = untouched_as old old new is.2 (record { editor = refl; rest = refl; owed = refl })
window_untouched old new height width (Err (faults.Screen grid.OutOfMemory)) is =
    untouched_as old (with_failed_screen old) new is.1 (record { editor = refl; rest = refl; owed = refl })
window_untouched old new height width (Err (faults.Session fault)) is = absurd is
window_untouched old new height width (Err faults.Line) is = absurd is

send_untouched : (old new : World) (count : ℕ) (answer : Result (Unit {0}) StepFault) → AfterSendStep old count answer new → IsUntouched old new
send_untouched old new count (Ok done) is = untouched_as old (after_send old count) new is (record { editor = refl; rest = refl; owed = refl })
send_untouched old new count (Err faults.Line) is = untouched_as old old new is (record { editor = refl; rest = refl; owed = refl })
send_untouched old new count (Err (faults.Session fault)) is = absurd is
send_untouched old new count (Err (faults.Screen fault)) is = absurd is

read_untouched : (old new : World) (count : ℕ) (answer : Result (Unit {0}) StepFault) → AfterReadStep old count answer new → IsUntouched old new
read_untouched old new count (Ok done) is = untouched_as old (after_read old count) new is.1 (record { editor = refl; rest = refl; owed = refl })
read_untouched old new count (Err (faults.Screen grid.OutOfMemory)) is =
    subst (IsUntouched old) (sym is.1) (record { editor = refl; rest = refl; owed = refl })
read_untouched old new count (Err (faults.Screen grid.SizeOutOfRange)) is = absurd is
read_untouched old new count (Err (faults.Session fault)) is = absurd is
read_untouched old new count (Err faults.Line) is = absurd is

nothing_brought : (d : Data) (old new : World) (store store' : StoreState) (step : Step) (answer : Result (Unit {0}) StepFault)
    → Brings old.session.painting_owed old.session.editor step answer [] → owed_after old.session.painting_owed step answer ≡ old.session.painting_owed
    → IsUntouched old new → store' ≡ store → StepBrings d old new store store' step answer
nothing_brought d old new store store' step answer none stays untouched same = record {
  first = [];
  brings = none;
  owed = untouched.owed ∙ sym stays;
  editor = untouched.editor;
  stored = same;
  decoded = λ others over are. subst (λ rest. AreDecoded rest others) untouched.rest are;
}

step_brings : (d : Data) (old new : World) (store store' : StoreState) (step : Step) (answer : Result (Unit {0}) StepFault)
    → StepsTo d old store step answer new store' → StepBrings d old new store store' step answer
step_brings d old new store store' (Byte b) answer is =
    byte_brings old.session.editor.ended d is.0 old new store store' b answer refl is.1 (byte_pressed d is.0 old new b answer is.2)
step_brings d old new store store' (Told height width) answer is = told_brings d old new store store' height width answer is.0 is.1
step_brings d old new store store' (Window height width) answer is =
    nothing_brought d old new store store' (Window height width) answer refl refl (window_untouched old new height width answer is.0) is.1
step_brings d old new store store' (Send count) answer is =
    nothing_brought d old new store store' (Send count) answer refl refl (send_untouched old new count answer is.0) is.1
step_brings d old new store store' (Read count) answer is =
    nothing_brought d old new store store' (Read count) answer refl refl (read_untouched old new count answer is.0) is.1

-- ---- a schedule

record Brought (d : Data) (old new : World) (store store' : StoreState) (all : List (Step × Result (Unit {0}) StepFault)) : Type 0 where
  pub events : List Event
  pub events_are : AreEventsFrom d old.session.painting_owed old.session.editor all events
  pub editor : new.session.editor ≡ after_events d old.session.editor events
  pub stored : store' ≡ stored_after_all d old.session.editor store events
  pub decoded : AreDecoded old.rest events

brought : (d : Data) (old new : World) (store store' : StoreState) (all : List (Step × Result (Unit {0}) StepFault))
    → PlaysTo d old store all new store' → Brought d old new store store' all
brought d old new store store' [] played = record {
  events = [];
  events_are = refl;
  editor = ap (λ (w : World). w.session.editor) played.0;
  stored = played.1;
  decoded = tt;
}
brought d old new store store' (s ∷ more) played =
    let one = step_brings d old played.0 store played.1 s.0 s.1 played.2 in
    let others = brought d played.0 new played.1 store' more played.3 in
    let e = old.session.editor in record {
      events = one.first ++ others.events;
      events_are = (
        one.first,
        others.events,
        refl,
        one.brings,
        subst (λ (owed : Bool). AreEventsFrom d owed (after_events d e one.first) more others.events) one.owed
            (subst (λ (x : Editor). AreEventsFrom d played.0.session.painting_owed x more others.events) one.editor others.events_are),
      );
      editor = others.editor ∙ ap (λ (x : Editor). after_events d x others.events) one.editor ∙ sym (after_both d e one.first others.events);
      stored = others.stored
          ∙ ap (λ (x : Editor). stored_after_all d x played.1 others.events) one.editor
          ∙ ap (λ (x : StoreState). stored_after_all d (after_events d e one.first) x others.events) one.stored
          ∙ sym (stored_both d e store one.first others.events);
      decoded = one.decoded others.events (λ on.
          let first = over_step d old.session.painting_owed e s.0 s.1 one.first on one.brings in
          let left = ap (λ (x : Editor). x.ended) one.editor ∙ first.ended in
          (over d played.0.session.painting_owed played.0.session.editor more others.events left others.events_are).input) others.decoded;
    }

-- ---- saves that failed

-- a count that rises up to a greatest number, where it is below that at the end
below : (g n k now : ℕ) → (min g (suc n) + k < g) → now ≡ min g (suc n) + k → now ≡ n + suc k
below g n k now low is = by (cases_lt g (suc n)) where
  by : (g < suc n) ⊎ (suc n ≤ g) → now ≡ n + suc k
  by (inl over) = let full : min g (suc n) ≡ g = min-eq_left (omega (arith, over)) in absurd (omega (arith, full, low))
  by (inr fits) = let one : min g (suc n) ≡ suc n = min-eq_right fits in omega (arith, one, is)

failed_are : (d : Data) (e : Editor) (store : StoreState) (events : List Event) → (stored_after_all d e store events).faults.count < greatest
    → (stored_after_all d e store events).faults.count ≡ store.faults.count + failed_saves d e events
failed_are d e store [] low = omega arith
failed_are d e store (Telling height width painted ∷ more) low = failed_are d (after_event d e (Telling height width painted)) store more low
failed_are d e store (Input byte key applied fault painted ∷ more) low =
    by_save (applied && stores_by e key) fault (λ (now : StoreState). failed_are d next now more) low where
      next : Editor
      next = after_event d e (Input byte key applied fault painted)

      by_save : (saves : Bool) (fault : Option StoreFault)
          → ((now : StoreState) → (stored_after_all d next now more).faults.count < greatest
          → (stored_after_all d next now more).faults.count ≡ now.faults.count + failed_saves d next more)
          → (stored_after_all d next (if saves then after_save_of (text_to_save d e) fault store else store) more).faults.count < greatest
          → (stored_after_all d next (if saves then after_save_of (text_to_save d e) fault store else store) more).faults.count
          ≡ store.faults.count + (if saves && is_some fault then suc (failed_saves d next more) else failed_saves d next more)
      by_save true None others low = others (after_save_of (text_to_save d e) None store) low
      by_save true (Some failed) others low =
          let count = others (after_save_of (text_to_save d e) (Some failed) store) low in
          below greatest store.faults.count (failed_saves d next more) _ (subst (λ n. n < greatest) count low) count
      by_save false fault others low = others store low

pub follows_decoded : (d : Data) (old new : World) (store store' : StoreState) (all : List (Step × Result (Unit {0}) StepFault))
    → PlaysTo d old store all new store' → (events : List Event) × Follows d old store all new store' events × AreDecoded old.rest events
follows_decoded d old new store store' all played =
    let b = brought d old new store store' all played in
    let i = has_input d old.session.painting_owed old.session.editor all b.events b.events_are in
    let failures : store'.faults.count < greatest → store'.faults.count ≡ store.faults.count + failed_saves d old.session.editor b.events =
    subst (λ (x : StoreState). x.faults.count < greatest → x.faults.count ≡ store.faults.count + failed_saves d old.session.editor b.events) (sym b.stored)
    (failed_are d old.session.editor store b.events) in (
      b.events,
      record {
        events_are = b.events_are;
        input = (i.dropped, i.bytes, λ some. ap (λ (e : Editor). e.ended) b.editor ∙ i.drops some);
        keys = decoded_keys old.rest b.events b.decoded;
        as_whole = λ none. decoded_behind [] b.events (subst (λ rest. AreDecoded rest b.events) none b.decoded);
        editor = b.editor;
        stored = b.stored;
        failures = failures;
      },
      b.decoded,
    )

pub follows : (d : Data) (old new : World) (store store' : StoreState) (all : List (Step × Result (Unit {0}) StepFault))
    → PlaysTo d old store all new store' → (events : List Event) × Follows d old store all new store' events
follows d old new store store' all played = let f = follows_decoded d old new store store' all played in (f.0, f.1)
