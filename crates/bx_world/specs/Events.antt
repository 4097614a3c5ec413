-- The events of a schedule: input bytes with the keys that they complete, and told sizes. `d` is Unicode's data, `e` the editor
-- before, `s` a step with its answer.
use Rattle.std.specs.Prelude.{◌≡◌, ◌≢◌, ℕ, suc, Bool, true, false, ◌&&◌, ◌||◌, is_some, List, [], ◌∷◌, ◌++◌, Option, Some, None}
use Rattle.std.specs.Prelude.{option_to_list, Result, Ok, Err, if◌then◌else◌}
use Rattle.bx_keys.specs.declared.key.Key.{Key}
use Rattle.bx_keys.specs.Keys.{decoding}
use Rattle.bx_grid.specs.Picture.{is_size}
use Rattle.bx_store.specs.Faults.{with_fault}
use Rattle.bx_store.specs.declared.store.StoreFault.{StoreFault}
use Rattle.bx_ucd.specs.Data.{Data}
use Rattle.bx_editor.specs.Editor.{Editor, with_size, with_top}
use Rattle.bx_editor.specs.Keys.{after_key}
use Rattle.bx_editor.specs.Picture.{top_behind}
use Rattle.bx_editor.specs.declared.scrolling.Scroll.{Scroll}
use Rattle.bx_editor.specs.declared.scrolling.Scroll.TheVariants.{Least}
use Rattle.bx_session.specs.declared.status.Refused.TheVariants as refused
use Rattle.bx_session.specs.Session.{StoreState, with_text, stores_by, text_to_save, needs_painting, scroll_behind}
use Rattle.bx_world.specs.declared.step.Step.{Step}
use Rattle.bx_world.specs.declared.step.Step.TheVariants.{Byte, Window, Told, Send, Read}
use Rattle.bx_world.specs.declared.step.StepFault.{StepFault}
use Rattle.bx_world.specs.declared.step.StepFault.TheVariants as faults
use Rattle.bx_world.specs.World.{is_ok}
pub use Rattle.bx_world.specs.World.{is_applied}

-- what a schedule's step does to the editor
pub data Event : Type 0 where
  -- a byte of input before the session's end, with the key that it completes, if any; whether the key was applied; why its
  -- save failed, if it made one that failed, else None; and whether the picture was painted after it
  Input : (byte : ℕ) (key : Option Key) (applied : Bool) (fault : Option StoreFault) (painted : Bool) → Event
  -- the session was told a size, in rows and columns; whether the picture was painted after it
  Telling : (height width : ℕ) (painted : Bool) → Event

-- ---- the effect of events on an editor and a store

-- the editor after a byte of input: a byte that completes no key, and a key that was refused, change nothing
abbrev pub after_input : Data → Bool → Option StoreFault → Editor → Option Key → Editor
after_input d applied fault e None = e
after_input d applied fault e (Some key) = if applied then after_key d fault e key else e

-- the offset whose row is shown first: a painting scrolls as the key asks for, and then to the cursor
abbrev pub top_if : Bool → Data → Scroll → Editor → ℕ
top_if true d scroll e = top_behind d e e.top scroll
top_if false d scroll e = e.top

-- the editor, scrolled so if the picture was painted
abbrev pub painted_if : Bool → Data → Scroll → Editor → Editor
painted_if painted d scroll e = with_top e (top_if painted d scroll e)

-- the editor after an event, and after events in order
abbrev pub after_event : Data → Editor → Event → Editor
after_event d e (Input byte key applied fault painted) = painted_if painted d (scroll_behind e key) (after_input d applied fault e key)
after_event d e (Telling height width painted) = painted_if painted d Least (with_size e height width)

abbrev pub after_events : Data → Editor → List Event → Editor
after_events d e [] = e
after_events d e (event ∷ more) = after_events d (after_event d e event) more

-- a successful save stores the text; after a failed one the store counts one more failed call, with its fault
abbrev pub after_save_of : List ℕ → Option StoreFault → StoreState → StoreState
after_save_of text None store = with_text text store
after_save_of text (Some fault) store = record store { faults = with_fault fault store.faults }

-- the store after an event, before which the editor is `e`: only a key that stores the text, and is applied, changes it
abbrev pub stored_after : Data → Editor → StoreState → Event → StoreState
stored_after d e store (Input byte key applied fault painted) =
    if applied && stores_by e key then after_save_of (text_to_save d e) fault store else store
stored_after d e store (Telling height width painted) = store

-- the store after events in order: each save is of the text at that moment
abbrev pub stored_after_all : Data → Editor → StoreState → List Event → StoreState
stored_after_all d e store [] = store
stored_after_all d e store (event ∷ more) = stored_after_all d (after_event d e event) (stored_after d e store event) more

-- the number of saves that failed, among events that begin with the editor `e`
abbrev pub failed_saves : Data → Editor → List Event → ℕ
failed_saves d e [] = 0
failed_saves d e (Input byte key applied fault painted ∷ more) =
    let rest = failed_saves d (after_event d e (Input byte key applied fault painted)) more in
    if (applied && stores_by e key) && is_some fault then suc rest else rest
failed_saves d e (Telling height width painted ∷ more) = failed_saves d (after_event d e (Telling height width painted)) more

-- ---- the input of events, and its keys

-- the bytes of input, and the keys that they complete
abbrev pub input_of : List Event → List ℕ
input_of [] = []
input_of (Input byte key applied fault painted ∷ more) = byte ∷ input_of more
input_of (Telling height width painted ∷ more) = input_of more

abbrev pub keys_of : List Event → List Key
keys_of [] = []
keys_of (Input byte key applied fault painted ∷ more) = option_to_list key ++ keys_of more
keys_of (Telling height width painted ∷ more) = keys_of more

-- the byte of input of a step, if it is one, and those of a schedule
abbrev pub byte_of : Step → List ℕ
byte_of (Byte b) = b ∷ []
byte_of _ = []

abbrev pub bytes_of_schedule : {A : Type 0} → List (Step × Result A StepFault) → List ℕ
bytes_of_schedule [] = []
bytes_of_schedule (s ∷ more) = byte_of s.0 ++ bytes_of_schedule more

-- the input is all bytes of a schedule, or those up to the session's end if more follow
abbrev pub HasBytesUntilEnd : {A : Type 0} → List (Step × Result A StepFault) → List Event → Editor → Type 0
HasBytesUntilEnd schedule events e =
    (dropped : List ℕ) × (bytes_of_schedule schedule ≡ input_of events ++ dropped) × (dropped ≢ [] → e.ended ≡ true)

-- at every moment, the journal's keys and then the events' keys are the keys that the input grammar gives for all bytes
-- read until then as a whole
abbrev pub HasKeysOfAll : List ℕ → List Event → Type 0
HasKeysOfAll journal events = (front back : List Event) → events ≡ front ++ back
    → (decoding journal).keys ++ keys_of front ≡ (decoding (journal ++ input_of front)).keys

-- ---- the events of a schedule

-- whether a painting is owed after a byte or a told size that was answered so: none if it was accepted, and one if its painting was
-- refused; `owed`: before it
abbrev pub owed_by : {A : Type 0} → Bool → Result A StepFault → Bool
owed_by owed (Ok _) = false
owed_by owed (Err (faults.Session refused.Paint)) = true
owed_by owed _ = owed

-- whether a painting is owed after a step
abbrev pub owed_after : {A : Type 0} → Bool → Step → Result A StepFault → Bool
owed_after owed (Byte b) answer = owed_by owed answer
owed_after owed (Told height width) answer = owed_by owed answer
owed_after owed _ answer = owed

-- The events of a byte, given whether the session has ended, and whether a painting is owed before: none after the end. The picture is
-- painted if the byte is accepted, and its key may change the picture or a painting was owed.
abbrev pub BringsByte : {A : Type 0} → Bool → Bool → Editor → ℕ → Result A StepFault → List Event → Type 0
BringsByte true owed e b answer events = events ≡ []
BringsByte false owed e b answer events =
    (key : Option Key) × (fault : Option StoreFault)
    × (events ≡ Input b key (is_applied answer) fault (is_ok answer && (owed || needs_painting e key)) ∷ [])

-- the events of a step, before which the editor is `e`; a told size outside the limits gives none
abbrev pub Brings : {A : Type 0} → Bool → Editor → Step → Result A StepFault → List Event → Type 0
Brings owed e (Byte b) answer events = BringsByte e.ended owed e b answer events
Brings owed e (Told height width) answer events =
    events ≡ (if is_size height width then Telling height width (is_ok answer) ∷ [] else [])
Brings owed e _ answer events = events ≡ []

-- the events of a schedule, step by step; `owed`: a painting is owed before it
abbrev pub AreEventsFrom : {A : Type 0} → Data → Bool → Editor → List (Step × Result A StepFault) → List Event → Type 0
AreEventsFrom d owed e [] events = events ≡ []
AreEventsFrom d owed e (s ∷ more) events =
    (first : List Event) × (others : List Event) × (events ≡ first ++ others) × Brings owed e s.0 s.1 first
    × AreEventsFrom d (owed_after owed s.0 s.1) (after_events d e first) more others

-- the events of a schedule before which no painting is owed
abbrev pub AreEvents : {A : Type 0} → Data → Editor → List (Step × Result A StepFault) → List Event → Type 0
AreEvents d e schedule events = AreEventsFrom d false e schedule events
