-- The world, which is a session with the decoder of its input, the line (the bytes in transit to the terminal), the window and the
-- terminal, its changes, and its steps. `w` is the world before, `s` a session, `b` a byte of input.
use Rattle.std.specs.Prelude.{ℕ, Bool, true, false, ◌&&◌, ◌==◌, List, [], ◌++◌, take, drop, Option, Some, None, option_map, ◌≡◌, ◌≢◌, ◌∷◌}
use Rattle.std.specs.Prelude.{Result, Ok, Err, IsSome}
use Rattle.std.specs.List.{AllByRecursion}
use Rattle.bx_keys.specs.declared.key.Key.{Key}
use Rattle.bx_keys.specs.declared.key.Key.TheVariants.{Size}
use Rattle.bx_grid.specs.Terminal.{Terminal, reads, after_resize, unknown_terminal}
use Rattle.bx_grid.specs.Picture.{is_size}
use Rattle.bx_grid.specs.declared.error.GridError.TheVariants as grid
use Rattle.bx_keys.specs.Keys.{head_of, key_after, rest_after}
use Rattle.bx_session.specs.Session.{Session, counted_key, after_sending, after_press, owing_after_press, is_painted_press}
use Rattle.bx_session.specs.declared.status.Refused.TheVariants as refused
use Rattle.bx_session.specs.Session.{after_told, owing_after_told, StoreState, StoreAfter, is_save_press, may_refuse_key, text_to_save}
use Rattle.bx_store.specs.declared.store.StoreFault.{StoreFault}
use Rattle.bx_ucd.specs.Data.{Data}
use Rattle.bx_world.specs.declared.step.Step.{Step}
use Rattle.bx_world.specs.declared.step.Step.TheVariants.{Byte, Window, Told, Send, Read}
use Rattle.bx_world.specs.declared.step.StepFault.{StepFault}
use Rattle.bx_world.specs.declared.step.StepFault.TheVariants as faults

pub record World : Type 0 where
  pub session : Session
  -- the bytes of input that are not a whole key yet (`head_of`: of more than 12 bytes, which can give no key, the first 12)
  pub rest : List ℕ
  -- bytes sent and not yet read
  pub line : List ℕ
  -- the window's rows and columns
  pub height : ℕ
  pub width : ℕ
  -- the terminal; None once it has run out of memory
  pub screen : Option Terminal
  -- the session was told the window's last size
  pub told : Bool

-- the world of an opened session; opening tells the session the window's size
abbrev pub around : Session → ℕ → ℕ → World
around s height width = record {
  session = s;
  rest = [];
  line = [];
  height = height;
  width = width;
  screen = Some (unknown_terminal height width);
  told = true;
}

-- ---- told sizes

-- the window has these rows and columns
abbrev pub is_window : World → ℕ → ℕ → Bool
is_window w height width = (w.height == height) && (w.width == width)

-- the flag `told` after a key, in a window of this size: the key Size tells a size
abbrev pub told_after : ℕ → ℕ → Bool → Option Key → Bool
told_after height width told (Some (Size rows columns)) = (height == rows) && (width == columns)
told_after height width told _ = told

-- the flag `told` after a key in this world
abbrev pub told_after_key : World → Option Key → Bool
told_after_key w key = told_after w.height w.width w.told key

-- the press of a byte: the key that it completes, or none
abbrev pub press_of : World → ℕ → Option Key
press_of w b = key_after w.rest b

-- a byte is decoded
abbrev pub after_decoding : World → ℕ → World
after_decoding w b = record w { rest = head_of (rest_after w.rest b) }

-- after a byte that leaves this session
abbrev pub with_byte : World → ℕ → Session → World
with_byte w b s = record (after_decoding w b) { session = s; told = told_after_key w (counted_key w.session (press_of w b)) }

-- after a told size that leaves this session
abbrev pub with_told_size : World → ℕ → ℕ → Session → World
with_told_size w height width s = record w { session = s; told = is_window w height width }

-- ---- the window, the line and the terminal

-- the window gets a size, which the session is not told yet; the terminal, unless it has failed, resizes
abbrev pub after_window : World → ℕ → ℕ → World
after_window w height width = record w {
  height = height;
  width = width;
  screen = option_map (λ t. after_resize t height width) w.screen;
  told = false;
}

-- the first `count` pending bytes, or all, go to the line
abbrev pub after_send : World → ℕ → World
after_send w count = record w { session = after_sending w.session count; line = w.line ++ take count w.session.pending }

-- the terminal reads the first `count` bytes of the line, or all
abbrev pub after_read : World → ℕ → World
after_read w count = record w { line = drop count w.line; screen = option_map (λ t. reads t (take count w.line)) w.screen }

-- after the terminal ran out of memory
abbrev pub with_failed_screen : World → World
with_failed_screen w = record w { screen = None }

-- ---- one step

-- the step was accepted
abbrev pub is_ok : {A : Type 0} → Result A StepFault → Bool
is_ok (Ok _) = true
is_ok (Err fault) = false

-- whether a byte's key was applied: unless there was no memory to apply it; a key whose painting was refused is applied
abbrev pub is_applied : {A : Type 0} → Result A StepFault → Bool
is_applied (Err (faults.Session refused.Edit)) = false
is_applied _ = true

-- the world after a byte, by the answer; `fault`: why the save failed that its key made, None if it succeeded
abbrev pub AfterByteStep : {A : Type 0} → Data → Option StoreFault → World → ℕ → Result A StepFault → World → Type 0
AfterByteStep d fault old b (Ok _) new = new ≡ with_byte old b (after_press d fault old.session (press_of old b))
AfterByteStep d fault old b (Err (faults.Session refused.Paint)) new =
    (new ≡ with_byte old b (owing_after_press d fault old.session (press_of old b))) × (is_painted_press old.session (press_of old b) ≡ true)
AfterByteStep d fault old b (Err (faults.Session refused.Edit)) new =
    (new ≡ after_decoding old b) × (may_refuse_key old.session.editor (counted_key old.session (press_of old b)) ≡ true)
AfterByteStep d fault old b _ new = ⊥

-- the world after the session was told a size, by the answer
abbrev pub AfterToldStep : {A : Type 0} → Data → World → ℕ → ℕ → Result A StepFault → World → Type 0
AfterToldStep d old height width (Ok _) new =
    (is_size height width ≡ true) × (new ≡ with_told_size old height width (after_told d old.session height width))
AfterToldStep d old height width (Err (faults.Session refused.Paint)) new =
    (is_size height width ≡ true) × (new ≡ with_told_size old height width (owing_after_told old.session height width))
AfterToldStep d old height width (Err (faults.Session refused.Size)) new = (is_size height width ≡ false) × (new ≡ old)
AfterToldStep d old height width _ new = ⊥

-- the world after the window got a size, by the answer; a failed terminal answers `OutOfMemory`, whatever the size
abbrev pub AfterWindowStep : {A : Type 0} → World → ℕ → ℕ → Result A StepFault → World → Type 0
AfterWindowStep old height width (Ok _) new = (is_size height width ≡ true) × IsSome old.screen × (new ≡ after_window old height width)
AfterWindowStep old height width (Err (faults.Screen grid.SizeOutOfRange)) new =
    (is_size height width ≡ false) × IsSome old.screen × (new ≡ old)
AfterWindowStep old height width (Err (faults.Screen grid.OutOfMemory)) new =
    (IsSome old.screen → is_size height width ≡ true) × (new ≡ with_failed_screen old)
AfterWindowStep old height width _ new = ⊥

-- the world after pending bytes went to the line, by the answer; a count beyond the pending bytes sends all of them
abbrev pub AfterSendStep : {A : Type 0} → World → ℕ → Result A StepFault → World → Type 0
AfterSendStep old count (Ok _) new = new ≡ after_send old count
AfterSendStep old count (Err faults.Line) new = new ≡ old
AfterSendStep old count _ new = ⊥

-- The world after the terminal read from the line, by the answer. A count beyond the line reads all of it. A read of no byte is
-- answered Ok, even by a failed terminal. If the terminal runs out of memory, the bytes of the read are off the line.
abbrev pub AfterReadStep : {A : Type 0} → World → ℕ → Result A StepFault → World → Type 0
AfterReadStep old count (Ok _) new = (take count old.line ≢ [] → IsSome old.screen) × (new ≡ after_read old count)
AfterReadStep old count (Err (faults.Screen grid.OutOfMemory)) new =
    (take count old.line ≢ []) × (new ≡ with_failed_screen (record old { line = drop count old.line }))
AfterReadStep old count _ new = ⊥

-- a step with its answer, world and store; only a byte changes the store
abbrev pub StepsTo : {A : Type 0} → Data → World → StoreState → Step → Result A StepFault → World → StoreState → Type 0
StepsTo d old store (Byte b) answer new store' =
    (fault : Option StoreFault)
    × StoreAfter (is_applied answer && is_save_press old.session (press_of old b)) fault (text_to_save d old.session.editor) store store'
    × AfterByteStep d fault old b answer new
StepsTo d old store (Told height width) answer new store' = AfterToldStep d old height width answer new × (store' ≡ store)
StepsTo d old store (Window height width) answer new store' = AfterWindowStep old height width answer new × (store' ≡ store)
StepsTo d old store (Send count) answer new store' = AfterSendStep old count answer new × (store' ≡ store)
StepsTo d old store (Read count) answer new store' = AfterReadStep old count answer new × (store' ≡ store)

-- ---- a schedule

-- a sequence of steps with their answers
abbrev pub PlaysTo : {A : Type 0} → Data → World → StoreState → List (Step × Result A StepFault) → World → StoreState → Type 0
PlaysTo d old store [] new store' = (new ≡ old) × (store' ≡ store)
PlaysTo d old store (s ∷ more) new store' =
    (mid : World) × (mid_store : StoreState) × StepsTo d old store s.0 s.1 mid mid_store × PlaysTo d mid mid_store more new store'

-- whether the last byte or told size was accepted, up to this step; `before`: up to the step before
abbrev pub accepted_after : {A : Type 0} → Bool → Step → Result A StepFault → Bool
accepted_after before (Byte b) answer = is_ok answer
accepted_after before (Told height width) answer = is_ok answer
accepted_after before _ answer = before

-- whether the last byte or told size of a schedule was accepted; `before` if it has none
abbrev pub is_last_accepted : {A : Type 0} → Bool → List (Step × Result A StepFault) → Bool
is_last_accepted before [] = before
is_last_accepted before (s ∷ more) = is_last_accepted (accepted_after before s.0 s.1) more

-- the terminal did not run out of memory at a step
abbrev pub has_memory : {A : Type 0} → Result A StepFault → Bool
has_memory (Err (faults.Screen grid.OutOfMemory)) = false
has_memory _ = true

-- the terminal did not run out of memory in a schedule
abbrev pub HasMemory : {A : Type 0} → List (Step × Result A StepFault) → Type 0
HasMemory schedule = AllByRecursion (λ s. has_memory s.1 ≡ true) schedule
