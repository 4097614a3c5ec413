-- What the terminal reads in a schedule, in the order in which it was queued.
use Rattle.std.proofs.Common.{◌≡◌, ℕ, Bool, true, false, List, [], ◌∷◌, ◌++◌, take, drop, length, Option, Some, None, Result, Ok, Err}
use Rattle.std.proofs.Common.{refl, sym, ap, subst, ◌∙◌, if◌then◌else◌}
use Rattle.std.specs.Prelude.{IfSome, option_map, ◌||◌}
use Rattle.std.proofs.Math.Seq.{take-append_seam}
use Rattle.std.proofs.lemmas.List.{append_assoc, append-nil, take-append-drop}
use Rattle.bx_grid.specs.declared.error.GridError.TheVariants as grid
use Rattle.bx_grid.specs.Picture.{Shows}
use Rattle.bx_grid.specs.Terminal.{Terminal, reads}
use Rattle.bx_grid.proofs.Reading.{reads-append}
use Rattle.bx_store.specs.declared.store.StoreFault.{StoreFault}
use Rattle.bx_keys.specs.declared.key.Key.{Key}
use Rattle.bx_ucd.specs.Data.{Data}
use Rattle.bx_session.specs.declared.status.Refused.TheVariants as refused
use Rattle.bx_editor.specs.Picture.{scrolled_by}
use Rattle.bx_editor.specs.declared.scrolling.Scroll.{Scroll}
use Rattle.bx_editor.specs.declared.scrolling.Scroll.TheVariants.{Least}
use Rattle.bx_session.specs.Session.{Session, after_press, clip_after, counted_key, is_painted_press, painted_after, painting}
use Rattle.bx_session.specs.Session.{scroll_behind, then_clip, unpainted_after_press, unpainted_after_told, StoreState}
use Rattle.bx_session.specs.Session as sessions
use Rattle.bx_session.proofs.Pictures.{then_clip_after}
use Rattle.bx_world.specs.declared.step.Step.{Step}
use Rattle.bx_world.specs.declared.step.Step.TheVariants.{Byte, Window, Told, Send, Read}
use Rattle.bx_world.specs.declared.step.StepFault.{StepFault}
use Rattle.bx_world.specs.declared.step.StepFault.TheVariants as faults
use Rattle.bx_world.specs.World.{World, after_send, StepsTo, PlaysTo, AfterByteStep, AfterToldStep, AfterWindowStep, AfterSendStep}
use Rattle.bx_world.specs.World.{AfterReadStep, press_of}
use Rattle.bx_world.specs.Showing.{unread, picture_of, IsInStep}
use Rattle.bx_world.specs.Reading.{read_at, PlaysReading, is_change, is_window_changed, SeesPromised}
use Rattle.bx_world.proofs.Keys.{press_pending}
use Rattle.bx_world.proofs.Schedules.{will_show}

-- ---- steps that leave line and terminal

-- the session queued something, or nothing
record Queues (old new : World) : Type 0 where
  pub bytes : List ℕ
  pub pending : new.session.pending ≡ old.session.pending ++ bytes
  pub line : new.line ≡ old.line
  pub screen : new.screen ≡ old.screen

no_bytes : (old new : World) → new.session.pending ≡ old.session.pending → new.line ≡ old.line → new.screen ≡ old.screen → Queues old new
no_bytes old new pending line screen = record {
  bytes = [];
  pending = pending ∙ sym (append-nil old.session.pending);
  line = line;
  screen = screen;
}

queued_by_press : (d : Data) (fault : Option StoreFault) (s : Session) (key : Option Key)
    → (bytes : List ℕ) × ((after_press d fault s key).pending ≡ s.pending ++ bytes)
queued_by_press d fault s key = by_painting (is_painted_press s key) where
  u : Session
  u = unpainted_after_press d fault s key

  counts : Option Key
  counts = counted_key s key

  scroll : Scroll
  scroll = scroll_behind s.editor counts

  by_painting : (paints : Bool) → (bytes : List ℕ) × ((if paints then painted_after d scroll u counts else u).pending ≡ s.pending ++ bytes)
  by_painting true =
      let bytes : List ℕ = painting u.known (sessions.picture_of d (scrolled_by d scroll u.editor)) in
      let clip = clip_after u.editor counts in
      (then_clip bytes clip, then_clip_after u.pending bytes clip ∙ ap (λ xs. xs ++ then_clip bytes clip) (press_pending d fault s key))
  by_painting false = ([], press_pending d fault s key ∙ sym (append-nil s.pending))

byte_queues : (d : Data) (fault : Option StoreFault) (old new : World) (b : ℕ) (answer : Result (Unit {0}) StepFault)
    → AfterByteStep d fault old b answer new → Queues old new
byte_queues d fault old new b (Ok done) is =
    let queued = queued_by_press d fault old.session (press_of old b) in
    subst (Queues old) (sym is) (record { bytes = queued.0; pending = queued.1; line = refl; screen = refl })
byte_queues d fault old new b (Err (faults.Session refused.Paint)) is =
    no_bytes old new (ap (λ (w : World). w.session.pending) is.0 ∙ press_pending d fault old.session (press_of old b)) (ap (λ (w : World). w.line) is.0)
    (ap (λ (w : World). w.screen) is.0)
byte_queues d fault old new b (Err (faults.Session refused.Edit)) is =
    no_bytes old new (ap (λ (w : World). w.session.pending) is.0) (ap (λ (w : World). w.line) is.0)
    (ap (λ (w : World). w.screen) is.0)
byte_queues d fault old new b (Err (faults.Session refused.Size)) is = absurd is
byte_queues d fault old new b (Err (faults.Screen _)) is = absurd is
byte_queues d fault old new b (Err faults.Line) is = absurd is

told_queues : (d : Data) (old new : World) (height width : ℕ) (answer : Result (Unit {0}) StepFault)
    → AfterToldStep d old height width answer new → Queues old new
told_queues d old new height width (Ok done) is =
    let u : Session = unpainted_after_told old.session height width in
    subst (Queues old) (sym is.1) (record {
      bytes = painting u.known (sessions.picture_of d (scrolled_by d Least u.editor));
      pending = refl;
      line = refl;
      screen = refl;
    })
told_queues d old new height width (Err (faults.Session refused.Paint)) is =
    no_bytes old new (ap (λ (w : World). w.session.pending) is.1) (ap (λ (w : World). w.line) is.1) (ap (λ (w : World). w.screen) is.1)
told_queues d old new height width (Err (faults.Session refused.Size)) is =
    no_bytes old new (ap (λ (w : World). w.session.pending) is.1) (ap (λ (w : World). w.line) is.1) (ap (λ (w : World). w.screen) is.1)
told_queues d old new height width (Err (faults.Session refused.Edit)) is = absurd is
told_queues d old new height width (Err (faults.Screen fault)) is = absurd is
told_queues d old new height width (Err faults.Line) is = absurd is

-- ---- one step

-- what a step leaves unread is what was unread and is now queued, without what was read; what holds of a terminal that has
-- read that holds of the new one, unless the window got a size
record ReadsOn (holds : Terminal → Type 0) (old new : World) (step : Step) (answer : Result (Unit {0}) StepFault) : Type 0 where
  pub queued : List ℕ
  pub order : unread old ++ queued ≡ read_at old step ++ unread new
  pub seen : is_change step answer ≡ false → IfSome old.screen (λ t. holds (reads t (read_at old step))) → IfSome new.screen holds

none_read : (holds : Terminal → Type 0) (screen : Option Terminal) → IfSome screen (λ t. holds (reads t [])) → IfSome screen holds
none_read holds None h = h
none_read holds (Some t) h = h

queued_order : (old new : World) (q : Queues old new) → unread old ++ q.bytes ≡ unread new
queued_order old new q =
    append_assoc old.line old.session.pending q.bytes
    ∙ ap (λ xs. old.line ++ xs) (sym q.pending)
    ∙ ap (λ xs. xs ++ new.session.pending) (sym q.line)

queued_seen : (holds : Terminal → Type 0) (old new : World) → Queues old new → IfSome old.screen (λ t. holds (reads t [])) → IfSome new.screen holds
queued_seen holds old new q h = subst (λ screen. IfSome screen holds) (sym q.screen) (none_read holds old.screen h)

-- all that is unread stays so
same_order : (old new : World) → unread new ≡ unread old → unread old ++ [] ≡ unread new
same_order old new same = append-nil (unread old) ∙ sym same

failed_seen : (holds : Terminal → Type 0) (screen : Option Terminal) → screen ≡ None → IfSome screen holds
failed_seen holds None is = tt
failed_seen holds (Some t) is = absurd (cc is)

window_reads : (holds : Terminal → Type 0) (old new : World) (height width : ℕ) (answer : Result (Unit {0}) StepFault)
    → AfterWindowStep old height width answer new → ReadsOn holds old new (Window height width) answer
window_reads holds old new height width (Ok done) is = record {
  queued = [];
  order = same_order old new (ap unread is.2);
  seen = λ still. absurd (cc still);
}
window_reads holds old new height width (Err (faults.Screen grid.SizeOutOfRange)) is = record {
  queued = [];
  order = same_order old new (ap unread is.2);
  seen = λ still h. subst (λ screen. IfSome screen holds) (sym (ap (λ (w : World). w.screen) is.2)) (none_read holds old.screen h);
}
window_reads holds old new height width (Err (faults.Screen grid.OutOfMemory)) is = record {
  queued = [];
  order = same_order old new (ap unread is.1);
  seen = λ still h. failed_seen holds new.screen (ap (λ (w : World). w.screen) is.1);
}
window_reads holds old new height width (Err (faults.Session fault)) is = absurd is
window_reads holds old new height width (Err faults.Line) is = absurd is

sent_unread : (w : World) (count : ℕ) → unread (after_send w count) ≡ unread w
sent_unread w count =
    append_assoc w.line (take count w.session.pending) (drop count w.session.pending)
    ∙ ap (λ xs. w.line ++ xs) (take-append-drop count w.session.pending)

send_reads : (holds : Terminal → Type 0) (old new : World) (count : ℕ) (answer : Result (Unit {0}) StepFault)
    → AfterSendStep old count answer new → ReadsOn holds old new (Send count) answer
send_reads holds old new count (Ok done) is = record {
  queued = [];
  order = same_order old new (ap unread is ∙ sent_unread old count);
  seen = λ still h. subst (λ screen. IfSome screen holds) (sym (ap (λ (w : World). w.screen) is)) (none_read holds old.screen h);
}
send_reads holds old new count (Err faults.Line) is = record {
  queued = [];
  order = same_order old new (ap unread is);
  seen = λ still h. subst (λ screen. IfSome screen holds) (sym (ap (λ (w : World). w.screen) is)) (none_read holds old.screen h);
}
send_reads holds old new count (Err (faults.Session fault)) is = absurd is
send_reads holds old new count (Err (faults.Screen fault)) is = absurd is

-- the first bytes of the line, and what is left
read_order : (w : World) (count : ℕ) → unread w ++ [] ≡ take count w.line ++ (drop count w.line ++ w.session.pending)
read_order w count =
    append-nil (unread w)
    ∙ ap (λ xs. xs ++ w.session.pending) (sym (take-append-drop count w.line))
    ∙ append_assoc (take count w.line) (drop count w.line) w.session.pending

read_seen : (holds : Terminal → Type 0) (bytes : List ℕ) (screen : Option Terminal) → IfSome screen (λ t. holds (reads t bytes))
    → IfSome (option_map (λ t. reads t bytes) screen) holds
read_seen holds bytes None h = tt
read_seen holds bytes (Some t) h = h

read_reads : (holds : Terminal → Type 0) (old new : World) (count : ℕ) (answer : Result (Unit {0}) StepFault)
    → AfterReadStep old count answer new → ReadsOn holds old new (Read count) answer
read_reads holds old new count (Ok done) is = record {
  queued = [];
  order = read_order old count ∙ ap (λ (w : World). take count old.line ++ unread w) (sym is.1);
  seen = λ still h. subst (λ screen. IfSome screen holds) (sym (ap (λ (w : World). w.screen) is.1)) (read_seen holds (take count old.line) old.screen h);
}
read_reads holds old new count (Err (faults.Screen grid.OutOfMemory)) is = record {
  queued = [];
  order = read_order old count ∙ ap (λ (w : World). take count old.line ++ unread w) (sym is.1);
  seen = λ still h. failed_seen holds new.screen (ap (λ (w : World). w.screen) is.1);
}
read_reads holds old new count (Err (faults.Screen grid.SizeOutOfRange)) is = absurd is
read_reads holds old new count (Err (faults.Session fault)) is = absurd is
read_reads holds old new count (Err faults.Line) is = absurd is

step_reads : (d : Data) (holds : Terminal → Type 0) (old new : World) (store store' : StoreState) (step : Step) (answer : Result (Unit {0}) StepFault)
    → StepsTo d old store step answer new store' → ReadsOn holds old new step answer
step_reads d holds old new store store' (Byte b) answer is =
    let q = byte_queues d is.0 old new b answer is.2 in
    record { queued = q.bytes; order = queued_order old new q; seen = λ still h. queued_seen holds old new q h }
step_reads d holds old new store store' (Told height width) answer is =
    let q = told_queues d old new height width answer is.0 in
    record { queued = q.bytes; order = queued_order old new q; seen = λ still h. queued_seen holds old new q h }
step_reads d holds old new store store' (Window height width) answer is = window_reads holds old new height width answer is.0
step_reads d holds old new store store' (Send count) answer is = send_reads holds old new count answer is.0
step_reads d holds old new store store' (Read count) answer is = read_reads holds old new count answer is.0

-- ---- a schedule

plays_reading : (d : Data) (old new : World) (store store' : StoreState) (all : List (Step × Result (Unit {0}) StepFault))
    → PlaysTo d old store all new store' → (read : List ℕ) × PlaysReading d old store all new store' read
plays_reading d old new store store' [] played = ([], (played.0, played.1, refl))
plays_reading d old new store store' (s ∷ more) played =
    let others = plays_reading d played.0 new played.1 store' more played.3 in
    (read_at old s.0 ++ others.0, (played.0, played.1, others.0, played.2, refl, others.1))

-- what was unread and is queued in the schedule is what is read, and then what is unread
in_order : (d : Data) (old new : World) (store store' : StoreState) (all : List (Step × Result (Unit {0}) StepFault)) (read : List ℕ)
    → PlaysReading d old store all new store' read → (queued : List ℕ) × (unread old ++ queued ≡ read ++ unread new)
in_order d old new store store' [] read played =
    ([], append-nil (unread old) ∙ ap unread (sym played.0) ∙ ap (λ xs. xs ++ unread new) (sym played.2))
in_order d old new store store' (s ∷ more) read played =
    let mid : World = played.0 in
    let one = step_reads d (λ t. Unit {0}) old mid store played.1 s.0 s.1 played.3 in
    let others = in_order d mid new played.1 store' more played.2 played.5 in
    let first : List ℕ = read_at old s.0 in (
      one.queued ++ others.0,
      sym (append_assoc (unread old) one.queued others.0)
          ∙ ap (λ xs. xs ++ others.0) one.order
          ∙ append_assoc first (unread mid) others.0
          ∙ ap (λ xs. first ++ xs) others.1
          ∙ sym (append_assoc first played.2 (unread new))
          ∙ ap (λ xs. xs ++ unread new) (sym played.4),
    )

neither : (a b : Bool) → a || b ≡ false → (a ≡ false) × (b ≡ false)
neither true b off = absurd (cc off)
neither false b off = (refl, off)

in_two : (holds : Terminal → Type 0) (screen : Option Terminal) (read first others : List ℕ) → read ≡ first ++ others
    → IfSome screen (λ t. holds (reads t read)) → IfSome screen (λ t. holds (reads (reads t first) others))
in_two holds None read first others is h = tt
in_two holds (Some t) read first others is h = subst holds (ap (reads t) is ∙ reads-append t first others) h

seen : (d : Data) (holds : Terminal → Type 0) (old new : World) (store store' : StoreState) (all : List (Step × Result (Unit {0}) StepFault))
    (read : List ℕ) → PlaysReading d old store all new store' read → is_window_changed all ≡ false → IfSome old.screen (λ t. holds (reads t read))
    → IfSome new.screen holds
seen d holds old new store store' [] read played still h =
    subst (λ (w : World). IfSome w.screen holds) (sym played.0)
    (none_read holds old.screen (subst (λ bytes. IfSome old.screen (λ t. holds (reads t bytes))) played.2 h))
seen d holds old new store store' (s ∷ more) read played still h =
    let each = neither (is_change s.0 s.1) (is_window_changed more) still in
    let one = step_reads d (λ t. holds (reads t played.2)) old played.0 store played.1 s.0 s.1 played.3 in
    seen d holds played.0 new played.1 store' more played.2 played.5 each.1
    (one.seen each.0 (in_two holds old.screen read (read_at old s.0) played.2 played.4 h))

-- beginnings of the same length are the same
same_front : (xs ys xs' ys' : List ℕ) → length xs ≡ length ys → ys ++ ys' ≡ xs ++ xs' → xs ≡ ys
same_front xs ys xs' ys' same is =
    sym (take-append_seam xs xs')
    ∙ ap (take (length xs)) (sym is)
    ∙ ap (λ n. take n (ys ++ ys')) same
    ∙ take-append_seam ys ys'

pub sees_promised : (d : Data) (old new : World) (store store' : StoreState) (all : List (Step × Result (Unit {0}) StepFault)) → IsInStep d old
    → PlaysTo d old store all new store' → (read : List ℕ) × PlaysReading d old store all new store' read × SeesPromised d old all read new
sees_promised d old new store store' all was plays =
    let played = plays_reading d old new store store' all plays in
    let read : List ℕ = played.0 in
    let order = in_order d old new store store' all read played.1 in (
      read,
      played.1,
      λ told owed still same.
          seen d (λ t. Shows t (picture_of d old.session)) old new store store' all read played.1 still
          (subst (λ bytes. IfSome old.screen (λ t. Shows (reads t bytes) (picture_of d old.session)))
          (sym (same_front read (unread old) (unread new) order.0 same order.1)) (will_show d old was told owed)),
    )
