-- Steps one after another.
use Rattle.std.proofs.Common.{◌≡◌, ℕ, Bool, true, false, List, [], ◌∷◌, ◌++◌, take, length, ◌+◌, Option, Some, None}
use Rattle.std.proofs.Common.{Result, Ok, Err, refl, sym, ap, subst, ◌∙◌, arith}
use Rattle.std.proofs.Common.{if◌then◌else◌}
use Rattle.std.specs.Prelude.{IfSome, not}
use Rattle.std.specs.List.{zip}
use Rattle.std.proofs.lemmas.List.{length-append}
use Rattle.bx_grid.specs.Picture.{Shows}
use Rattle.bx_grid.specs.Terminal.{Terminal, reads}
use Rattle.bx_grid.specs.declared.error.GridError.TheVariants as grid
use Rattle.bx_store.specs.declared.store.StoreFault.{StoreFault}
use Rattle.bx_ucd.specs.Data.{Data}
use Rattle.bx_editor.specs.Picture.{picture}
use Rattle.bx_keys.specs.declared.key.Key.{Key}
use Rattle.bx_session.specs.Session.{Session, after_press, counted_key, is_painted_press, needs_painting, painted_after}
use Rattle.bx_session.specs.Session.{scroll_behind, session_after_any, unpainted_after_press, StoreState}
use Rattle.bx_session.proofs.Shown.{no_need}
use Rattle.bx_world.specs.declared.step.Step.{Step}
use Rattle.bx_world.specs.declared.step.Step.TheVariants.{Byte, Window, Told, Send, Read}
use Rattle.bx_world.specs.declared.step.StepFault.{StepFault}
use Rattle.bx_world.specs.declared.step.StepFault.TheVariants as faults
use Rattle.bx_world.specs.World.{World, StepsTo, PlaysTo, AfterByteStep, AfterToldStep, AfterWindowStep, AfterSendStep, AfterReadStep}
use Rattle.bx_world.specs.World.{accepted_after, is_last_accepted, press_of}
use Rattle.bx_world.specs.Showing.{AfterAll, IsInStep, WillShow, ShowsWhenRead}

pub will_show : (d : Data) (w : World) → IsInStep d w → WillShow d w
will_show d w was told owed = subst (λ painted. IfSome painted (λ p. AfterAll w (λ t. Shows t p))) (was.state owed).1 (was.follows told)

-- ---- one step more

pub plays_more : (d : Data) (old mid new : World) (store mid_store store' : StoreState) (done : List (Step × Result (Unit {0}) StepFault)) (step : Step)
    (answer : Result (Unit {0}) StepFault) → PlaysTo d old store done mid mid_store → StepsTo d mid mid_store step answer new store'
    → PlaysTo d old store (done ++ (step, answer) ∷ []) new store'
plays_more d old mid new store mid_store store' [] step answer played steps = (
  new,
  store',
  subst (λ s. StepsTo d old s step answer new store') played.1
      (subst (λ w. StepsTo d w mid_store step answer new store') played.0 steps),
  (refl, refl),
)
plays_more d old mid new store mid_store store' (s ∷ done) step answer played steps =
    (played.0, played.1, played.2, plays_more d played.0 mid new played.1 mid_store store' done step answer played.3 steps)

pub zip_push : {A B : Type 0} (xs : List A) (ys : List B) (x : A) (y : B) → length xs ≡ length ys
    → zip (xs ++ x ∷ []) (ys ++ y ∷ []) ≡ zip xs ys ++ (x, y) ∷ []
zip_push [] [] x y same = refl
zip_push [] (b ∷ ys) x y same = absurd (cc same)
zip_push (a ∷ xs) [] x y same = absurd (cc same)
zip_push (a ∷ xs) (b ∷ ys) x y same = ap (λ rest. (a, b) ∷ rest) (zip_push xs ys x y (omega (arith, same)))

-- ---- what is owed

abbrev pub OwesNot : Bool → World → Type 0
OwesNot accepted w = accepted ≡ true → w.session.painting_owed ≡ false

any_owed : (d : Data) (fault : Option StoreFault) (s : Session) (key : Option Key) → (session_after_any d fault s key).painting_owed ≡ s.painting_owed
any_owed d fault s None = refl
any_owed d fault s (Some key) = refl

unpainted_owed : (d : Data) (fault : Option StoreFault) (s : Session) (key : Option Key) → (unpainted_after_press d fault s key).painting_owed ≡ s.painting_owed
unpainted_owed d fault s key = any_owed d fault s (counted_key s key)

pub press_owes : (d : Data) (fault : Option StoreFault) (s : Session) (key : Option Key) → (after_press d fault s key).painting_owed ≡ false
press_owes d fault s key = by_painting (is_painted_press s key) refl where
  u : Session
  u = unpainted_after_press d fault s key

  counts : Option Key
  counts = counted_key s key

  by_painting : (paints : Bool) → is_painted_press s key ≡ paints
      → (if paints then painted_after d (scroll_behind s.editor counts) u counts else u).painting_owed ≡ false
  by_painting true paints = refl
  by_painting false none = unpainted_owed d fault s key ∙ (no_need s.painting_owed (needs_painting s.editor counts) none).0

byte_accepted : (d : Data) (fault : Option StoreFault) (old new : World) (b : ℕ) (answer : Result (Unit {0}) StepFault) → AfterByteStep d fault old b answer new
    → accepted_after true (Byte b) answer ≡ true → new.session.painting_owed ≡ false
byte_accepted d fault old new b (Ok done) is on = ap (λ (w : World). w.session.painting_owed) is ∙ press_owes d fault old.session (press_of old b)
byte_accepted d fault old new b (Err why) is on = absurd (cc on)

told_accepted : (d : Data) (old new : World) (height width : ℕ) (answer : Result (Unit {0}) StepFault) → AfterToldStep d old height width answer new
    → accepted_after true (Told height width) answer ≡ true → new.session.painting_owed ≡ false
told_accepted d old new height width (Ok done) is on = ap (λ (w : World). w.session.painting_owed) is.1
told_accepted d old new height width (Err fault) is on = absurd (cc on)

window_owes : (old new : World) (height width : ℕ) (answer : Result (Unit {0}) StepFault) → AfterWindowStep old height width answer new
    → new.session.painting_owed ≡ old.session.painting_owed
window_owes old new height width (Ok done) is = ap (λ (w : World). w.session.painting_owed) is.2
window_owes old new height width (Err (faults.Screen grid.SizeOutOfRange)) is = ap (λ (w : World). w.session.painting_owed) is.2
window_owes old new height width (Err (faults.Screen grid.OutOfMemory)) is = ap (λ (w : World). w.session.painting_owed) is.1
window_owes old new height width (Err (faults.Session fault)) is = absurd is
window_owes old new height width (Err faults.Line) is = absurd is

send_owes : (old new : World) (count : ℕ) (answer : Result (Unit {0}) StepFault) → AfterSendStep old count answer new
    → new.session.painting_owed ≡ old.session.painting_owed
send_owes old new count (Ok done) is = ap (λ (w : World). w.session.painting_owed) is
send_owes old new count (Err faults.Line) is = ap (λ (w : World). w.session.painting_owed) is
send_owes old new count (Err (faults.Session fault)) is = absurd is
send_owes old new count (Err (faults.Screen fault)) is = absurd is

read_owes : (old new : World) (count : ℕ) (answer : Result (Unit {0}) StepFault) → AfterReadStep old count answer new
    → new.session.painting_owed ≡ old.session.painting_owed
read_owes old new count (Ok done) is = ap (λ (w : World). w.session.painting_owed) is.1
read_owes old new count (Err (faults.Screen grid.OutOfMemory)) is = ap (λ (w : World). w.session.painting_owed) is.1
read_owes old new count (Err (faults.Screen grid.SizeOutOfRange)) is = absurd is
read_owes old new count (Err (faults.Session fault)) is = absurd is
read_owes old new count (Err faults.Line) is = absurd is

step_owes : (d : Data) (before : Bool) (old new : World) (store store' : StoreState) (step : Step) (answer : Result (Unit {0}) StepFault)
    → StepsTo d old store step answer new store' → OwesNot before old → OwesNot (accepted_after before step answer) new
step_owes d before old new store store' (Byte b) answer is owes on = byte_accepted d is.0 old new b answer is.2 on
step_owes d before old new store store' (Told height width) answer is owes on = told_accepted d old new height width answer is.0 on
step_owes d before old new store store' (Window height width) answer is owes on = window_owes old new height width answer is.0 ∙ owes on
step_owes d before old new store store' (Send count) answer is owes on = send_owes old new count answer is.0 ∙ owes on
step_owes d before old new store store' (Read count) answer is owes on = read_owes old new count answer is.0 ∙ owes on

pub accepted_owes_nothing : (d : Data) (before : Bool) (old new : World) (store store' : StoreState) (all : List (Step × Result (Unit {0}) StepFault))
    → PlaysTo d old store all new store' → OwesNot before old → OwesNot (is_last_accepted before all) new
accepted_owes_nothing d before old new store store' [] played owes on = ap (λ (w : World). w.session.painting_owed) played.0 ∙ owes on
accepted_owes_nothing d before old new store store' (s ∷ more) played owes on =
    accepted_owes_nothing d (accepted_after before s.0 s.1) played.0 new played.1 store' more played.3
    (step_owes d before old played.0 store played.1 s.0 s.1 played.2 owes) on

pub owed_not : (owed : Bool) → not owed ≡ true → owed ≡ false
owed_not false h = refl
owed_not true h = absurd (cc h)

-- what a schedule shows, where the last call was not refused, the size was told and all is read
pub shows_when_read : (d : Data) (old new : World) (store store' : StoreState) (all : List (Step × Result (Unit {0}) StepFault))
    → PlaysTo d old store all new store' → IsInStep d new
    → ShowsWhenRead (is_last_accepted (not old.session.painting_owed) all) d new
shows_when_read d old new store store' all played was accepted told line pending =
    let owes = accepted_owes_nothing d (not old.session.painting_owed) old new store store' all played (owed_not old.session.painting_owed) accepted in
    now new.screen
    (subst (λ bytes. IfSome new.screen (λ t. Shows (reads t bytes) (picture d new.session.editor new.session.editor.top)))
    nothing (will_show d new was told owes)) where
      nothing : new.line ++ new.session.pending ≡ []
      nothing = rw (line, pending) refl

      now : (screen : Option Terminal) → IfSome screen (λ t. Shows (reads t []) (picture d new.session.editor new.session.editor.top))
          → IfSome screen (λ t. Shows t (picture d new.session.editor new.session.editor.top))
      now None h = h
      now (Some t) h = h

-- ---- a schedule as far as it is played

pub record Played (d : Data) (old : World) (store : StoreState) (steps : List Step) (count : ℕ) (new : World) (store' : StoreState)
    (answers : List (Result (Unit {0}) StepFault)) : Type 0 where
  pub same_length : length (take count steps) ≡ length answers
  pub plays : PlaysTo d old store (zip (take count steps) answers) new store'

pub one_played : {D : Type 0} (ucd : D → Data) (tables tables' : D) (old mid new : World) (store mid_store store' : StoreState) (steps : List Step) (count : ℕ)
    (step : Step) (answers answers' : List (Result (Unit {0}) StepFault)) (answer : Result (Unit {0}) StepFault) → tables' ≡ tables
    → Played (ucd tables) old store steps count mid mid_store answers → take (count + 1) steps ≡ take count steps ++ step ∷ []
    → StepsTo (ucd tables') mid mid_store step answer new store' → answers' ≡ answers ++ answer ∷ []
    → Played (ucd tables) old store steps (count + 1) new store' answers'
one_played {D} ucd tables tables' old mid new store mid_store store' steps count step answers answers' answer same was more steps_to pushed =
    let all : zip (take (count + 1) steps) answers' ≡ zip (take count steps) answers ++ (step, answer) ∷ [] =
    ap (λ xs. zip xs answers') more ∙ ap (λ ys. zip (take count steps ++ step ∷ []) ys) pushed
    ∙ zip_push (take count steps) answers step answer was.same_length in
    let now : StepsTo (ucd tables) mid mid_store step answer new store' =
    subst (λ (t : D). StepsTo (ucd t) mid mid_store step answer new store') same steps_to in record {
      same_length = ap length more ∙ length-append (take count steps) (step ∷ []) ∙ ap (λ n. n + 1) was.same_length
          ∙ sym (length-append answers (answer ∷ [])) ∙ sym (ap length pushed);
      plays = subst (λ x. PlaysTo (ucd tables) old store x new store') (sym all)
          (plays_more (ucd tables) old mid new store mid_store store' (zip (take count steps) answers) step answer was.plays now);
    }

pub schedule_shows : {D : Type 0} (ucd : D → Data) (tables tables' : D) (old new : World) (store store' : StoreState)
    (all : List (Step × Result (Unit {0}) StepFault)) → tables' ≡ tables → PlaysTo (ucd tables) old store all new store' → IsInStep (ucd tables') new
    → ShowsWhenRead (is_last_accepted (not old.session.painting_owed) all) (ucd tables') new
schedule_shows {D} ucd tables tables' old new store store' all same played was =
    shows_when_read (ucd tables') old new store store' all (subst (λ (t : D). PlaysTo (ucd t) old store all new store') (sym same) played) was
