-- The steps of a run among steps of the window and the terminal.
use Rattle.std.proofs.Common.{◌≡◌, ℕ, Bool, true, false, List, [], ◌∷◌, ◌++◌, drop, length, Option, Some, None, Result, Ok, Err}
use Rattle.std.proofs.Common.{refl, sym, ap, subst, ◌∙◌, append_assoc, if◌then◌else◌}
use Rattle.std.specs.Prelude.{IsSome, OnOk, not, option_map}
use Rattle.std.specs.List.{AllByRecursion, filter}
use Rattle.std.proofs.Math.Seq.{drop-append_seam}
use Rattle.bx_grid.specs.declared.error.GridError.TheVariants as grid
use Rattle.bx_grid.specs.Picture.{is_size}
use Rattle.bx_grid.specs.Terminal.{Terminal}
use Rattle.bx_keys.specs.Keys.{head_of, key_after, rest_after}
use Rattle.bx_keys.specs.declared.key.Key.{Key}
use Rattle.bx_ucd.specs.Data.{Data}
use Rattle.bx_session.specs.declared.status.Refused.{Refused}
use Rattle.bx_session.specs.declared.status.Status.{Status}
use Rattle.bx_session.specs.Session.{Session, counted_key, is_painted_press, after_sending, StoreState}
use Rattle.bx_session.specs.Feeding.{Presses}
use Rattle.bx_session.specs.Inputs.{presses_from, rest_from}
use Rattle.bx_session.specs.Painting.{PressPaints}
use Rattle.bx_session.specs.Running.{PressAnswer, PressesAll, Turn, TakesTurns, InTurns, AreTyped, presses_in}
use Rattle.bx_world.specs.declared.step.Step.{Step}
use Rattle.bx_world.specs.declared.step.Step.TheVariants.{Byte, Window, Told, Send, Read}
use Rattle.bx_world.specs.declared.step.StepFault.{StepFault}
use Rattle.bx_world.specs.declared.step.StepFault.TheVariants as faults
use Rattle.bx_world.specs.Answers.{answer_of, mark_after}
use Rattle.bx_world.specs.World.{World, press_of, told_after_key, after_window, after_send, after_read, StepsTo, PlaysTo, AfterWindowStep}
use Rattle.bx_world.specs.World.{AfterSendStep, AfterReadStep}
use Rattle.bx_world.specs.Showing.{IsInStep}
use Rattle.bx_world.specs.Runs.{Schedule, steps_of_bytes, steps_of_turns, steps_of_run, is_outside, outside_answer}
use Rattle.bx_world.proofs.Calls.{byte_steps, byte_in_step}
use Rattle.bx_world.proofs.Steps as steps

abbrev pub ok : Result (Unit {0}) StepFault
ok = Ok tt

-- ---- a run's own steps, of session, waiting input and store alone

abbrev pub OwnStep : Data → List ℕ → Session → StoreState → Step → Result (Unit {0}) StepFault → Session → StoreState → Type 0
OwnStep d rest old store (Byte b) answer new store' =
    (a : Result Status Refused) × (answer ≡ answer_of a) × Presses d old store (key_after rest b) a new store'
    × (is_painted_press old (key_after rest b) ≡ true → OnOk a (PressPaints d old (key_after rest b) new))
OwnStep d rest old store (Send count) answer new store' = (answer ≡ Ok tt) × (new ≡ after_sending old count) × (store' ≡ store)
OwnStep d rest old store (Told height width) answer new store' = ⊥
OwnStep d rest old store (Window height width) answer new store' = ⊥
OwnStep d rest old store (Read count) answer new store' = ⊥

-- what waits after a step
abbrev pub rest_behind : List ℕ → Step → List ℕ
rest_behind rest (Byte b) = head_of (rest_after rest b)
rest_behind rest (Send count) = rest
rest_behind rest (Told height width) = rest
rest_behind rest (Window height width) = rest
rest_behind rest (Read count) = rest

abbrev pub OwnPlays : Data → List ℕ → Session → StoreState → Schedule → Session → StoreState → Type 0
OwnPlays d rest old store [] new store' = (new ≡ old) × (store' ≡ store)
OwnPlays d rest old store (s ∷ more) new store' =
    (mid : Session) × (mid_store : StoreState) × OwnStep d rest old store s.0 s.1 mid mid_store
    × OwnPlays d (rest_behind rest s.0) mid mid_store more new store'

-- the first press of bytes, and those of the others
pub first_press : {key : Option Key} {keys : List (Option Key)} (rest : List ℕ) (b : ℕ) (bs : List ℕ) → key ∷ keys ≡ presses_from rest (b ∷ bs)
    → (key ≡ key_after rest b) × (keys ≡ presses_from (head_of (rest_after rest b)) bs)
first_press rest b bs is = (cc is, cc is)

own_presses : (d : Data) (rest : List ℕ) (old all new : Session) (store mid_store store' : StoreState) (bytes : List ℕ) (answered : List PressAnswer)
    (more : Schedule) → presses_in answered ≡ presses_from rest bytes → PressesAll d old store answered all mid_store
    → OwnPlays d (rest_from rest bytes) all mid_store more new store'
    → OwnPlays d rest old store (steps_of_bytes bytes answered ++ more) new store'
own_presses d rest old all new store mid_store store' [] [] more typed feeds plays =
    subst (λ (x : Session). OwnPlays d rest x store more new store') feeds.0
    (subst (λ (x : StoreState). OwnPlays d rest all x more new store') feeds.1 plays)
own_presses d rest old all new store mid_store store' [] (a ∷ answered) more typed feeds plays = absurd (cc typed)
own_presses d rest old all new store mid_store store' (b ∷ bytes) [] more typed feeds plays = absurd (cc typed)
own_presses d rest old all new store mid_store store' (b ∷ bytes) (a ∷ answered) more typed feeds plays =
    let first = first_press rest b bytes typed in (
      feeds.0,
      feeds.1,
      (
        a.1,
        refl,
        subst (λ (key : Option Key). Presses d old store key a.1 feeds.0 feeds.1) first.0 feeds.3,
        subst (λ (key : Option Key). is_painted_press old key ≡ true → OnOk a.1 (PressPaints d old key feeds.0)) first.0 feeds.4,
      ),
      own_presses d (head_of (rest_after rest b)) feeds.0 all new feeds.1 mid_store store' bytes answered more first.1 feeds.5 plays,
    )

-- what goes out leaves what is pending then
goes_out : (old new : Session) (written : List ℕ) → old.pending ≡ written ++ new.pending → new ≡ record old { pending = new.pending }
    → new ≡ after_sending old (length written)
goes_out old new written order is =
    is ∙ ap (λ (q : List ℕ). record old { pending = q }) (sym (ap (drop (length written)) order ∙ drop-append_seam written new.pending))

own_turns : (d : Data) (rest : List ℕ) (old new : Session) (store store' : StoreState) (turns : List Turn) → TakesTurns d old store turns new store'
    → AreTyped rest turns → OwnPlays d rest old store (steps_of_turns turns) new store'
own_turns d rest old new store store' [] takes typed = takes
own_turns d rest old new store store' (turn ∷ more) takes typed =
    let first = steps_of_bytes turn.typed turn.pressed in
    let last : Step × Result (Unit {0}) StepFault = (Send (length turn.written), Ok tt) in
    let others = own_turns d (rest_from rest turn.typed) takes.0 new takes.1 store' more takes.5 typed.1 in
    subst (λ (xs : Schedule). OwnPlays d rest old store xs new store') (sym (append_assoc first (last ∷ []) (steps_of_turns more)))
    (own_presses d rest old takes.2 new store takes.1 store' turn.typed turn.pressed (last ∷ steps_of_turns more) typed.0 takes.4.feeds
    (takes.0, takes.1, (refl, goes_out takes.2 takes.0 turn.written takes.4.order takes.4.session, refl), others))

pub own_run : (d : Data) (rest : List ℕ) (old new : Session) (store store' : StoreState) (typed : List ℕ) (answered : List PressAnswer)
    (dropped written : List ℕ) (run : InTurns d rest old new store store' typed answered dropped written)
    → OwnPlays d rest old store (steps_of_run run) new store'
own_run d rest old new store store' typed answered dropped written run = (
  run.begun,
  store,
  (refl, goes_out old run.begun run.first run.first_order run.begins, refl),
  own_turns d rest run.begun new store store' run.turns run.takes run.are_typed,
)

-- ---- all of a run's steps are its own

abbrev pub is_own : Step → Bool
is_own (Byte b) = true
is_own (Send count) = true
is_own (Told height width) = false
is_own (Window height width) = false
is_own (Read count) = false

own_typed : (bytes : List ℕ) (answered : List PressAnswer) (more : Schedule) → AllByRecursion (λ s. is_own s.0 ≡ true) more
    → AllByRecursion (λ s. is_own s.0 ≡ true) (steps_of_bytes bytes answered ++ more)
own_typed [] answered more are = are
own_typed (b ∷ bytes) [] more are = are
own_typed (b ∷ bytes) (a ∷ answered) more are = (refl, own_typed bytes answered more are)

are_own_turns : (turns : List Turn) → AllByRecursion (λ s. is_own s.0 ≡ true) (steps_of_turns turns)
are_own_turns [] = tt
are_own_turns (turn ∷ more) =
    let first = steps_of_bytes turn.typed turn.pressed in
    let last : Step × Result (Unit {0}) StepFault = (Send (length turn.written), Ok tt) in
    subst (λ (xs : Schedule). AllByRecursion (λ s. is_own s.0 ≡ true) xs) (sym (append_assoc first (last ∷ []) (steps_of_turns more)))
    (own_typed turn.typed turn.pressed (last ∷ steps_of_turns more) (refl, are_own_turns more))

pub are_own : (d : Data) (rest : List ℕ) (old new : Session) (store store' : StoreState) (typed : List ℕ) (answered : List PressAnswer)
    (dropped written : List ℕ) (run : InTurns d rest old new store store' typed answered dropped written)
    → AllByRecursion (λ s. is_own s.0 ≡ true) (steps_of_run run)
are_own d rest old new store store' typed answered dropped written run = (refl, are_own_turns run.turns)

-- ---- among others

pub live_map : (screen : Option Terminal) (f : Terminal → Terminal) → IsSome screen → IsSome (option_map f screen)
live_map None f live = live
live_map (Some t) f live = refl

-- what a schedule comes to in which a run's steps stand among others
pub record Woven (d : Data) (old : World) (store : StoreState) (schedule : Schedule) (s : Session) (store' : StoreState) : Type 0 where
  pub new : World
  pub plays : PlaysTo d old store schedule new store'
  pub session : new.session ≡ s
  pub live : IsSome new.screen
  pub in_step : IsInStep d new

-- a step, and then the others
before : (d : Data) (old mid : World) (store mid_store store' : StoreState) (step : Step) (answer : Result (Unit {0}) StepFault) (more : Schedule)
    (s : Session) → StepsTo d old store step answer mid mid_store → Woven d mid mid_store more s store' → Woven d old store ((step, answer) ∷ more) s store'
before d old mid store mid_store store' step answer more s steps_to others = record {
  new = others.new;
  plays = (mid, mid_store, steps_to, others.plays);
  session = others.session;
  live = others.live;
  in_step = others.in_step;
}

pub woven : (d : Data) (w : World) (store store' : StoreState) (schedule : Schedule) (s : Session)
    → OwnPlays d w.rest w.session store (filter (λ x. not (is_outside x.0)) schedule) s store'
    → AllByRecursion (λ x. is_outside x.0 ≡ true → x.1 ≡ outside_answer x.0) schedule → IsSome w.screen → IsInStep d w
    → Woven d w store schedule s store'
woven d w store store' [] s plays answers live was = record {
  new = w;
  plays = (refl, plays.1);
  session = sym plays.0;
  live = live;
  in_step = was;
}
woven d w store store' ((Byte b, answer) ∷ more) s plays answers live was =
    let key : Option Key = press_of w b in
    let rest : List ℕ = head_of (rest_after w.rest b) in
    let told : Bool = mark_after w.told (told_after_key w (counted_key w.session key)) plays.2.0 in
    let next : World = record w { session = plays.0; rest = rest; told = told } in
    before d w next store plays.1 store' (Byte b) answer more s
    (byte_steps d w plays.0 rest store plays.1 b key plays.2.0 answer told refl refl plays.2.1 refl plays.2.2)
    (woven d next plays.1 store' more s plays.3 answers.1 live (byte_in_step d w plays.0 rest store plays.1 key plays.2.0 was plays.2.2 plays.2.3))
woven d w store store' ((Send count, answer) ∷ more) s plays answers live was =
    let next : World = after_send w count in
    before d w next store plays.1 store' (Send count) answer more s
    (subst (λ (a : Result (Unit {0}) StepFault). AfterSendStep w count a next) (sym plays.2.0) refl, plays.2.2)
    (woven d next plays.1 store' more s
    (subst (λ (x : Session). OwnPlays d w.rest x plays.1 (filter (λ x. not (is_outside x.0)) more) s store') plays.2.1 plays.3)
    answers.1 live (steps.sent d w count was))
woven d w store store' ((Window height width, answer) ∷ more) s plays answers live was =
    by_size (is_size height width) refl
    (woven d (after_window w height width) store store' more s plays answers.1 (live_map w.screen _ live) (steps.resized d w height width was))
    (woven d w store store' more s plays answers.1 live was) where
      by_size : (sized : Bool) → is_size height width ≡ sized → Woven d (after_window w height width) store more s store' → Woven d w store more s store'
          → Woven d w store ((Window height width, answer) ∷ more) s store'
      by_size true sized changed same =
          let next : World = after_window w height width in
          let is : answer ≡ Ok tt = answers.0 refl
          ∙ ap (λ (b : Bool). if b then ok else Err (faults.Screen grid.SizeOutOfRange)) sized in
          before d w next store store store' (Window height width) answer more s
          (subst (λ (a : Result (Unit {0}) StepFault). AfterWindowStep w height width a next) (sym is) (sized, live, refl), refl)
          changed
      by_size false other changed same =
          let is : answer ≡ Err (faults.Screen grid.SizeOutOfRange) = answers.0 refl
          ∙ ap (λ (b : Bool). if b then ok else Err (faults.Screen grid.SizeOutOfRange)) other in
          before d w w store store store' (Window height width) answer more s
          (subst (λ (a : Result (Unit {0}) StepFault). AfterWindowStep w height width a w) (sym is) (other, live, refl), refl)
          same
woven d w store store' ((Read count, answer) ∷ more) s plays answers live was =
    let next : World = after_read w count in
    before d w next store store store' (Read count) answer more s
    (subst (λ (a : Result (Unit {0}) StepFault). AfterReadStep w count a next) (sym (answers.0 refl)) ((λ some. live), refl), refl)
    (woven d next store store' more s plays answers.1 (live_map w.screen _ live) (steps.received d w count was))
woven d w store store' ((Told height width, answer) ∷ more) s plays answers live was = absurd plays.2
