-- Runs, as plays.
use Rattle.std.proofs.Common.{◌≡◌, ℕ, Bool, true, List, [], ◌∷◌, ◌++◌, take, drop, length, Option, Some, None, Result, Ok}
use Rattle.std.proofs.Common.{refl, sym, ap, subst, ◌∙◌, arith}
use Rattle.std.specs.Prelude.{IfSome, IsSome, ◌&&◌, ◌==◌, option_map}
use Rattle.std.specs.List.{AllByRecursion}
use Rattle.std.proofs.Math.Seq.{take-append_seam, drop-append_seam}
use Rattle.std.proofs.lemmas.Bool.Decides.{nat_tests}
use Rattle.std.proofs.lemmas.List.{append_assoc, append-nil}
use Rattle.bx_grid.specs.Picture.{Shows}
use Rattle.bx_grid.specs.Terminal.{Terminal, reads}
use Rattle.bx_keys.specs.Keys.{head_of, rest_after}
use Rattle.bx_ucd.specs.Data.{Data}
use Rattle.bx_editor.specs.Editor.{Editor}
use Rattle.bx_editor.specs.Picture.{picture}
use Rattle.bx_session.specs.Session.{Session, counted_key, StoreState}
use Rattle.bx_session.specs.Inputs.{presses_from, rest_from}
use Rattle.bx_session.specs.Running.{PressAnswer, PressesAll, Turn, TakesTurns, AreTyped, presses_in, typed_in, written_in}
use Rattle.bx_session.specs.Beginning.{Beginning, begun}
use Rattle.bx_session.proofs.Typing.{rest_from_both}
use Rattle.bx_world.specs.declared.step.Step.{Step}
use Rattle.bx_world.specs.declared.step.Step.TheVariants.{Byte, Window, Told, Send, Read}
use Rattle.bx_world.specs.declared.step.StepFault.{StepFault}
use Rattle.bx_world.specs.Answers.{answer_of, mark_after}
use Rattle.bx_world.specs.World.{World, told_after_key, after_send, after_read, PlaysTo, StepsTo, accepted_after, is_last_accepted}
use Rattle.bx_world.specs.Showing.{IsInStep}
use Rattle.bx_world.specs.Events.{after_events}
use Rattle.bx_world.specs.Runs.{Schedule, steps_of_bytes, steps_of_turn, steps_of_turns, steps_of_run, begins_at, RunsInWindow}
use Rattle.bx_world.specs.Laws.{IsAfterRun, TurnsArePlays, RunsArePlays, HeadlineInChangingWindows, HeadlineOfRuns}
use Rattle.bx_world.proofs.Begun.{begun_at}
use Rattle.bx_world.proofs.Calls.{byte_steps, byte_in_step}
use Rattle.bx_world.proofs.Fits.{Fits, fits, is_still, plays_fit}
use Rattle.bx_world.proofs.Opened.{headline_behind}
use Rattle.bx_world.proofs.Schedules.{plays_more}
use Rattle.bx_world.proofs.Steps as steps
use Rattle.bx_world.proofs.Woven.{OwnPlays, ok, first_press, is_own, are_own, own_run, woven}

-- ---- bytes

-- the session went on, what waits of the input, and maybe the mark of the last telling
record GoesOn (d : Data) (old : World) (rest : List ℕ) (s : Session) (new : World) : Type 0 where
  pub is : new ≡ record old { session = s; rest = rest; told = new.told }
  pub in_step : IsInStep d old → IsInStep d new

presses_play : (d : Data) (old : World) (store : StoreState) (bytes : List ℕ) (answered : List PressAnswer) (s : Session) (store' : StoreState)
    → presses_in answered ≡ presses_from old.rest bytes → PressesAll d old.session store answered s store'
    → (new : World) × PlaysTo d old store (steps_of_bytes bytes answered) new store' × GoesOn d old (rest_from old.rest bytes) s new
presses_play d old store [] [] s store' typed feeds =
    (old, (refl, feeds.1), record { is = ap (λ (x : Session). record old { session = x }) (sym feeds.0); in_step = λ was. was })
presses_play d old store [] (a ∷ answered) s store' typed feeds = absurd (cc typed)
presses_play d old store (b ∷ bytes) [] s store' typed feeds = absurd (cc typed)
presses_play d old store (b ∷ bytes) (a ∷ answered) s store' typed feeds =
    let first = first_press old.rest b bytes typed in
    let rest : List ℕ = head_of (rest_after old.rest b) in
    let told : Bool = mark_after old.told (told_after_key old (counted_key old.session a.0)) a.1 in
    let mid : World = record old { session = feeds.0; rest = rest; told = told } in
    let others = presses_play d mid feeds.1 bytes answered s store' first.1 feeds.5 in (
      others.0,
      (mid, feeds.1, byte_steps d old feeds.0 rest store feeds.1 b a.0 a.1 (answer_of a.1) told refl first.0 refl refl feeds.3, others.1),
      record {
        is = others.2.is;
        in_step = λ was. others.2.in_step (byte_in_step d old feeds.0 rest store feeds.1 a.0 a.1 was feeds.3 feeds.4);
      },
    )

-- ---- turns

pub turns_are_plays : TurnsArePlays
turns_are_plays d old s store store' turn all takes typed =
    let first = presses_play d old store turn.typed turn.pressed all store' typed takes.feeds in
    let mid : World = first.0 in
    let is : mid.session ≡ all = ap (λ (w : World). w.session) first.2.is in
    let pending : mid.session.pending ≡ turn.written ++ s.pending = ap (λ (x : Session). x.pending) is ∙ takes.order in
    let count : ℕ = length turn.written in
    let new : World = after_send mid count in (
      new,
      plays_more d old mid new store store' store' (steps_of_bytes turn.typed turn.pressed) (Send count) (Ok tt) first.1 (refl, refl),
      record {
        session = ap (λ xs. record mid.session { pending = xs }) (ap (drop count) pending ∙ drop-append_seam turn.written s.pending)
            ∙ ap (λ (x : Session). record x { pending = s.pending }) is
            ∙ sym takes.session;
        rest = ap (λ (w : World). w.rest) first.2.is;
        line = ap (λ xs. mid.line ++ xs) (ap (take count) pending ∙ take-append_seam turn.written s.pending)
            ∙ ap (λ (w : World). w.line ++ turn.written) first.2.is;
        height = ap (λ (w : World). w.height) first.2.is;
        width = ap (λ (w : World). w.width) first.2.is;
        screen = ap (λ (w : World). w.screen) first.2.is;
        in_step = λ was. steps.sent d mid count (first.2.in_step was);
      },
    )

plays_both : (d : Data) (old mid new : World) (store mid_store store' : StoreState) (first others : List (Step × Result (Unit {0}) StepFault))
    → PlaysTo d old store first mid mid_store → PlaysTo d mid mid_store others new store' → PlaysTo d old store (first ++ others) new store'
plays_both d old mid new store mid_store store' [] others a b =
    subst (λ (w : World). PlaysTo d w store others new store') a.0 (subst (λ (x : StoreState). PlaysTo d mid x others new store') a.1 b)
plays_both d old mid new store mid_store store' (s ∷ first) others a b =
    (a.0, a.1, a.2, plays_both d a.0 mid new a.1 mid_store store' first others a.3 b)

-- what goes out leaves session and line so
goes_out : (d : Data) (old : World) (store : StoreState) (s : Session) (written : List ℕ) → old.session.pending ≡ written ++ s.pending
    → s ≡ record old.session { pending = s.pending }
    → (new : World) × StepsTo d old store (Send (length written)) ok new store × IsAfterRun d old old.rest s written new
goes_out d old store s written order is =
    let new : World = after_send old (length written) in (
      new,
      (refl, refl),
      record {
        session = ap (λ xs. record old.session { pending = xs }) (ap (drop (length written)) order ∙ drop-append_seam written s.pending) ∙ sym is;
        rest = refl;
        line = ap (λ xs. old.line ++ xs) (ap (take (length written)) order ∙ take-append_seam written s.pending);
        height = refl;
        width = refl;
        screen = refl;
        in_step = λ was. steps.sent d old (length written) was;
      },
    )

after_turns : (d : Data) (old : World) (store : StoreState) (turns : List Turn) (s : Session) (store' : StoreState)
    → TakesTurns d old.session store turns s store' → AreTyped old.rest turns
    → (new : World) × PlaysTo d old store (steps_of_turns turns) new store' × IsAfterRun d old (rest_from old.rest (typed_in turns)) s (written_in turns) new
after_turns d old store [] s store' takes typed = (
  old,
  (refl, takes.1),
  record {
    session = sym takes.0;
    rest = refl;
    line = sym (append-nil old.line);
    height = refl;
    width = refl;
    screen = refl;
    in_step = λ was. was;
  },
)
after_turns d old store (turn ∷ more) s store' takes typed =
    let one = turns_are_plays d old takes.0 store takes.1 turn takes.2 takes.4 typed.0 in
    let mid : World = one.0 in
    let others = after_turns d mid takes.1 more s store'
    (subst (λ (x : Session). TakesTurns d x takes.1 more s store') (sym one.2.session) takes.5)
    (subst (λ (rest : List ℕ). AreTyped rest more) (sym one.2.rest) typed.1) in (
      others.0,
      plays_both d old mid others.0 store takes.1 store' (steps_of_turn turn) (steps_of_turns more) one.1 others.1,
      record {
        session = others.2.session;
        rest = others.2.rest
            ∙ ap (λ rest. rest_from rest (typed_in more)) one.2.rest
            ∙ sym (rest_from_both old.rest turn.typed (typed_in more));
        line = others.2.line
            ∙ ap (λ xs. xs ++ written_in more) one.2.line
            ∙ append_assoc old.line turn.written (written_in more);
        height = others.2.height ∙ one.2.height;
        width = others.2.width ∙ one.2.width;
        screen = others.2.screen ∙ one.2.screen;
        in_step = λ was. others.2.in_step (one.2.in_step was);
      },
    )

pub runs_are_plays : RunsArePlays
runs_are_plays d old rest s store store' reader reader' writer writer' typed answered dropped written all run =
    let turns = run.in_turns in
    let first = goes_out d old store turns.begun turns.first turns.first_order turns.begins in
    let others = after_turns d first.0 store turns.turns s store'
    (subst (λ (x : Session). TakesTurns d x store turns.turns s store') (sym first.2.session) turns.takes)
    (subst (λ (waits : List ℕ). AreTyped waits turns.turns) (sym first.2.rest) turns.are_typed) in (
      others.0,
      (first.0, store, first.1, others.1),
      record {
        session = others.2.session;
        rest = others.2.rest
            ∙ ap (λ waits. rest_from waits (typed_in turns.turns)) first.2.rest
            ∙ ap (rest_from old.rest) turns.types
            ∙ sym run.waits;
        line = others.2.line
            ∙ ap (λ xs. xs ++ written_in turns.turns) first.2.line
            ∙ append_assoc old.line turns.first (written_in turns.turns)
            ∙ ap (λ xs. old.line ++ xs) turns.wrote;
        height = others.2.height ∙ first.2.height;
        width = others.2.width ∙ first.2.width;
        screen = others.2.screen ∙ first.2.screen;
        in_step = λ was. others.2.in_step (first.2.in_step was);
      },
    )

-- ---- a run in a window that changes

the_terminal : (screen : Option Terminal) → IsSome screen → (t : Terminal) × (screen ≡ Some t)
the_terminal None live = absurd (cc live)
the_terminal (Some t) live = (t, refl)

-- a schedule from where a run begins, which ends in step with the run's session
in_window : (d : Data) (b : Beginning) (s : Session) (store store' : StoreState) (t : Terminal) (schedule : Schedule) (new : World)
    → PlaysTo d (begins_at (rest_from [] b.journal) (begun d b) t) store schedule new store' → IsInStep d new → new.session ≡ s → IsSome new.screen
    → RunsInWindow d b (begun d b) s store store' t schedule
in_window d b s store store' t schedule new plays was is live =
    let start : World = begins_at (rest_from [] b.journal) (begun d b) t in
    let found = headline_behind d b.journal start new store store' schedule plays was refl refl refl in
    let shown = the_terminal new.screen live in
    let e = after_events d (begun d b).editor found.0 in record {
      new = new;
      events = found.0;
      terminal = shown.0;
      plays = plays;
      session = is;
      screen = shown.1;
      headline = found.1;
      shows = λ accepted told line pending.
          subst (λ (x : Session). Shows shown.0 (picture d e x.editor.top)) is
          (subst (λ (screen : Option Terminal). IfSome screen (λ u. Shows u (picture d e new.session.editor.top))) shown.1
          (found.1.shows accepted told line (ap (λ (x : Session). x.pending) is ∙ pending)));
    }

pub headline_in_changing_windows : HeadlineInChangingWindows
headline_in_changing_windows d b rest s store store' reader reader' writer writer' typed answered dropped written all begins run t schedule idle among =
    let waits = rest_from [] b.journal in
    let plays = own_run d waits (begun d b) s store store' typed answered dropped written run.in_turns in
    let all_steps = woven d (begins_at waits (begun d b) t) store store' schedule s
    (subst (λ (xs : Schedule). OwnPlays d waits (begun d b) store xs s store') (sym among.own) plays) among.outside refl (begun_at d b waits t idle begins) in
    in_window d b s store store' t schedule all_steps.new all_steps.plays all_steps.in_step all_steps.session all_steps.live

-- ---- a run in a window that keeps its size

drop_all : (xs : List ℕ) → drop (length xs) xs ≡ []
drop_all xs = ap (drop (length xs)) (sym (append-nil xs)) ∙ drop-append_seam xs []

take_all : (xs : List ℕ) → take (length xs) xs ≡ xs
take_all xs = ap (take (length xs)) (sym (append-nil xs)) ∙ take-append_seam xs []

still_at : (step : Step) → is_own step ≡ true → is_still step ≡ true
still_at (Byte b) own = refl
still_at (Send count) own = refl
still_at (Told height width) own = absurd (cc own)
still_at (Window height width) own = absurd (cc own)
still_at (Read count) own = absurd (cc own)

still_all : (all more : Schedule) → AllByRecursion (λ x. is_own x.0 ≡ true) all → AllByRecursion (λ x. is_still x.0 ≡ true) more
    → AllByRecursion (λ x. is_still x.0 ≡ true) (all ++ more)
still_all [] more own others = others
still_all (s ∷ all) more own others = (still_at s.0 own.0, still_all all more own.1 others)

same_is : (a : ℕ) → a == a ≡ true
same_is a = grind (arith, nat_tests)

both_same : (a b : ℕ) → (a == a) && (b == b) ≡ true
both_same a b = rw (same_is a, same_is b) refl

-- where no size was told but the window's own, it counts as told
told_at : (t : Terminal) (e : Editor) → t.height ≡ e.height → t.width ≡ e.width → fits t.height t.width e ≡ true
told_at t e height width = rw (height, width) (both_same e.height e.width)

accepted_more : (before : Bool) (all : Schedule) (count : ℕ) → is_last_accepted before (all ++ (Read count, Ok tt) ∷ []) ≡ is_last_accepted before all
accepted_more before [] count = refl
accepted_more before (s ∷ all) count = accepted_more (accepted_after before s.0 s.1) all count

pub headline_of_runs : HeadlineOfRuns
unfolding in_window
headline_of_runs d b rest s store store' reader reader' writer writer' typed answered dropped written all begins run t idle =
    let waits = rest_from [] b.journal in
    let start : World = begins_at waits (begun d b) t in
    let own = steps_of_run run.in_turns in
    let played = runs_are_plays d start rest s store store' reader reader' writer writer' typed answered dropped written all run in
    let mid : World = played.0 in
    let count : ℕ = length written in
    let new : World = after_read mid count in
    let screen : mid.screen ≡ Some t = played.2.screen in
    let live : IsSome mid.screen = subst (λ (x : Option Terminal). IsSome x) (sym screen) refl in
    let steps_to = own ++ (Read count, Ok tt) ∷ [] in
    let plays = plays_more d start mid new store store' store' own (Read count) (Ok tt) played.1 (((λ some. live), refl), refl) in
    let was = steps.received d mid count (played.2.in_step (begun_at d b waits t idle begins)) in
    let shown : new.screen ≡ Some (reads t written) =
    ap (λ (x : Option Terminal). option_map (λ u. reads u (take count mid.line)) x) screen
    ∙ ap (λ (xs : List ℕ). Some (reads t xs)) (ap (take count) played.2.line ∙ take_all written) in
    let found = in_window d b s store store' t steps_to new plays was played.2.session (subst (λ (x : Option Terminal). IsSome x) (sym shown) refl) in
    let line : new.line ≡ [] = ap (drop count) played.2.line ∙ drop_all written in
    let fit : Fits new = plays_fit d start new store store' steps_to
    (still_all own ((Read count, Ok tt) ∷ []) (are_own d waits (begun d b) s store store' typed answered dropped written run.in_turns) (refl, tt)) plays refl in (
      found,
      λ accepted pending height width.
          subst (λ (x : Option Terminal). IfSome x (λ u. Shows u (picture d (after_events d (begun d b).editor found.events) s.editor.top))) shown
          (subst (λ (x : Session). IfSome new.screen (λ u. Shows u (picture d (after_events d (begun d b).editor found.events) x.editor.top)))
          played.2.session
          (found.headline.shows (accepted_more true own count ∙ accepted)
          (fit ∙ ap (λ (h : ℕ). (h == new.session.editor.height) && (new.width == new.session.editor.width)) played.2.height
          ∙ ap (λ (w : ℕ). (t.height == new.session.editor.height) && (w == new.session.editor.width)) played.2.width
          ∙ ap (λ (x : Session). fits t.height t.width x.editor) played.2.session ∙ told_at t s.editor height width)
          line (ap (λ (x : Session). x.pending) played.2.session ∙ pending))),
    )
