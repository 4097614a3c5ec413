-- Laws of runs in a world. A run is a schedule of its session's world, so the contracts of schedules apply to the program. Names
-- without a prime are of before a run, those with one of after it. `d` is Unicode's data, `s` a session, `b` what it starts with,
-- `t` a terminal.
use Rattle.std.specs.Prelude.{◌≡◌, ℕ, true, List, [], ◌∷◌, ◌++◌, length, Option, Ok}
use Rattle.bx_keys.specs.Keys.{decoding}
use Rattle.bx_grid.specs.Picture.{IsIdle, Shows}
use Rattle.bx_grid.specs.Terminal.{Terminal, reads}
use Rattle.bx_ucd.specs.Data.{Data}
use Rattle.bx_editor.specs.Putting.{paste_ended}
use Rattle.bx_editor.specs.Replay.{at_replay_end}
use Rattle.bx_editor.specs.Picture.{picture, scrolled}
use Rattle.bx_session.specs.Session.{Session, StoreState}
use Rattle.bx_session.specs.Replaying.{after_all_replayed}
use Rattle.bx_session.specs.Running.{PressAnswer, Turn, TakesTurn, HasRun, presses_in}
use Rattle.bx_session.specs.Inputs.{presses_from, rest_from}
use Rattle.bx_session.specs.Beginning.{Beginning, IsBegun, at_offset, unpainted_at, begun}
use Rattle.bx_world.specs.declared.step.Step.TheVariants.{Read}
use Rattle.bx_world.specs.World.{World, PlaysTo, is_last_accepted}
use Rattle.bx_world.specs.Showing.{IsInStep}
use Rattle.bx_world.specs.Events.{after_events}
use Rattle.bx_world.specs.Runs.{Schedule, steps_of_turn, steps_of_run, IsAmong, RunsInWindow}

-- The world after these steps: the run's last session, the bytes of input that wait then, the line with the bytes that the run wrote, and
-- window and terminal unchanged. The invariant of all steps is kept.
pub record IsAfterRun (d : Data) (old : World) (waits : List ℕ) (s : Session) (written : List ℕ) (new : World) : Type 0 where
  pub session : new.session ≡ s
  pub rest : new.rest ≡ waits
  pub line : new.line ≡ old.line ++ written
  pub height : new.height ≡ old.height
  pub width : new.width ≡ old.width
  pub screen : new.screen ≡ old.screen
  pub in_step : IsInStep d old → IsInStep d new

-- a turn of a run, after any steps of the window and the terminal
abbrev pub TurnsArePlays : Type 0
TurnsArePlays =
    (d : Data) (old : World) (s : Session) (store store' : StoreState) (turn : Turn) (all : Session)
    → TakesTurn d old.session store turn s store' all → presses_in turn.pressed ≡ presses_from old.rest turn.typed
    → (new : World) × PlaysTo d old store (steps_of_turn turn) new store' × IsAfterRun d old (rest_from old.rest turn.typed) s turn.written new

-- a whole run, turn by turn
abbrev pub RunsArePlays : Type 0
RunsArePlays =
    (d : Data) (old : World) (rest : List ℕ) (s : Session) (store store' : StoreState) (reader reader' writer writer' : Option (List ℕ))
    (typed : List ℕ) (answered : List PressAnswer) (dropped written : List ℕ) (all : Session)
    → (run : HasRun d old.rest rest old.session s store store' reader reader' writer writer' typed answered dropped written all)
    → (new : World) × PlaysTo d old store (steps_of_run run.in_turns) new store' × IsAfterRun d old rest s written new

-- ---- a run from its start

-- a session restored from a journal starts as the replay of the journal's keys and its end leave it, scrolled to the cursor; the first
-- painting scrolls it too
pub record BeginsWithKeys : Type 0 where
  pub replayed : (d : Data) (b : Beginning)
      → (unpainted_at d b).editor ≡ scrolled d (at_replay_end (paste_ended d (after_all_replayed d (at_offset d b).editor (decoding b.journal).keys)))
  pub painted : (d : Data) (b : Beginning) → (begun d b).editor ≡ scrolled d (unpainted_at d b).editor

-- The headline for a run in a window whose size changes meanwhile: for any first content of the terminal, and any steps of
-- the window and the terminal between the steps of the run.
abbrev pub HeadlineInChangingWindows : Type 0
HeadlineInChangingWindows =
    (d : Data) (b : Beginning) (rest : List ℕ) (s : Session) (store store' : StoreState) (reader reader' writer writer' : Option (List ℕ))
    (typed : List ℕ) (answered : List PressAnswer) (dropped written : List ℕ) (all : Session) → IsBegun d b
    → (run : HasRun d (rest_from [] b.journal) rest (begun d b) s store store' reader reader' writer writer' typed answered dropped written all)
    → (t : Terminal) (schedule : Schedule) → IsIdle t → IsAmong (steps_of_run run.in_turns) schedule
    → RunsInWindow d b (begun d b) s store store' t schedule

-- The headline for a run in a window of one size: a terminal of the session's size, with no sequence half read, that has
-- read all bytes that the run wrote shows the picture of the start state as changed by the accepted keys.
abbrev pub HeadlineOfRuns : Type 0
HeadlineOfRuns =
    (d : Data) (b : Beginning) (rest : List ℕ) (s : Session) (store store' : StoreState) (reader reader' writer writer' : Option (List ℕ))
    (typed : List ℕ) (answered : List PressAnswer) (dropped written : List ℕ) (all : Session) → IsBegun d b
    → (run : HasRun d (rest_from [] b.journal) rest (begun d b) s store store' reader reader' writer writer' typed answered dropped written all)
    → (t : Terminal) → IsIdle t
    → (found : RunsInWindow d b (begun d b) s store store' t (steps_of_run run.in_turns ++ (Read (length written), Ok tt) ∷ []))
    × (is_last_accepted true (steps_of_run run.in_turns) ≡ true → s.pending ≡ [] → t.height ≡ s.editor.height → t.width ≡ s.editor.width
    → Shows (reads t written) (picture d (after_events d (begun d b).editor found.events) s.editor.top))
