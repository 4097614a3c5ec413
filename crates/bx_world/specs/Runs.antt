-- The steps of a run, which is a session over a reader and a writer, and the steps of window and terminal between them.
use Rattle.std.specs.Prelude.{◌≡◌, ℕ, Bool, true, false, not, ◌&&◌, ◌==◌, List, [], ◌∷◌, ◌++◌, length, map, Some, Result, Ok, Err, if◌then◌else◌}
use Rattle.std.specs.List.{AllByRecursion, filter, zip}
use Rattle.bx_grid.specs.Picture.{Shows, is_size}
use Rattle.bx_grid.specs.Terminal.{Terminal}
use Rattle.bx_grid.specs.declared.error.GridError.TheVariants as grid
use Rattle.bx_ucd.specs.Data.{Data}
use Rattle.bx_editor.specs.Picture.{picture}
use Rattle.bx_session.specs.Session.{Session, StoreState}
use Rattle.bx_session.specs.Running.{PressAnswer, Turn, InTurns}
use Rattle.bx_session.specs.Beginning.{Beginning}
use Rattle.bx_session.specs.Inputs.{rest_from}
use Rattle.bx_world.specs.declared.step.Step.{Step}
use Rattle.bx_world.specs.declared.step.Step.TheVariants.{Byte, Window, Told, Send, Read}
use Rattle.bx_world.specs.declared.step.StepFault.{StepFault}
use Rattle.bx_world.specs.declared.step.StepFault.TheVariants as faults
use Rattle.bx_world.specs.Answers.{answer_of}
use Rattle.bx_world.specs.World.{World, PlaysTo, is_last_accepted}
use Rattle.bx_world.specs.Events.{Event, after_events}
use Rattle.bx_world.specs.Headline.{Headline}

-- steps with their answers
abbrev pub Schedule : Type 0
Schedule = List (Step × Result (Unit {0}) StepFault)

-- ---- the steps of a run

-- bytes, each with the answer to its press
abbrev pub steps_of_bytes : List ℕ → List PressAnswer → Schedule
steps_of_bytes bytes answered = map (λ x. (Byte x.0, answer_of x.1.1)) (zip bytes answered)

-- the bytes typed in a turn, each with its answer, and then the sending of the bytes written
abbrev pub steps_of_turn : Turn → Schedule
steps_of_turn turn = steps_of_bytes turn.typed turn.pressed ++ (Send (length turn.written), Ok tt) ∷ []

-- the steps of turns in sequence
abbrev pub steps_of_turns : List Turn → Schedule
steps_of_turns [] = []
steps_of_turns (turn ∷ more) = steps_of_turn turn ++ steps_of_turns more

-- the pending bytes are sent, and then the turns follow
abbrev pub steps_of_run : {d : Data} {rest : List ℕ} {old new : Session} {store store' : StoreState} {typed : List ℕ} {answered : List PressAnswer}
    {dropped written : List ℕ} → InTurns d rest old new store store' typed answered dropped written → Schedule
steps_of_run run = (Send (length run.first), Ok tt) ∷ steps_of_turns run.turns

-- ---- the steps of window and terminal

-- a step of the window or of the terminal
abbrev pub is_outside : Step → Bool
is_outside (Window height width) = true
is_outside (Read count) = true
is_outside (Byte b) = false
is_outside (Told height width) = false
is_outside (Send count) = false

-- the answer of a terminal with enough memory
abbrev pub outside_answer : Step → Result (Unit {0}) StepFault
outside_answer (Window height width) = if is_size height width then Ok tt else Err (faults.Screen grid.SizeOutOfRange)
outside_answer (Read count) = Ok tt
outside_answer (Byte b) = Ok tt
outside_answer (Told height width) = Ok tt
outside_answer (Send count) = Ok tt

-- A run's steps interleaved with steps of the window and the terminal: between turns, between the bytes of a turn, and
-- between these and their sending.
pub record IsAmong (run schedule : Schedule) : Type 0 where
  pub own : filter (λ s. not (is_outside s.0)) schedule ≡ run
  pub outside : AllByRecursion (λ s. is_outside s.0 ≡ true → s.1 ≡ outside_answer s.0) schedule

-- ---- the start of a run

-- a session at a terminal, before any byte is sent, with these bytes of input waiting; the window's size counts as told if it is the
-- session's
abbrev pub begins_at : List ℕ → Session → Terminal → World
begins_at rest s t = record {
  session = s;
  rest = rest;
  line = [];
  height = t.height;
  width = t.width;
  screen = Some t;
  told = (t.height == s.editor.height) && (t.width == s.editor.width);
}

-- A schedule that begins with the session `begun` at the terminal `t` ends with the session `s`, and the headline holds: if the
-- session was told the window's last size, the last call was accepted and all bytes are read, the terminal shows the picture of the
-- start state as changed by the keys.
pub record RunsInWindow (d : Data) (b : Beginning) (begun s : Session) (store store' : StoreState) (t : Terminal) (schedule : Schedule)
    : Type 0 where
  pub new : World
  pub events : List Event
  pub terminal : Terminal
  pub plays : PlaysTo d (begins_at (rest_from [] b.journal) begun t) store schedule new store'
  pub session : new.session ≡ s
  pub screen : new.screen ≡ Some terminal
  pub headline : Headline d begun.editor b.journal store schedule new store' events
  pub shows : is_last_accepted true schedule ≡ true → new.told ≡ true → new.line ≡ [] → s.pending ≡ []
      → Shows terminal (picture d (after_events d begun.editor events) s.editor.top)
