-- The start, the end and the result of a run of the program. Names without a prime are of before a run, those with one of after
-- it. `d` is Unicode's data, `b` what the session starts with.
use Rattle.std.specs.Global.{Vec}
use Rattle.std.specs.Prelude.{◌≡◌, ℕ, Bool, true, false, List, [], None, Result, Ok, Err}
use Rattle.bx_editor.specs.Functions.{has_changes}
use Rattle.bx_ucd.specs.Data.{Data}
use Rattle.bx_command.specs.shared.Tables.{AreOfFiles}
use Rattle.bx_command.specs.declared.shared.unicode.UnicodeFiles.{UnicodeFiles}
use Rattle.bx_session.specs.declared.action.Action.{Action}
use Rattle.bx_session.specs.declared.end.End.{End}
use Rattle.bx_session.specs.declared.end.End.TheVariants.{Quit, InputEnded}
use Rattle.bx_session.specs.declared.end.RunFault.{RunFault}
use Rattle.bx_session.specs.Session.{Session, with_painting, StoreState}
use Rattle.bx_session.specs.Inputs.{presses_from, rest_from}
use Rattle.bx_session.specs.Replaying.{after_journal}
use Rattle.bx_session.specs.Painting.{QueuesPicture}
use Rattle.bx_session.specs.Running.{PressAnswer, EndsWith}
use Rattle.bx_session.specs.Log.{HasLogged}
use Rattle.bx_session.specs.Beginning.{Beginning, IsBegun, begun}
use Rattle.bx_recovery.specs.Beginnings.{IsOpened}
use Rattle.bidi_edit.specs.declared.edit.Changes.{Changes}
use Rattle.bidi_edit.specs.declared.edit.Changes.TheVariants.{Saved, Dropped}
use Rattle.bidi_edit.specs.declared.fault.ProgramFault.{ProgramFault}
use Rattle.bidi_edit.specs.declared.fault.ProgramFault.TheVariants as fault

-- the result that tells how a run ended, by whether there are unsaved changes then
abbrev pub outcome_of : Result End RunFault → Bool → Result Changes ProgramFault
outcome_of (Err cause) changed = Err (fault.Run cause)
outcome_of (Ok end) false = Ok Saved
outcome_of (Ok Quit) true = Ok Dropped
outcome_of (Ok (InputEnded unsaved)) true = Err fault.Unsaved

-- The most reads of a run: a proved loop needs a limit, and no session of a user reaches this.
abbrev pub most_reads : ℕ
most_reads = 1_000_000_000

-- The session `old` was run over a device and became `new`, and the run ended so. The bytes `rest` waited before it, and `waits` after it.
-- Its log has all that was done, in order. Of a device, `did` says what a call does to it, `obeyed` what the obeying of a press does, and `stored` what its store has.
pub record RunsTo {V : Type 0} (did : V → Action → V → Type 0) (obeyed : V → Session → PressAnswer → V → Session → Type 0) (stored : V → StoreState)
    (d : Data) (rest : List ℕ) (old new : Session) (device device' : V) (end : Result End RunFault) : Type 0 where
  pub waits : List ℕ
  pub logged : HasLogged did obeyed stored d most_reads end rest waits old new device device'
  pub ends : EndsWith end new None

-- a session after the bytes of a journal
abbrev pub replayed : Data → Session → List ℕ → Session
replayed d old journal = after_journal d old (presses_from [] journal)

-- a session that replayed a journal was painted and run, and the result tells how that ended
pub record Resumes {V : Type 0} (did : V → Action → V → Type 0) (obeyed : V → Session → PressAnswer → V → Session → Type 0) (stored : V → StoreState)
    (d : Data) (old : Session) (journal : List ℕ) (device device' : V) (result : Result Changes ProgramFault) : Type 0 where
  pub session : Session
  pub end : Result End RunFault
  pub painted : QueuesPicture d (replayed d old journal).pending (replayed d old journal).known (with_painting d (replayed d old journal))
  pub runs : RunsTo did obeyed stored d (rest_from [] journal) (with_painting d (replayed d old journal)) session device device' end
  pub tells : result ≡ outcome_of end (has_changes session.editor)

-- a session was begun from this start, by tables that agree with these files, and run, and the result tells how that ended
pub record Edits {V : Type 0} (did : V → Action → V → Type 0) (obeyed : V → Session → PressAnswer → V → Session → Type 0) (stored : V → StoreState)
    (b : Beginning) (files : UnicodeFiles (Vec ℕ)) (device device' : V) (result : Result Changes ProgramFault) : Type 0 where
  pub tables : Data
  pub session : Session
  pub end : Result End RunFault
  pub answers : AreOfFiles tables files
  pub begins : IsBegun tables b
  pub runs : RunsTo did obeyed stored tables (rest_from [] b.journal) (begun tables b) session device device' end
  pub tells : result ≡ outcome_of end (has_changes session.editor)

-- `Runs` if the result is of a run that began, `Stays` if a fault came before it
abbrev pub RunsUnless : Result Changes ProgramFault → Type 0 → Type 0 → Type 0
RunsUnless (Ok changes) Runs Stays = Runs
RunsUnless (Err fault.Unsaved) Runs Stays = Runs
RunsUnless (Err (fault.Run cause)) Runs Stays = Runs
RunsUnless (Err before) Runs Stays = Stays

-- From whatever start and files the session was opened, it was begun from there, replayed this journal, and was run; or nothing was done
-- to the device.
abbrev pub EditsAny : {V : Type 0} (did : V → Action → V → Type 0) (obeyed : V → Session → PressAnswer → V → Session → Type 0) (stored : V → StoreState)
    → Data → Session → List ℕ → V → V → Result Changes ProgramFault → Type 0
EditsAny did obeyed stored d opened journal device device' result =
    (b : Beginning) (files : UnicodeFiles (Vec ℕ)) → AreOfFiles d files → IsOpened d b opened → b.journal ≡ journal
    → RunsUnless result (Edits did obeyed stored b files device device' result) (device' ≡ device)
