-- The start and the end of a run, from the contracts of the calls within.
use Rattle.std.proofs.Common.{◌≡◌, ℕ, Bool, true, false, List, [], None, Result, Ok, Err, IfErr, IsErrAnd, sym, ap, subst, ◌∙◌}
use Rattle.std.specs.Global.{Vec}
use Rattle.bx_editor.specs.Functions.{has_changes}
use Rattle.bx_ucd.specs.Data.{Data}
use Rattle.bx_command.specs.shared.Tables.{AreOfFiles}
use Rattle.bx_command.specs.declared.shared.unicode.UnicodeFiles.{UnicodeFiles}
use Rattle.bx_session.specs.declared.action.Action.{Action}
use Rattle.bx_session.specs.declared.end.End.{End}
use Rattle.bx_session.specs.declared.end.End.TheVariants.{Quit, InputEnded}
use Rattle.bx_session.specs.declared.end.RunFault.{RunFault}
use Rattle.bx_session.specs.Session.{Session, with_painting, StoreState}
use Rattle.bx_session.specs.Feeding.{SessionState}
use Rattle.bx_session.specs.Inputs.{rest_from}
use Rattle.bx_session.specs.Painting.{QueuesPicture}
use Rattle.bx_session.specs.Running.{PressAnswer, EndsWith}
use Rattle.bx_session.specs.Log.{HasLogged}
use Rattle.bx_session.specs.Beginning.{Beginning, at_offset}
use Rattle.bx_recovery.specs.declared.beginning.Beginning as given
use Rattle.bx_recovery.specs.declared.fault.RecoveryFault.{RecoveryFault}
use Rattle.bx_recovery.specs.declared.fault.RecoveryFault.TheVariants as recovery
use Rattle.bx_recovery.specs.Beginnings.{IsOpened}
use Rattle.bx_recovery.specs.Refusals.{CanOpen, IsFirstCause}
use Rattle.bidi_edit.specs.declared.edit.Changes.{Changes}
use Rattle.bidi_edit.specs.declared.fault.ProgramFault.{ProgramFault}
use Rattle.bidi_edit.specs.declared.fault.ProgramFault.TheVariants as fault
use Rattle.bidi_edit.specs.Faults.{IsFirstFault, IsLaterFault, fault_of_recovery}
use Rattle.bidi_edit.specs.Run.{Edits, EditsAny, Resumes, RunsTo, RunsUnless, most_reads, outcome_of, replayed}

-- ---- which results come of a run

runs_outcome : (P Q : Type 0) (end : Result End RunFault) (changed : Bool) → P → RunsUnless (outcome_of end changed) P Q
runs_outcome P Q (Err cause) changed p = p
runs_outcome P Q (Ok Quit) false p = p
runs_outcome P Q (Ok (InputEnded unsaved)) false p = p
runs_outcome P Q (Ok Quit) true p = p
runs_outcome P Q (Ok (InputEnded unsaved)) true p = p

stays_by : (P Q : Type 0) (cause : RecoveryFault) → Q → RunsUnless (Err (fault_of_recovery cause)) P Q
stays_by P Q (recovery.Tables error) q = q
stays_by P Q (recovery.Open error) q = q
stays_by P Q recovery.Unwritten q = q
stays_by P Q recovery.OutOfMemory q = q

pub stays_on : (P Q : Type 0) (r : Result Changes ProgramFault) (cause : RecoveryFault) → IsErrAnd r (λ e. e ≡ fault_of_recovery cause) → Q
    → RunsUnless r P Q
stays_on P Q (Ok changes) cause is q = absurd is
stays_on P Q (Err e) cause is q = subst (λ (x : ProgramFault). RunsUnless (Err x) P Q) (sym is) (stays_by P Q cause q)

-- other facts of a run follow from these
pub runs_further : (P P' Q : Type 0) (r : Result Changes ProgramFault) → (P → P') → RunsUnless r P Q → RunsUnless r P' Q
runs_further P P' Q (Ok changes) f h = f h
runs_further P P' Q (Err fault.Unsaved) f h = f h
runs_further P P' Q (Err (fault.Run cause)) f h = f h
runs_further P P' Q (Err (fault.Tables error)) f h = h
runs_further P P' Q (Err (fault.File error)) f h = h
runs_further P P' Q (Err (fault.Text error)) f h = h
runs_further P P' Q (Err (fault.Open error)) f h = h
runs_further P P' Q (Err fault.Unwritten) f h = h
runs_further P P' Q (Err fault.Untold) f h = h
runs_further P P' Q (Err fault.OutOfMemory) f h = h

-- ---- the first cause

first_of : (b : given.Beginning) (cause : RecoveryFault) → IsFirstCause b cause → IsFirstFault b (fault_of_recovery cause)
first_of b (recovery.Tables error) first = first
first_of b (recovery.Open error) first = first
first_of b recovery.Unwritten first = absurd first
first_of b recovery.OutOfMemory can = (can, tt)

-- the session was not opened
pub opened_first : {T : Type 0} (b : given.Beginning) (r : Result T ProgramFault) (cause : RecoveryFault) → IsErrAnd r (λ e. e ≡ fault_of_recovery cause)
    → IsFirstCause b cause → IfErr r (IsFirstFault b)
opened_first b (Ok session) cause is first = absurd is
opened_first b (Err e) cause is first = subst (IsFirstFault b) (sym is) (first_of b cause first)

first_if_later : (b : given.Beginning) (e : ProgramFault) → CanOpen b → IsLaterFault e → IsFirstFault b e
first_if_later b (fault.Tables error) can later = absurd later
first_if_later b (fault.Open error) can later = absurd later
first_if_later b (fault.File error) can later = absurd later
first_if_later b (fault.Text error) can later = absurd later
first_if_later b fault.Unwritten can later = absurd later
first_if_later b fault.Untold can later = absurd later
first_if_later b fault.OutOfMemory can later = (can, later)
first_if_later b fault.Unsaved can later = (can, later)
first_if_later b (fault.Run cause) can later = (can, later)

-- the session was opened
pub once_opened : (b : given.Beginning) (r : Result Changes ProgramFault) → CanOpen b → IfErr r IsLaterFault → IfErr r (IsFirstFault b)
once_opened b (Ok changes) can later = tt
once_opened b (Err e) can later = first_if_later b e can later

outcome_later : (end : Result End RunFault) (changed : Bool) → IfErr (outcome_of end changed) IsLaterFault
outcome_later (Err cause) changed = tt
outcome_later (Ok Quit) false = tt
outcome_later (Ok (InputEnded unsaved)) false = tt
outcome_later (Ok Quit) true = tt
outcome_later (Ok (InputEnded unsaved)) true = tt

-- the session was run
pub run_is_later : (r : Result Changes ProgramFault) (end : Result End RunFault) (changed : Bool) → r ≡ outcome_of end changed
    → IfErr r IsLaterFault
run_is_later r end changed is = subst (λ (x : Result Changes ProgramFault). IfErr x IsLaterFault) (sym is) (outcome_later end changed)

-- ---- after the opening

module _ {V : Type 0} (did : V → Action → V → Type 0) (obeyed : V → Session → PressAnswer → V → Session → Type 0) (stored : V → StoreState) where
  pub resumes_of : {D : Type 0} (Q : Type 0) (ucd : D → Data) (old begun : SessionState D) (new : Session) (journal rest rest' : List ℕ)
      (device device' : V) (end : Result End RunFault) (changed : Bool) (result : Result Changes ProgramFault) → begun.tables ≡ old.tables
      → begun.session ≡ with_painting (ucd old.tables) (replayed (ucd old.tables) old.session journal)
      → QueuesPicture (ucd old.tables) (replayed (ucd old.tables) old.session journal).pending
      (replayed (ucd old.tables) old.session journal).known begun.session → rest ≡ rest_from [] journal
      → HasLogged did obeyed stored (ucd begun.tables) most_reads end rest rest' begun.session new device device'
      → EndsWith end new None → result ≡ outcome_of end changed → changed ≡ has_changes new.editor
      → RunsUnless result (Resumes did obeyed stored (ucd old.tables) old.session journal device device' result) Q
  resumes_of {D} Q ucd old begun new journal rest rest' device device' end changed result same is paints waits logged ends tells changes =
      let d = ucd old.tables in
      let from = replayed d old.session journal in
      let from_tables : HasLogged did obeyed stored d most_reads end rest rest' begun.session new device device' =
      subst (λ (t : D). HasLogged did obeyed stored (ucd t) most_reads end rest rest' begun.session new device device') same logged in
      let all : Resumes did obeyed stored d old.session journal device device' result = record {
        session = new;
        end = end;
        painted = subst (QueuesPicture d from.pending from.known) is paints;
        runs = record {
          waits = rest';
          logged = subst (λ (xs : List ℕ). HasLogged did obeyed stored d most_reads end xs rest' (with_painting d from) new device device') waits
              (subst (λ (s : Session). HasLogged did obeyed stored d most_reads end rest rest' s new device device') is from_tables);
          ends = ends;
        };
        tells = tells ∙ ap (outcome_of end) changes;
      } in
      subst (λ (r : Result Changes ProgramFault). RunsUnless r (Resumes did obeyed stored d old.session journal device device' result) Q) (sym tells)
      (runs_outcome _ Q end changed all)

  -- ---- a whole run

  pub edits_of : (Q : Type 0) (b : Beginning) (files : UnicodeFiles (Vec ℕ)) (d : Data) (s : Session) (device device' : V) (result : Result Changes ProgramFault)
      → AreOfFiles d files → IsOpened d b s → RunsUnless result (Resumes did obeyed stored d s b.journal device device' result) Q
      → RunsUnless result (Edits did obeyed stored b files device device' result) Q
  edits_of Q b files d s device device' result are opened =
      runs_further _ _ Q result (λ (given : Resumes did obeyed stored d s b.journal device device' result).
      let here : Resumes did obeyed stored d (at_offset d b) b.journal device device' result =
      subst (λ (t : Session). Resumes did obeyed stored d t b.journal device device' result) opened.session given in record {
        tables = d;
        session = here.session;
        end = here.end;
        answers = are;
        begins = record { opened = opened.paints; painted = here.painted };
        runs = here.runs;
        tells = here.tells;
      })

  -- from whatever start the session was opened
  pub edits_any : (d : Data) (s : Session) (journal : List ℕ) (device device' : V) (result : Result Changes ProgramFault)
      → RunsUnless result (Resumes did obeyed stored d s journal device device' result) (device' ≡ device)
      → EditsAny did obeyed stored d s journal device device' result
  edits_any d s journal device device' result resumes b files are opened same =
      edits_of (device' ≡ device) b files d s device device' result are opened
      (subst (λ keys. RunsUnless result (Resumes did obeyed stored d s keys device device' result) (device' ≡ device)) (sym same) resumes)
