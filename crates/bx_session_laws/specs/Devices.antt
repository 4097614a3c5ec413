-- What the log of a run tells of two devices: one in memory, in which tests see the order of a run, and one of a reader, a recorder, a
-- writer and a store, as the programs have it.
use Rattle.std.specs.Prelude.{ℕ, List, [], ◌∷◌, Option, None, Result}
use Rattle.bx_store.specs.declared.faults.Faults.{Faults}
use Rattle.bx_ucd.specs.Data.{Data}
use Rattle.bx_session.specs.declared.action.Action.{Action}
use Rattle.bx_session.specs.declared.end.End.{End}
use Rattle.bx_session.specs.declared.end.RunFault.{RunFault}
use Rattle.bx_session.specs.declared.wired.Wired.{Wired}
use Rattle.bx_session.specs.Session.{Session, store_state}
use Rattle.bx_session.specs.Running.{EndsWith}
use Rattle.bx_session.specs.Journal.{RunsRecorded}
use Rattle.bx_session.specs.Log.{Step, Calls, Obeys, AreTaken, HasLogged}
use Rattle.bx_session.specs.InMemory.{DeviceState, DidInMemory, Logs, ObeyedInMemory, stored_in}
use Rattle.bx_session.specs.Wire.{DidWired, ObeyedWired}

-- the calls among these steps
abbrev pub calls_in : List Step → List Action
calls_in [] = []
calls_in (Calls action ∷ more) = action ∷ calls_in more
calls_in (Obeys a ∷ more) = calls_in more

-- A device's log has all calls of it, in order, after what the log had before; unless memory ran out for it.
abbrev pub HasWholeLog : Type 0
HasWholeLog =
    (d : Data) (old new : DeviceState) (before after : Session) (steps : List Step)
    → AreTaken DidInMemory (λ from s a to t. ObeyedInMemory from to) stored_in d old before steps new after → Logs old.log (calls_in steps) new.log

-- A run over a reader, a recorder, a writer and a store has, by its log, read, kept, written and stored as `RunsRecorded` says, and an
-- end of the input was the reader's.
abbrev pub LogsTellParts : {R J W S : Type 0} → (R → Option (List ℕ)) → (J → Option (List ℕ)) → (J → ℕ) → (W → Option (List ℕ))
    → (S → Option (List ℕ)) → (S → Faults) → Type 0
LogsTellParts {R} {J} {W} {S} remaining contents failures out saved faults =
    (d : Data) (limit : ℕ) (result : Result End RunFault) (rest rest' : List ℕ) (old new : Session) (device device' : Wired R J W S)
    → HasLogged (DidWired remaining contents failures out) (λ from s a to t. ObeyedWired from to) (λ x. store_state saved faults x.store.now)
    d limit result rest rest' old new device device' → EndsWith result new None
    → RunsRecorded contents failures d rest rest' old new (store_state saved faults device.store.now) (store_state saved faults device'.store.now)
    (remaining device.reader.now) (remaining device'.reader.now) (out device.writer.now) (out device'.writer.now)
    device.recorder.now device'.recorder.now
    × EndsWith result new (remaining device'.reader.now)
