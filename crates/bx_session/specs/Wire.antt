-- Joins a reader, a recorder, a writer and a store into one device. `remaining` gives the bytes that a reader has left, `out` the
-- bytes written, `contents` a journal's bytes; each is None if the bytes are not known.
use Rattle.std.specs.Prelude.{◌≡◌, ℕ, List, [], Option}
use Rattle.std.specs.Io.KnownBytes.{Appends, Consumes, IsAtEnd}
use Rattle.bx_session.specs.declared.action.Action.{Action}
use Rattle.bx_session.specs.declared.action.Action.TheVariants.{Read, ReadFailed, Append}
use Rattle.bx_session.specs.declared.wired.Wired.{Wired}
use Rattle.bx_session.specs.Journal.{HasKept, HasTried}
use Rattle.bx_session.specs.Log.{read_by, kept_by, written_by}

-- the same reader, recorder, writer and store
pub record AreSameParts {R J W S : Type 0} (old new : Wired R J W S) : Type 0 where
  pub reader : new.reader.ghost_name ≡ old.reader.ghost_name
  pub recorder : new.recorder.ghost_name ≡ old.recorder.ghost_name
  pub writer : new.writer.ghost_name ≡ old.writer.ghost_name
  pub store : new.store.ghost_name ≡ old.store.ghost_name

-- these bytes were read, handed to the recorder, and written
pub record HasMoved {R J W S : Type 0} (remaining : R → Option (List ℕ)) (contents : J → Option (List ℕ)) (failures : J → ℕ)
    (out : W → Option (List ℕ)) (old new : Wired R J W S) (read kept written : List ℕ) : Type 0 where
  pub same : AreSameParts old new
  pub reads : Consumes (remaining old.reader.now) (remaining new.reader.now) read
  pub keeps : HasKept contents failures old.recorder.now new.recorder.now kept
  pub writes : Appends (out old.writer.now) (out new.writer.now) written

-- of reader, recorder and writer those that a call has nothing to do with stay as they were
abbrev pub LeavesOthers : {R J W S : Type 0} → Action → Wired R J W S → Wired R J W S → Type 0
LeavesOthers (Read bytes) old new = (new.recorder.now ≡ old.recorder.now) × (new.writer.now ≡ old.writer.now)
LeavesOthers ReadFailed old new = (new.recorder.now ≡ old.recorder.now) × (new.writer.now ≡ old.writer.now)
LeavesOthers (Append bytes) old new = (new.reader.now ≡ old.reader.now) × (new.writer.now ≡ old.writer.now)
LeavesOthers _ old new = (new.reader.now ≡ old.reader.now) × (new.recorder.now ≡ old.recorder.now)

-- What a call does to reader, recorder, writer and store. A read of no bytes comes only at the end of the input, and with each append
-- the recorder tries all that waits.
pub record DidWired {R J W S : Type 0} (remaining : R → Option (List ℕ)) (contents : J → Option (List ℕ)) (failures : J → ℕ)
    (out : W → Option (List ℕ)) (old : Wired R J W S) (action : Action) (new : Wired R J W S) : Type 0 where
  pub moves : HasMoved remaining contents failures out old new (read_by action) (kept_by action) (written_by action)
  pub others : LeavesOthers action old new
  pub store : new.store.now ≡ old.store.now
  pub end : action ≡ Read [] → IsAtEnd (remaining new.reader.now)
  pub tries : (bytes : List ℕ) → action ≡ Append bytes → HasTried contents failures old.recorder.now new.recorder.now bytes

-- the obeying of a press changes nothing but the store
pub record ObeyedWired {R J W S : Type 0} (old new : Wired R J W S) : Type 0 where
  pub same : AreSameParts old new
  pub reader : new.reader.now ≡ old.reader.now
  pub recorder : new.recorder.now ≡ old.recorder.now
  pub writer : new.writer.now ≡ old.writer.now
