-- A journal of the input, for replay after a crash, and the recorder that appends to it. `contents` gives a journal's bytes, None
-- if they are not known, and `failures` the number of its calls that failed.
use Rattle.std.specs.Prelude.{◌≡◌, ◌≢◌, ◌≤◌, ◌<◌, ℕ, zero, suc, Bool, true, false, List, [], ◌++◌, length, take, drop, Option}
use Rattle.std.specs.Prelude.{vec_items, vec_capacity}
use Rattle.std.specs.Io.KnownBytes.{Appends}
use Rattle.bx_ucd.specs.Data.{Data}
use Rattle.bx_store.specs.Faults.{one_more}
use Rattle.bx_session.specs.declared.journal.Backlog.{Backlog}
use Rattle.bx_session.specs.declared.journal.Backlog.TheVariants.{Empty, Waiting, Lost}
use Rattle.bx_session.specs.Session.{Session, StoreState}
use Rattle.bx_session.specs.Running.{PressAnswer, HasRun}

-- the value of a `Recorder`: a journal, and the end of the input that it does not have
pub record RecorderState (J : Type 0) : Type 0 where
  pub journal : J
  pub backlog : Backlog

-- the bytes that wait in memory
abbrev pub waiting : Backlog → List ℕ
waiting Empty = []
waiting (Waiting bytes) = vec_items bytes
waiting (Lost bytes) = vec_items bytes

-- bytes were lost
abbrev pub is_lost : Backlog → Bool
is_lost Empty = false
is_lost (Waiting bytes) = false
is_lost (Lost bytes) = true

-- the number of bytes that the memory of the waiting bytes has room for
abbrev pub room : Backlog → ℕ
room Empty = 0
room (Waiting bytes) = vec_capacity bytes
room (Lost bytes) = vec_capacity bytes

-- Of bytes that waited and new ones either all wait, or the new ones are lost: this only if memory for `room` bytes was too
-- little for all. So the backlog is not empty.
abbrev pub Holds : ℕ → List ℕ → List ℕ → Backlog → Type 0
Holds room waited bytes Empty = ⊥
Holds room waited bytes (Waiting held) = vec_items held ≡ waited ++ bytes
Holds room waited bytes (Lost held) = (vec_items held ≡ waited) × (room < length (waited ++ bytes))

-- New bytes come where none wait: all are appended, or the journal fails after `count` of them and the others are held.
abbrev pub AppendsNew : {J : Type 0} → (J → Option (List ℕ)) → (J → ℕ) → J → J → ℕ → Backlog → List ℕ → Type 0
AppendsNew contents failures old new room Empty bytes = Appends (contents old) (contents new) bytes × (failures new ≡ failures old)
AppendsNew contents failures old new room held bytes =
    (count : ℕ) × Appends (contents old) (contents new) (take count bytes) × Holds room [] (drop count bytes) held
    × (failures new ≡ one_more (failures old))

-- the count of failures after `n` more
abbrev pub after_faults : ℕ → ℕ → ℕ
after_faults zero count = count
after_faults (suc n) count = one_more (after_faults n count)

-- A recorder takes bytes. The waiting bytes and then the new ones have three parts, in this order: the first is appended to the
-- journal, the second waits, the third is lost. Only new bytes are lost, and after a loss all of them. So the journal always
-- has a prefix of the input, and all of it if the backlog is empty. An empty backlog grows, and bytes are first lost, only if a
-- call of the journal fails.
pub record HasKept {J : Type 0} (contents : J → Option (List ℕ)) (failures : J → ℕ) (old new : RecorderState J) (bytes : List ℕ)
    : Type 0 where
  pub appended : List ℕ
  pub lost : List ℕ
  pub faults : ℕ
  pub order : waiting old.backlog ++ bytes ≡ appended ++ (waiting new.backlog ++ lost)
  pub grows : Appends (contents old.journal) (contents new.journal) appended
  pub all : is_lost new.backlog ≡ false → lost ≡ []
  pub few : length lost ≤ length bytes
  pub stays : is_lost old.backlog ≡ true → (is_lost new.backlog ≡ true) × (lost ≡ bytes)
  pub counted : failures new.journal ≡ after_faults faults (failures old.journal)
  pub fault : old.backlog ≡ Empty → new.backlog ≢ Empty → 1 ≤ faults
  pub first : is_lost old.backlog ≡ false → is_lost new.backlog ≡ true → 1 ≤ faults

-- Memory had no room for what one call asked of it: the bytes that the journal did not take in this call, whether they waited before
-- or are new. They wait now, or are lost.
abbrev pub LacksRoom : {J : Type 0} → (J → Option (List ℕ)) → RecorderState J → RecorderState J → List ℕ → Type 0
LacksRoom contents old new bytes =
    (appended : List ℕ) × (lost : List ℕ) × (waiting old.backlog ++ bytes ≡ appended ++ (waiting new.backlog ++ lost))
    × Appends (contents old.journal) (contents new.journal) appended × (room old.backlog < length (waiting new.backlog ++ lost))

-- One call of a recorder, which tries to append whatever waits. Bytes wait after it, or are lost first in it, only if the journal
-- failed in this call, so the next call tries again. They are lost first only if memory lacked room for what this call asked.
pub record HasTried {J : Type 0} (contents : J → Option (List ℕ)) (failures : J → ℕ) (old new : RecorderState J) (bytes : List ℕ)
    : Type 0 where
  pub fails : is_lost old.backlog ≡ false → new.backlog ≢ Empty → failures new.journal ≡ one_more (failures old.journal)
  pub waits_on : is_lost old.backlog ≡ true → waiting new.backlog ≢ [] → failures new.journal ≡ one_more (failures old.journal)
  pub full : is_lost old.backlog ≡ false → is_lost new.backlog ≡ true → LacksRoom contents old new bytes

-- a run whose input up to the session's end is handed to a recorder; what follows the end is dropped
abbrev pub RunsRecorded : {J : Type 0} → (J → Option (List ℕ)) → (J → ℕ) → Data → List ℕ → List ℕ → Session → Session → StoreState → StoreState
    → Option (List ℕ) → Option (List ℕ) → Option (List ℕ) → Option (List ℕ) → RecorderState J → RecorderState J → Type 0
RunsRecorded contents failures d rest rest' old new store store' reader reader' writer writer' journal journal' =
    (typed : List ℕ) × (answered : List PressAnswer) × (dropped : List ℕ) × (written : List ℕ) × (all : Session)
    × HasRun d rest rest' old new store store' reader reader' writer writer' typed answered dropped written all
    × HasKept contents failures journal journal' typed
