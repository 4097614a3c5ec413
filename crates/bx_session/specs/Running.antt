-- Runs of a session over a reader, a writer and a store. Names without a prime are of before, those with one of after. Of a
-- reader the bytes are given that it has left, of a writer those that it has; None if they are not known. `d` is Unicode's data,
-- `mid` what is between two steps, `a` a press with the answer to it.
use Rattle.std.specs.Prelude.{◌≡◌, ◌≢◌, ◌≤◌, ◌<◌, length, ℕ, true, false, List, [], ◌∷◌, ◌++◌, map, Option, Result, Ok, Err, OnOk}
use Rattle.std.specs.Io.KnownBytes.{Appends, Consumes, IsAtEnd}
use Rattle.bx_ucd.specs.Data.{Data}
use Rattle.bx_session.specs.declared.status.Status.{Status}
use Rattle.bx_session.specs.declared.status.Refused.{Refused}
use Rattle.bx_session.specs.declared.end.End.{End}
use Rattle.bx_session.specs.declared.end.End.TheVariants.{Quit, InputEnded}
use Rattle.bx_session.specs.declared.end.RunFault.{RunFault}
use Rattle.bx_session.specs.declared.end.RunFault.TheVariants.{ReadFault, WriteFault, ReadLimit}
use Rattle.bx_editor.specs.Functions.{has_changes}
use Rattle.bx_keys.specs.declared.key.Key.{Key}
use Rattle.bx_session.specs.Session.{Session, is_painted_press, StoreState}
use Rattle.bx_session.specs.Feeding.{Presses}
use Rattle.bx_session.specs.Inputs.{presses_from, rest_from}
use Rattle.bx_session.specs.Painting.{PressPaints}

-- a press and the answer to it
abbrev pub PressAnswer : Type 0
PressAnswer = Option Key × Result Status Refused

-- the presses without their answers
abbrev pub presses_in : List PressAnswer → List (Option Key)
presses_in answered = map (λ a. a.0) answered

-- session and store after these presses, each with its answer; all come before the session's end, and no pending byte is sent
abbrev pub PressesAll : Data → Session → StoreState → List PressAnswer → Session → StoreState → Type 0
PressesAll d old store [] new store' = (new ≡ old) × (store' ≡ store)
PressesAll d old store (a ∷ answered) new store' =
    (mid : Session) × (mid_store : StoreState) × (old.editor.ended ≡ false) × Presses d old store a.0 a.1 mid mid_store
    × (is_painted_press old a.0 ≡ true → OnOk a.1 (PressPaints d old a.0 mid)) × PressesAll d mid mid_store answered new store'

-- Bytes are read, where `rest` wait before them: the presses of those that were typed before the session's end are obeyed, and the bytes
-- that follow its end are dropped.
pub record TypedUntilEnd (d : Data) (rest : List ℕ) (old : Session) (store : StoreState) (bytes : List ℕ) (new : Session) (store' : StoreState)
    (typed : List ℕ) (answered : List PressAnswer) (dropped : List ℕ) : Type 0 where
  pub all : bytes ≡ typed ++ dropped
  pub presses : presses_in answered ≡ presses_from rest typed
  pub feeds : PressesAll d old store answered new store'
  pub drops : dropped ≢ [] → new.editor.ended ≡ true

-- a prefix of the pending bytes was written, and the rest is still pending
pub record Sent (old new : Session) (writer writer' : Option (List ℕ)) (written : List ℕ) : Type 0 where
  pub writes : Appends writer writer' written
  pub order : old.pending ≡ written ++ new.pending
  pub session : new ≡ record old { pending = new.pending }

-- the length of a run's buffer, the most bytes that a read gives: a choice
abbrev pub read_size : ℕ
read_size = 256

-- A turn of a run: the bytes of one read, typed until the session ends, and dropped from there on; the presses of those typed, each with
-- its answer; and the bytes written after that.
pub record Turn : Type 0 where
  pub typed : List ℕ
  pub pressed : List PressAnswer
  pub dropped : List ℕ
  pub written : List ℕ

-- the bytes of a turn's read
abbrev pub read_in : Turn → List ℕ
read_in turn = turn.typed ++ turn.dropped

-- The read of a turn. It comes only before the session's end and once all queued bytes were sent, and gives at least one byte.
-- Bytes are dropped only after the session's end.
pub record IsRead (old : Session) (turn : Turn) (all : Session) : Type 0 where
  pub goes_on : old.editor.ended ≡ false
  pub sent : old.pending ≡ []
  pub some : 1 ≤ length (read_in turn)
  pub most : length (read_in turn) ≤ read_size
  pub drops : turn.dropped ≢ [] → all.editor.ended ≡ true

-- session and store after a turn: its presses lead to the session `all`, and a prefix of the pending bytes was written
pub record TakesTurn (d : Data) (old : Session) (store : StoreState) (turn : Turn) (new : Session) (store' : StoreState) (all : Session)
    : Type 0 where
  pub feeds : PressesAll d old store turn.pressed all store'
  pub order : all.pending ≡ turn.written ++ new.pending
  pub session : new ≡ record all { pending = new.pending }

-- turns in sequence
abbrev pub TakesTurns : Data → Session → StoreState → List Turn → Session → StoreState → Type 0
TakesTurns d old store [] new store' = (new ≡ old) × (store' ≡ store)
TakesTurns d old store (turn ∷ more) new store' =
    (mid : Session) × (mid_store : StoreState) × (all : Session) × IsRead old turn all × TakesTurn d old store turn mid mid_store all
    × TakesTurns d mid mid_store more new store'

-- each turn's presses are those of its bytes; `rest` wait before the first
abbrev pub AreTyped : List ℕ → List Turn → Type 0
AreTyped rest [] = Unit {0}
AreTyped rest (turn ∷ more) = (presses_in turn.pressed ≡ presses_from rest turn.typed) × AreTyped (rest_from rest turn.typed) more

-- the bytes typed, the presses, the bytes dropped, and those written in turns
abbrev pub typed_in : List Turn → List ℕ
typed_in [] = []
typed_in (turn ∷ more) = turn.typed ++ typed_in more

abbrev pub pressed_in : List Turn → List PressAnswer
pressed_in [] = []
pressed_in (turn ∷ more) = turn.pressed ++ pressed_in more

abbrev pub dropped_in : List Turn → List ℕ
dropped_in [] = []
dropped_in (turn ∷ more) = turn.dropped ++ dropped_in more

abbrev pub written_in : List Turn → List ℕ
written_in [] = []
written_in (turn ∷ more) = turn.written ++ written_in more

-- A run in turns, with all bytes typed, the presses, and the bytes dropped and written. First a prefix of the pending bytes is written,
-- which leaves the session `begun`; then the turns follow. `rest` are the bytes that wait before the run.
pub record InTurns (d : Data) (rest : List ℕ) (old new : Session) (store store' : StoreState) (typed : List ℕ) (answered : List PressAnswer)
    (dropped written : List ℕ) : Type 0 where
  pub first : List ℕ
  pub begun : Session
  pub first_order : old.pending ≡ first ++ begun.pending
  pub begins : begun ≡ record old { pending = begun.pending }
  pub turns : List Turn
  pub takes : TakesTurns d begun store turns new store'
  pub are_typed : AreTyped rest turns
  pub types : typed_in turns ≡ typed
  pub presses : pressed_in turns ≡ answered
  pub drops : dropped_in turns ≡ dropped
  pub wrote : first ++ written_in turns ≡ written

-- at least `count` bytes were read
abbrev pub HasRead : ℕ → Option (List ℕ) → Option (List ℕ) → Type 0
HasRead count reader reader' = (bytes : List ℕ) × (count ≤ length bytes) × Consumes reader reader' bytes

-- The progress of a run. `rest` are the bytes that wait before it, `rest'` those that wait after it. `typed` are the bytes read up to the
-- session's end, `answered` their presses, `dropped` the bytes after that. `all` is the session as if nothing were written: its queue has
-- the bytes pending at the start and all appended since, which are the bytes written and then those still pending.
pub record HasRun (d : Data) (rest rest' : List ℕ) (old new : Session) (store store' : StoreState) (reader reader' writer writer' : Option (List ℕ))
    (typed : List ℕ) (answered : List PressAnswer) (dropped written : List ℕ) (all : Session) : Type 0 where
  pub feeds : PressesAll d old store answered all store'
  pub presses : presses_in answered ≡ presses_from rest typed
  pub waits : rest' ≡ rest_from rest typed
  pub reads : Consumes reader reader' (typed ++ dropped)
  pub drops : dropped ≢ [] → all.editor.ended ≡ true
  pub few : length dropped < read_size
  pub writes : Appends writer writer' written
  pub order : all.pending ≡ written ++ new.pending
  pub session : new ≡ record all { pending = new.pending }
  pub in_turns : InTurns d rest old new store store' typed answered dropped written

-- a run without a journal: the bytes that wait, the session, the store, the reader's and the writer's bytes, each before and after it
abbrev pub Runs : Data → List ℕ → List ℕ → Session → Session → StoreState → StoreState → Option (List ℕ) → Option (List ℕ) → Option (List ℕ)
    → Option (List ℕ) → Type 0
Runs d rest rest' old new store store' reader reader' writer writer' =
    (typed : List ℕ) × (answered : List PressAnswer) × (dropped : List ℕ) × (written : List ℕ) × (all : Session)
    × HasRun d rest rest' old new store store' reader reader' writer writer' typed answered dropped written all

-- The session, and the bytes that the reader has left, after a run, by its result. A failed write or flush can come at any time, so it
-- tells nothing of the session; that it was the last step of the run is in the log (`IsLog` of Log.antt).
abbrev pub EndsWith : Result End RunFault → Session → Option (List ℕ) → Type 0
EndsWith (Ok Quit) s left = (s.editor.ended ≡ true) × (s.pending ≡ [])
EndsWith (Ok (InputEnded changed)) s left = (s.editor.ended ≡ false) × (s.pending ≡ []) × (changed ≡ has_changes s.editor) × IsAtEnd left
EndsWith (Err ReadFault) s left = (s.editor.ended ≡ false) × (s.pending ≡ [])
EndsWith (Err ReadLimit) s left = (s.editor.ended ≡ false) × (s.pending ≡ [])
EndsWith (Err WriteFault) s left = Unit {0}
