-- What a run does to its device and its session, in order: each part of the input is in the journal's hands before it is obeyed, and
-- a read comes only after all output has gone out. `d` is Unicode's data. Of a device, `did` says what a call does to it, `obeyed`
-- what the obeying of a press does, and `stored` what its store has.
use Rattle.std.specs.Prelude.{◌≡◌, ◌⊎◌, ℕ, true, false, List, [], ◌∷◌, ◌++◌, length, map, None, Result, Ok, Err, OnOk}
use Rattle.bx_ucd.specs.Data.{Data}
use Rattle.bx_session.specs.declared.action.Action.{Action}
use Rattle.bx_session.specs.declared.action.Action.TheVariants.{Read, ReadFailed, Append, Write, WriteFailed, Flush, FlushFailed}
use Rattle.bx_session.specs.declared.end.End.{End}
use Rattle.bx_session.specs.declared.end.End.TheVariants.{Quit, InputEnded}
use Rattle.bx_session.specs.declared.end.RunFault.{RunFault}
use Rattle.bx_session.specs.declared.end.RunFault.TheVariants.{ReadFault, WriteFault, ReadLimit}
use Rattle.bx_session.specs.Session.{Session, is_painted_press, StoreState}
use Rattle.bx_session.specs.Feeding.{Presses}
use Rattle.bx_session.specs.Painting.{PressPaints}
use Rattle.bx_session.specs.Inputs.{presses_from, rest_from}
use Rattle.bx_session.specs.Running.{PressAnswer, Turn, HasRun, presses_in, read_in}

-- ---- steps

-- a step of a run: a call of the device, or the obeying of a press, with its answer
pub data Step : Type 0 where
  Calls : Action → Step
  Obeys : PressAnswer → Step

-- the bytes that a call read
abbrev pub read_by : Action → List ℕ
read_by (Read bytes) = bytes
read_by _ = []

-- the bytes that a call handed to the journal
abbrev pub kept_by : Action → List ℕ
kept_by (Append bytes) = bytes
kept_by _ = []

-- the bytes that a call wrote
abbrev pub written_by : Action → List ℕ
written_by (Write bytes) = bytes
written_by (WriteFailed bytes) = bytes
written_by _ = []

-- the bytes of all calls among these steps, one after another
abbrev pub bytes_by : (Action → List ℕ) → List Step → List ℕ
bytes_by bytes [] = []
bytes_by bytes (Calls action ∷ more) = bytes action ++ bytes_by bytes more
bytes_by bytes (Obeys a ∷ more) = bytes_by bytes more

-- the presses that were obeyed, with their answers
abbrev pub obeyed_in : List Step → List PressAnswer
obeyed_in [] = []
obeyed_in (Calls action ∷ more) = obeyed_in more
obeyed_in (Obeys a ∷ more) = a ∷ obeyed_in more

-- ---- steps of a device and a session

module _ {V : Type 0} (did : V → Action → V → Type 0) (obeyed : V → Session → PressAnswer → V → Session → Type 0)
    (stored : V → StoreState) (d : Data) where
  -- A call of the device stores nothing. It changes the session only in that what it wrote is no longer pending.
  pub record IsCalled (device : V) (old : Session) (action : Action) (device' : V) (new : Session) : Type 0 where
    pub does : did device action device'
    pub stores : stored device' ≡ stored device
    pub order : old.pending ≡ written_by action ++ new.pending
    pub session : new ≡ record old { pending = new.pending }

  -- A press is obeyed before the session's end, with the store that the device has then.
  pub record IsObeyed (device : V) (old : Session) (a : PressAnswer) (device' : V) (new : Session) : Type 0 where
    pub does : obeyed device old a device' new
    pub goes_on : old.editor.ended ≡ false
    pub feeds : Presses d old (stored device) a.0 a.1 new (stored device')
    pub paints : is_painted_press old a.0 ≡ true → OnOk a.1 (PressPaints d old a.0 new)

  -- the step leads from one state of device and session to another
  abbrev pub IsTaken : V → Session → Step → V → Session → Type 0
  IsTaken device old (Calls action) device' new = IsCalled device old action device' new
  IsTaken device old (Obeys a) device' new = IsObeyed device old a device' new

  -- these steps, in this order, lead from one state of device and session to another
  abbrev pub AreTaken : V → Session → List Step → V → Session → Type 0
  AreTaken device old [] device' new = (device' ≡ device) × (new ≡ old)
  AreTaken device old (step ∷ more) device' new =
      (mid_device : V) × (mid : Session) × IsTaken device old step mid_device mid × AreTaken mid_device mid more device' new

-- ---- the log of a run

-- a part of the bytes of a read, and the presses of these bytes, each with its answer
pub record Part : Type 0 where
  pub typed : List ℕ
  pub pressed : List PressAnswer

-- the bytes of parts, and their presses, one after another
abbrev pub typed_in_parts : List Part → List ℕ
typed_in_parts [] = []
typed_in_parts (part ∷ parts) = part.typed ++ typed_in_parts parts

abbrev pub pressed_in_parts : List Part → List PressAnswer
pressed_in_parts [] = []
pressed_in_parts (part ∷ parts) = part.pressed ++ pressed_in_parts parts

-- each part's presses are those of its bytes; `rest` wait before the first
abbrev pub ArePartsFrom : List ℕ → List Part → Type 0
ArePartsFrom rest [] = Unit {0}
ArePartsFrom rest (part ∷ parts) = (presses_in part.pressed ≡ presses_from rest part.typed) × ArePartsFrom (rest_from rest part.typed) parts

-- a turn, with the parts in which its bytes were handed to the journal; those dropped after the session's end are not among them
pub record LoggedTurn : Type 0 where
  pub turn : Turn
  pub parts : List Part
  pub typed : typed_in_parts parts ≡ turn.typed
  pub pressed : pressed_in_parts parts ≡ turn.pressed

-- the parts of turns in sequence
abbrev pub parts_of : List LoggedTurn → List Part
parts_of [] = []
parts_of (logged ∷ more) = logged.parts ++ parts_of more

-- each part is handed to the journal, and then its presses are obeyed, before the next one
abbrev pub part_steps : List Part → List Step
part_steps [] = []
part_steps (part ∷ parts) = Calls (Append part.typed) ∷ (map Obeys part.pressed ++ part_steps parts)

-- output is written and flushed
abbrev pub sending : List ℕ → List Step
sending written = Calls (Write written) ∷ Calls Flush ∷ []

-- a turn: one read, its parts, and the writing and flushing of the output
abbrev pub turn_steps : LoggedTurn → List Step
turn_steps logged = Calls (Read (read_in logged.turn)) ∷ (part_steps logged.parts ++ sending logged.turn.written)

-- the steps of turns in sequence
abbrev pub turns_steps : List LoggedTurn → List Step
turns_steps [] = []
turns_steps (logged ∷ more) = turn_steps logged ++ turns_steps more

-- what was pending is written and flushed, and then the turns follow
abbrev pub run_steps : List ℕ → List LoggedTurn → List Step
run_steps first turns = sending first ++ turns_steps turns

-- the write failed after these bytes, or all were written and the flush failed
abbrev pub IsFailedSending : List ℕ → List Step → Type 0
IsFailedSending written steps =
    (steps ≡ Calls (WriteFailed written) ∷ []) ⊎ (steps ≡ Calls (Write written) ∷ Calls FlushFailed ∷ [])

-- the writing and flushing of these bytes, by its result
abbrev pub IsSending : {A E : Type 0} → Result A E → List ℕ → List Step → Type 0
IsSending (Ok _) written steps = steps ≡ sending written
IsSending (Err _) written steps = IsFailedSending written steps

-- a log like that of a whole run, except that its last write or flush failed
abbrev pub FailsLast : List Step → List Step → Type 0
FailsLast log whole =
    (before : List Step) × (written : List ℕ) × (failed : List Step) × (whole ≡ before ++ sending written)
    × (log ≡ before ++ failed) × IsFailedSending written failed

-- The log of a run that ended with this result. After the turns, at the end of the input, a read gave nothing, and an append of
-- no bytes let the journal try those that waited; or a read failed. At the limit of reads there were as many turns.
abbrev pub IsLog : ℕ → Result End RunFault → List ℕ → List LoggedTurn → List Step → Type 0
IsLog limit (Ok Quit) first turns log = log ≡ run_steps first turns
IsLog limit (Ok (InputEnded changed)) first turns log = log ≡ run_steps first turns ++ Calls (Read []) ∷ Calls (Append []) ∷ []
IsLog limit (Err ReadFault) first turns log = log ≡ run_steps first turns ++ Calls ReadFailed ∷ []
IsLog limit (Err ReadLimit) first turns log = (log ≡ run_steps first turns) × (length turns ≡ limit)
IsLog limit (Err WriteFault) first turns log = FailsLast log (run_steps first turns)

-- A run over a device, by its result. The log has all that was done to the device and the session, in order: it reads the bytes
-- that were typed and dropped, hands those typed to the journal, obeys their presses, and writes the output. Names without a prime are
-- of before the run, those with one of after it.
pub record HasLogged {V : Type 0} (did : V → Action → V → Type 0) (obeyed : V → Session → PressAnswer → V → Session → Type 0)
    (stored : V → StoreState) (d : Data) (limit : ℕ) (result : Result End RunFault) (rest rest' : List ℕ) (old new : Session) (device device' : V)
    : Type 0 where
  pub typed : List ℕ
  pub answered : List PressAnswer
  pub dropped : List ℕ
  pub written : List ℕ
  pub all : Session
  pub run : HasRun d rest rest' old new (stored device) (stored device') None None None None typed answered dropped written all
  pub log : List Step
  pub taken : AreTaken did obeyed stored d device old log device' new
  pub turns : List LoggedTurn
  pub in_turns : map (λ logged. logged.turn) turns ≡ run.in_turns.turns
  pub in_parts : ArePartsFrom rest (parts_of turns)
  pub order : IsLog limit result run.in_turns.first turns log
  pub reads : bytes_by read_by log ≡ typed ++ dropped
  pub keeps : bytes_by kept_by log ≡ typed
  pub obeys : obeyed_in log ≡ answered
  pub writes : bytes_by written_by log ≡ written
