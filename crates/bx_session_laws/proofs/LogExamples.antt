-- Worked examples of the log of a run, each from its law alone.
use Rattle.std.proofs.Common.{◌≡◌, ◌≢◌, ℕ, List, [], ◌∷◌, ◌++◌, Ok, Err, Result, Some, length, inl, inr, sym, ap, subst, ◌∙◌, append_assoc, arith}
use Rattle.std.proofs.lemmas.List.{length-append}
use Rattle.bx_keys.specs.declared.key.Key.TheVariants as keys
use Rattle.bx_ucd.specs.Data.{Data}
use Rattle.bx_session.specs.declared.action.Action.{Action}
use Rattle.bx_session.specs.declared.action.Action.TheVariants.{Read, Append, Write, WriteFailed, Flush, FlushFailed}
use Rattle.bx_session.specs.declared.end.End.TheVariants.{Quit}
use Rattle.bx_session.specs.declared.end.RunFault.TheVariants.{ReadFault, WriteFault}
use Rattle.bx_session.specs.declared.status.Refused.{Refused}
use Rattle.bx_session.specs.declared.status.Status.{Status}
use Rattle.bx_session.specs.Session.{Session, StoreState}
use Rattle.bx_session.specs.Running.{PressAnswer, Turn}
use Rattle.bx_session.specs.Log.{Step, Calls, Obeys, AreTaken, HasLogged, IsLog, LoggedTurn, Part, part_steps, pressed_in_parts, run_steps, sending, turns_steps, typed_in_parts}

-- ---- one turn of two parts

-- a Quit, which does not end the session, and then a letter
abbrev two_parts : Result Status Refused → Result Status Refused → List Part
two_parts quit letter =
    record { typed = 0x11 ∷ []; pressed = (Some keys.Quit, quit) ∷ [] } ∷ record { typed = 0x78 ∷ []; pressed = (Some (keys.Insert 0x78), letter) ∷ [] } ∷ []

-- The first part is handed to the journal and obeyed before the second one is handed over, and each is obeyed on the device that its
-- append left.
pub each_part_is_kept_before_it_is_obeyed : {V : Type 0} (did : V → Action → V → Type 0) (obeyed : V → Session → PressAnswer → V → Session → Type 0)
    (stored : V → StoreState) (d : Data) (limit : ℕ) (old new : Session) (device device' : V) (quit letter : Result Status Refused) (turn : Turn)
    (rest rest' : List ℕ) (typed : typed_in_parts (two_parts quit letter) ≡ turn.typed) (pressed : pressed_in_parts (two_parts quit letter) ≡ turn.pressed)
    (logged : HasLogged did obeyed stored d limit (Ok Quit) rest rest' old new device device')
    → logged.turns ≡ record { turn = turn; parts = two_parts quit letter; typed = typed; pressed = pressed } ∷ []
    → (read kept obeyed_first kept_on last : V) × (s s1 s2 s3 : Session)
    × did read (Append (0x11 ∷ [])) kept × obeyed kept s (Some keys.Quit, quit) obeyed_first s1
    × did obeyed_first (Append (0x78 ∷ [])) kept_on × obeyed kept_on s2 (Some (keys.Insert 0x78), letter) last s3
each_part_is_kept_before_it_is_obeyed did obeyed stored d limit old new device device' quit letter turn rest rest' typed pressed logged are =
    let first = logged.run.in_turns.first in
    let one : LoggedTurn = record { turn = turn; parts = two_parts quit letter; typed = typed; pressed = pressed } in
    let taken : AreTaken did obeyed stored d device old (run_steps first (one ∷ [])) device' new =
    subst (λ xs. AreTaken did obeyed stored d device old xs device' new) (logged.order ∙ ap (run_steps first) are) logged.taken in
    let read = taken.3.3 in
    let append = read.3 in
    let obeys = append.3 in
    let append_next = obeys.3 in
    let obeys_next = append_next.3 in (
      read.0,
      append.0,
      obeys.0,
      append_next.0,
      obeys_next.0,
      append.1,
      obeys.1,
      append_next.1,
      obeys_next.1,
      append.2.does,
      obeys.2.does,
      append_next.2.does,
      obeys_next.2.does,
    )

-- ---- what no run does

-- what follows the first three steps
abbrev behind_three : List Step → List Step
behind_three (a ∷ b ∷ c ∷ more) = more
behind_three _ = []

-- what follows the next two
abbrev behind_two : List Step → List Step
behind_two (a ∷ b ∷ more) = more
behind_two _ = []

-- no turn begins with an append
no_turn_appends_first : (turns : List LoggedTurn) (bytes : List ℕ) (more : List Step) → turns_steps turns ≡ Calls (Append bytes) ∷ more → ⊥
no_turn_appends_first [] bytes more is = cc is
no_turn_appends_first (turn ∷ turns) bytes more is = cc is

abbrev rest_of : List Part → List ℕ → List LoggedTurn → List Step
rest_of parts written turns = (part_steps parts ++ sending written) ++ turns_steps turns

-- no run obeys a press whose bytes the journal was not handed
pub no_press_is_obeyed_before_the_journal : (limit : ℕ) (first bytes : List ℕ) (a : PressAnswer) (turns : List LoggedTurn) (more : List Step)
    → IsLog limit (Ok Quit) first turns (sending [] ++ Calls (Read bytes) ∷ Obeys a ∷ more) → ⊥
no_press_is_obeyed_before_the_journal limit first bytes a [] more is = cc is
no_press_is_obeyed_before_the_journal limit first bytes a (turn ∷ turns) more is =
    obeys_first turn.parts turn.turn.written turns (sym (ap behind_three is)) where
      obeys_first : (parts : List Part) (written : List ℕ) (others : List LoggedTurn) → rest_of parts written others ≡ Obeys a ∷ more → ⊥
      obeys_first [] written others h = cc h
      obeys_first (part ∷ parts) written others h = cc h

-- no run sends the output of a read before the journal has its bytes
written_then_kept : (parts : List Part) (written output bytes : List ℕ) (turns : List LoggedTurn)
    → rest_of parts written turns ≡ sending output ++ Calls (Append bytes) ∷ [] → ⊥
written_then_kept [] written output bytes turns is = no_turn_appends_first turns bytes [] (ap behind_two is)
written_then_kept (part ∷ parts) written output bytes turns is = cc is

pub no_output_before_the_journal : (limit : ℕ) (first bytes output : List ℕ) (turns : List LoggedTurn)
    → IsLog limit (Ok Quit) first turns (sending [] ++ Calls (Read bytes) ∷ (sending output ++ Calls (Append bytes) ∷ [])) → ⊥
no_output_before_the_journal limit first bytes output [] is = cc is
no_output_before_the_journal limit first bytes output (turn ∷ more) is =
    written_then_kept turn.parts turn.turn.written output bytes more (sym (ap behind_three is))

-- no run hands all its bytes to the journal at its end
kept_at_the_end : (parts : List Part) (written output more_bytes more_output all : List ℕ) (turns : List LoggedTurn)
    → rest_of parts written turns ≡ sending output ++ Calls (Read more_bytes) ∷ (sending more_output ++ Calls (Append all) ∷ []) → ⊥
kept_at_the_end (part ∷ parts) written output more_bytes more_output all turns is = cc is
kept_at_the_end [] written output more_bytes more_output all [] is =
    let none : [] ≡ Calls (Read more_bytes) ∷ (sending more_output ++ Calls (Append all) ∷ []) = ap behind_two is in cc none
kept_at_the_end [] written output more_bytes more_output all (turn ∷ turns) is =
    written_then_kept turn.parts turn.turn.written more_output all turns (ap behind_three is)

pub no_append_at_the_end : (limit : ℕ) (first bytes more_bytes output more_output all : List ℕ) (turns : List LoggedTurn)
    → IsLog limit (Ok Quit) first turns
    (sending [] ++ Calls (Read bytes) ∷ (sending output ++ Calls (Read more_bytes) ∷ (sending more_output ++ Calls (Append all) ∷ []))) → ⊥
no_append_at_the_end limit first bytes more_bytes output more_output all [] is = cc is
no_append_at_the_end limit first bytes more_bytes output more_output all (turn ∷ more) is =
    kept_at_the_end turn.parts turn.turn.written output more_bytes more_output all more (sym (ap behind_three is))

-- a part is obeyed before the next read
read_at_once : (typed : List ℕ) (pressed : List PressAnswer) (parts : List Part) (written kept : List ℕ) (turns : List LoggedTurn) (bytes : List ℕ) (more : List Step)
    → rest_of (record { typed = typed; pressed = pressed } ∷ parts) written turns ≡ Calls (Append kept) ∷ Calls (Read bytes) ∷ more → ⊥
read_at_once typed [] [] written kept turns bytes more is = cc is
read_at_once typed [] (next ∷ parts) written kept turns bytes more is = cc is
read_at_once typed (a ∷ pressed) parts written kept turns bytes more is = cc is

-- no run sends its output only after two reads
two_reads : (parts : List Part) (written kept : List ℕ) (turns : List LoggedTurn) (bytes : List ℕ) (more : List Step)
    → rest_of parts written turns ≡ Calls (Append kept) ∷ Calls (Read bytes) ∷ more → ⊥
two_reads [] written kept turns bytes more is = cc is
two_reads (part ∷ parts) written kept turns bytes more is = read_at_once part.typed part.pressed parts written kept turns bytes more is

pub no_output_after_two_reads : (limit : ℕ) (first bytes more_bytes : List ℕ) (turns : List LoggedTurn) (more : List Step)
    → IsLog limit (Ok Quit) first turns (sending [] ++ Calls (Read bytes) ∷ Calls (Append bytes) ∷ Calls (Read more_bytes) ∷ more) → ⊥
no_output_after_two_reads limit first bytes more_bytes [] more is = cc is
no_output_after_two_reads limit first bytes more_bytes (turn ∷ turns) more is =
    two_reads turn.parts turn.turn.written bytes turns more_bytes more (sym (ap behind_three is))

-- no run goes on without a flush
pub no_run_without_a_flush : (limit : ℕ) (first bytes : List ℕ) (turns : List LoggedTurn) (more : List Step)
    → IsLog limit (Ok Quit) first turns (Calls (Write []) ∷ Calls (Read bytes) ∷ more) → ⊥
no_run_without_a_flush limit first bytes turns more is = cc is

-- ---- how a run ended

not_last : (before : List Step) (output : List ℕ) (last : Step) → last ≢ Calls Flush → sending output ≢ before ++ last ∷ []
not_last [] output last other is = absurd (cc is)
not_last (x ∷ []) output last other is = other (cc is)
not_last (x ∷ y ∷ before) output last other is =
    absurd (let count = ap (λ (xs : List Step). length xs) is in omega (arith, count, length-append before (last ∷ [])))

-- where all was written and flushed, the writer did not fail
pub no_write_fault_without_one : (limit : ℕ) (first output : List ℕ) (turns : List LoggedTurn)
    → IsLog limit (Err WriteFault) first turns (sending output) → ⊥
no_write_fault_without_one limit first output turns (before, written, failed, whole, is, inl alone) =
    not_last before output (Calls (WriteFailed written)) (λ h. absurd (cc h)) (is ∙ ap (λ xs. before ++ xs) alone)
no_write_fault_without_one limit first output turns (before, written, failed, whole, is, inr both) =
    not_last (before ++ Calls (Write written) ∷ []) output (Calls FlushFailed) (λ h. absurd (cc h))
    (is ∙ ap (λ xs. before ++ xs) both ∙ sym (append_assoc before (Calls (Write written) ∷ []) (Calls FlushFailed ∷ [])))

-- where no read was tried, none failed
pub no_read_fault_without_one : (limit : ℕ) (first output : List ℕ) (turns : List LoggedTurn)
    → IsLog limit (Err ReadFault) first turns (sending output) → ⊥
no_read_fault_without_one limit first output [] is = cc is
no_read_fault_without_one limit first output (turn ∷ more) is = cc is
