-- The log of a run, turn by turn.
use Rattle.std.proofs.Common.{◌≡◌, ℕ, ◌+◌, ◌≤◌, Bool, false, List, [], ◌∷◌, ◌++◌, length, map, None, Result, Ok, Err, inl, inr}
use Rattle.std.proofs.Common.{refl, sym, ap, subst, ◌∙◌, append_assoc}
use Rattle.std.proofs.lemmas.List.{append-nil, length-append, map-append}
use Rattle.bx_ucd.specs.Data.{Data}
use Rattle.bx_session.specs.declared.action.Action.{Action}
use Rattle.bx_session.specs.declared.action.Action.TheVariants.{Read, ReadFailed, Append}
use Rattle.bx_session.specs.declared.end.End.{End}
use Rattle.bx_session.specs.declared.end.End.TheVariants.{Quit, InputEnded}
use Rattle.bx_session.specs.declared.end.RunFault.{RunFault}
use Rattle.bx_session.specs.declared.end.RunFault.TheVariants.{ReadFault, WriteFault, ReadLimit}
use Rattle.bx_session.specs.Session.{Session, StoreState}
use Rattle.bx_session.specs.Inputs.{rest_from}
use Rattle.bx_session.specs.Running.{PressAnswer, TypedUntilEnd, Sent, read_in, read_size, typed_in}
use Rattle.bx_session.specs.Log.{Step, Calls, AreTaken, ArePartsFrom, HasLogged, IsLog, FailsLast, IsFailedSending, LoggedTurn, Part}
use Rattle.bx_session.specs.Log.{bytes_by, obeyed_in, read_by, kept_by, written_by, part_steps, parts_of, pressed_in_parts, sending, run_steps, typed_in_parts}
use Rattle.bx_session.proofs.Steps.{bytes_more, obeyed_more, parts_read, parts_keep, parts_write, parts_obey, run_more, taken_more, unwritten}
use Rattle.bx_session.proofs.Steps.{parts_from_both, parts_of_both, typed_parts_both}
use Rattle.bx_session.proofs.Turns.{started, stored_on, turned, read_on, run_drops}

-- ---- a sending

-- what a sending reads, hands to the journal, obeys and writes
record IsSentAlone (written : List ℕ) (steps : List Step) : Type 0 where
  reads : bytes_by read_by steps ≡ []
  keeps : bytes_by kept_by steps ≡ []
  obeys : obeyed_in steps ≡ []
  writes : bytes_by written_by steps ≡ written

whole_alone : (written : List ℕ) (steps : List Step) → steps ≡ sending written → IsSentAlone written steps
whole_alone written steps is = record {
  reads = ap (bytes_by read_by) is;
  keeps = ap (bytes_by kept_by) is;
  obeys = ap obeyed_in is;
  writes = ap (bytes_by written_by) is ∙ append-nil written;
}

failed_alone : (written : List ℕ) (steps : List Step) → IsFailedSending written steps → IsSentAlone written steps
failed_alone written steps (inl is) = record {
  reads = ap (bytes_by read_by) is;
  keeps = ap (bytes_by kept_by) is;
  obeys = ap obeyed_in is;
  writes = ap (bytes_by written_by) is ∙ append-nil written;
}
failed_alone written steps (inr is) = record {
  reads = ap (bytes_by read_by) is;
  keeps = ap (bytes_by kept_by) is;
  obeys = ap obeyed_in is;
  writes = ap (bytes_by written_by) is ∙ append-nil written;
}

-- the steps of a turn that sends by these steps
abbrev turn_by : List ℕ → List Part → List Step → List Step
turn_by bytes parts sends = Calls (Read bytes) ∷ (part_steps parts ++ sends)

whole_turn : (log : List Step) (first : List ℕ) (turns : List LoggedTurn) (logged : LoggedTurn) (bytes : List ℕ) (sends : List Step)
    → log ≡ run_steps first turns → bytes ≡ read_in logged.turn → sends ≡ sending logged.turn.written
    → log ++ turn_by bytes logged.parts sends ≡ run_steps first (turns ++ logged ∷ [])
whole_turn log first turns logged bytes sends order are is =
    ap (λ xs. xs ++ turn_by bytes logged.parts sends) order
    ∙ ap (λ xs. run_steps first turns ++ turn_by xs logged.parts sends) are
    ∙ ap (λ xs. run_steps first turns ++ turn_by (read_in logged.turn) logged.parts xs) is
    ∙ sym (run_more first turns logged)

failed_turn : (log : List Step) (first : List ℕ) (turns : List LoggedTurn) (logged : LoggedTurn) (bytes : List ℕ) (sends : List Step)
    → log ≡ run_steps first turns → bytes ≡ read_in logged.turn → IsFailedSending logged.turn.written sends
    → FailsLast (log ++ turn_by bytes logged.parts sends) (run_steps first (turns ++ logged ∷ []))
failed_turn log first turns logged bytes sends order are failed =
    let kept : List Step = Calls (Read bytes) ∷ part_steps logged.parts in
    let whole : List Step = sending logged.turn.written in (
      log ++ kept,
      logged.turn.written,
      sends,
      sym (whole_turn log first turns logged bytes whole order are refl) ∙ sym (append_assoc log kept whole),
      sym (append_assoc log kept sends),
      failed,
    )

-- what the steps of a turn read, hand to the journal, obey and write
record IsTurnAlone (bytes written : List ℕ) (parts : List Part) (sends : List Step) : Type 0 where
  reads : bytes_by read_by (turn_by bytes parts sends) ≡ bytes
  keeps : bytes_by kept_by (turn_by bytes parts sends) ≡ typed_in_parts parts
  obeys : obeyed_in (turn_by bytes parts sends) ≡ pressed_in_parts parts
  writes : bytes_by written_by (turn_by bytes parts sends) ≡ written

turn_alone : (bytes written : List ℕ) (parts : List Part) (sends : List Step) → IsSentAlone written sends
    → IsTurnAlone bytes written parts sends
turn_alone bytes written parts sends alone = record {
  reads = ap (λ xs. bytes ++ xs)
      (bytes_more read_by (part_steps parts) sends ∙ ap (λ xs. xs ++ bytes_by read_by sends) (parts_read parts) ∙ alone.reads)
      ∙ append-nil bytes;
  keeps = bytes_more kept_by (part_steps parts) sends
      ∙ ap (λ xs. bytes_by kept_by (part_steps parts) ++ xs) alone.keeps
      ∙ append-nil (bytes_by kept_by (part_steps parts))
      ∙ parts_keep parts;
  obeys = obeyed_more (part_steps parts) sends
      ∙ ap (λ xs. obeyed_in (part_steps parts) ++ xs) alone.obeys
      ∙ append-nil (obeyed_in (part_steps parts))
      ∙ parts_obey parts;
  writes = bytes_more written_by (part_steps parts) sends ∙ ap (λ xs. xs ++ bytes_by written_by sends) (parts_write parts) ∙ alone.writes;
}

-- the bytes of the parts of turns are those typed in the turns
typed_by_turns : (turns : List LoggedTurn) → typed_in_parts (parts_of turns) ≡ typed_in (map (λ (l : LoggedTurn). l.turn) turns)
typed_by_turns [] = refl
typed_by_turns (first ∷ turns) =
    typed_parts_both first.parts (parts_of turns)
    ∙ ap (λ xs. xs ++ typed_in_parts (parts_of turns)) first.typed
    ∙ ap (λ xs. first.turn.typed ++ xs) (typed_by_turns turns)

module _ {V : Type 0} (did : V → Action → V → Type 0) (obeyed : V → Session → PressAnswer → V → Session → Type 0) (stored : V → StoreState) where
  pub as_write_fault : (d : Data) (limit : ℕ) (result : Result End RunFault) (rest rest' : List ℕ) (old new : Session) (device device' : V) → result ≡ Err WriteFault
      → HasLogged did obeyed stored d limit (Err WriteFault) rest rest' old new device device'
      → HasLogged did obeyed stored d limit result rest rest' old new device device'
  as_write_fault d limit result rest rest' old new device device' is logged =
      subst (λ (r : Result End RunFault). HasLogged did obeyed stored d limit r rest rest' old new device device') (sym is) logged

  -- ---- the first sending

  module _ (d : Data) (limit : ℕ) (rest : List ℕ) (s s1 : Session) (device device1 : V) (written : List ℕ) (steps : List Step) (sent : Sent s s1 None None written)
      (taken : AreTaken did obeyed stored d device s steps device1 s1) (same : stored device1 ≡ stored device) where
    pub first_sent : steps ≡ sending written → HasLogged did obeyed stored d limit (Ok Quit) rest rest s s1 device device1
    unfolding started
    first_sent is = record {
      typed = [];
      answered = [];
      dropped = [];
      written = written;
      all = s;
      run = started d rest s s1 (stored device) (stored device1) None None None written same sent;
      log = steps;
      taken = taken;
      turns = [];
      in_turns = refl;
      in_parts = tt;
      order = is;
      reads = (whole_alone written steps is).reads;
      keeps = (whole_alone written steps is).keeps;
      obeys = (whole_alone written steps is).obeys;
      writes = (whole_alone written steps is).writes;
    }

    pub no_turns : (is : steps ≡ sending written) → length (first_sent is).turns ≡ 0
    unfolding first_sent
    no_turns is = refl

    pub first_failed : IsFailedSending written steps → HasLogged did obeyed stored d limit (Err WriteFault) rest rest s s1 device device1
    unfolding started
    first_failed failed = record {
      typed = [];
      answered = [];
      dropped = [];
      written = written;
      all = s;
      run = started d rest s s1 (stored device) (stored device1) None None None written same sent;
      log = steps;
      taken = taken;
      turns = [];
      in_turns = refl;
      in_parts = tt;
      order = ([], written, steps, refl, refl, failed);
      reads = (failed_alone written steps failed).reads;
      keeps = (failed_alone written steps failed).keeps;
      obeys = (failed_alone written steps failed).obeys;
      writes = (failed_alone written steps failed).writes;
    }

  -- ---- one turn more

  -- what happened in a turn, between its read and its end; the tables stay the same
  pub record InTurn {D : Type 0} (ucd : D → Data) (tables tables1 : D) (rest1 rest2 : List ℕ) (s s2 s3 : Session) (device1 device2 device3 : V)
      (typed : List ℕ) (answered : List PressAnswer) (dropped written bytes : List ℕ) (parts : List Part) (sends : List Step) : Type 0 where
    pub stay : tables1 ≡ tables
    pub empty : s.pending ≡ []
    pub running : s.editor.ended ≡ false
    pub some : 1 ≤ length bytes
    pub most : length bytes ≤ read_size
    pub mid : V
    pub reads : did device1 (Read bytes) mid
    pub reads_stored : stored mid ≡ stored device1
    pub fed : TypedUntilEnd (ucd tables1) rest1 s (stored mid) bytes s2 (stored device2) typed answered dropped
    pub waits : rest2 ≡ rest_from rest1 typed
    pub kept : AreTaken did obeyed stored (ucd tables1) mid s (part_steps parts) device2 s2
    pub in_parts : ArePartsFrom rest1 parts
    pub types : typed_in_parts parts ≡ typed
    pub presses : pressed_in_parts parts ≡ answered
    pub sent : Sent s2 s3 None None written
    pub sends_taken : (d : Data) → AreTaken did obeyed stored d device2 s2 sends device3 s3
    pub sends_stored : stored device3 ≡ stored device2

  module _ {D : Type 0} (ucd : D → Data) (tables tables1 : D) (limit : ℕ) (rest rest1 rest2 : List ℕ) (old s s2 s3 : Session)
      (device device1 device2 device3 : V) (typed : List ℕ) (answered : List PressAnswer) (dropped written bytes : List ℕ) (parts : List Part) (sends : List Step)
      (before : HasLogged did obeyed stored (ucd tables) limit (Ok Quit) rest rest1 old s device device1)
      (turn : InTurn ucd tables tables1 rest1 rest2 s s2 s3 device1 device2 device3 typed answered dropped written bytes parts sends) where
    abbrev this : LoggedTurn
    this = record {
      turn = record { typed = typed; pressed = answered; dropped = dropped; written = written };
      parts = parts;
      typed = turn.types;
      pressed = turn.presses;
    }

    -- the steps of the turn
    turn_taken : AreTaken did obeyed stored (ucd tables) device1 s (turn_by bytes parts sends) device3 s3
    turn_taken =
        let d = ucd tables in
        let kept : AreTaken did obeyed stored d turn.mid s (part_steps parts) device2 s2 =
        subst (λ (t : D). AreTaken did obeyed stored (ucd t) turn.mid s (part_steps parts) device2 s2) turn.stay turn.kept in (
          turn.mid,
          s,
          unwritten did obeyed stored d device1 turn.mid s (Read bytes) refl turn.reads turn.reads_stored,
          taken_more did obeyed stored d turn.mid device2 device3 s s2 s3 (part_steps parts) sends kept (turn.sends_taken d),
        )

    turn_fed : TypedUntilEnd (ucd tables1) rest1 s (stored device1) bytes s2 (stored device3) typed answered dropped
    turn_fed =
        subst (λ (x : StoreState). TypedUntilEnd (ucd tables1) rest1 s x bytes s2 (stored device3) typed answered dropped) turn.reads_stored
        (subst (λ (x : StoreState). TypedUntilEnd (ucd tables1) rest1 s (stored turn.mid) bytes s2 x typed answered dropped) (sym turn.sends_stored) turn.fed)

    -- its parts, behind those before
    turn_parts : ArePartsFrom rest (parts_of (before.turns ++ this ∷ []))
    turn_parts =
        let all : parts_of (before.turns ++ this ∷ []) ≡ parts_of before.turns ++ parts =
        parts_of_both before.turns (this ∷ []) ∙ ap (λ ps. parts_of before.turns ++ ps) (append-nil parts) in
        let so_far : typed_in_parts (parts_of before.turns) ≡ before.typed =
        typed_by_turns before.turns ∙ ap typed_in before.in_turns ∙ before.run.in_turns.types in
        let here : rest1 ≡ rest_from rest (typed_in_parts (parts_of before.turns)) = before.run.waits ∙ ap (rest_from rest) (sym so_far) in
        subst (ArePartsFrom rest) (sym all)
        (parts_from_both rest (parts_of before.turns) parts before.in_parts (subst (λ (xs : List ℕ). ArePartsFrom xs parts) here turn.in_parts))

    -- the turn, where its sending went so and left a log of this answer
    turn_more : (result : Result End RunFault) → IsSentAlone written sends
        → IsLog limit result before.run.in_turns.first (before.turns ++ this ∷ []) (before.log ++ turn_by bytes parts sends)
        → HasLogged did obeyed stored (ucd tables) limit result rest rest2 old s3 device device3
    unfolding turned
    turn_more result alone order =
        let drops = run_drops (ucd tables) rest rest1 old s (stored device) (stored device1) None None None None before.typed before.answered before.dropped
        before.written before.all before.run in
        let on = read_on s before.typed typed before.dropped dropped bytes drops turn.running turn_fed.all in
        let own = turn_alone bytes written parts sends alone in record {
          typed = before.typed ++ typed;
          answered = before.answered ++ answered;
          dropped = dropped;
          written = before.written ++ written;
          all = record s2 { pending = before.all.pending ++ s2.pending };
          run = turned ucd tables tables1 rest rest1 rest2 old s s2 s3 (stored device) (stored device1) (stored device3) None None None None None None
              before.typed typed before.answered answered before.dropped dropped before.written written bytes before.all before.run turn.stay turn.empty
              turn.running turn.some turn.most tt turn_fed turn.waits turn.sent;
          log = before.log ++ turn_by bytes parts sends;
          taken = taken_more did obeyed stored (ucd tables) device device1 device3 old s s3 before.log (turn_by bytes parts sends) before.taken turn_taken;
          turns = before.turns ++ this ∷ [];
          in_turns = map-append (λ (l : LoggedTurn). l.turn) before.turns (this ∷ []) ∙ ap (λ xs. xs ++ this.turn ∷ []) before.in_turns;
          in_parts = turn_parts;
          order = order;
          reads = bytes_more read_by before.log (turn_by bytes parts sends)
              ∙ ap (λ xs. bytes_by read_by before.log ++ xs) own.reads
              ∙ ap (λ xs. xs ++ bytes) before.reads
              ∙ on;
          keeps = bytes_more kept_by before.log (turn_by bytes parts sends)
              ∙ ap (λ xs. bytes_by kept_by before.log ++ xs) (own.keeps ∙ turn.types)
              ∙ ap (λ xs. xs ++ typed) before.keeps;
          obeys = obeyed_more before.log (turn_by bytes parts sends)
              ∙ ap (λ xs. obeyed_in before.log ++ xs) (own.obeys ∙ turn.presses)
              ∙ ap (λ xs. xs ++ answered) before.obeys;
          writes = bytes_more written_by before.log (turn_by bytes parts sends)
              ∙ ap (λ xs. bytes_by written_by before.log ++ xs) own.writes
              ∙ ap (λ xs. xs ++ written) before.writes;
        }

    pub turn_sent : sends ≡ sending written → (after : HasLogged did obeyed stored (ucd tables) limit (Ok Quit) rest rest2 old s3 device device3)
        × (length after.turns ≡ length before.turns + 1)
    unfolding turn_more
    turn_sent is = (
      turn_more (Ok Quit) (whole_alone written sends is)
          (whole_turn before.log before.run.in_turns.first before.turns this bytes sends before.order turn.fed.all is),
      length-append before.turns (this ∷ []),
    )

    pub turn_failed : IsFailedSending written sends → HasLogged did obeyed stored (ucd tables) limit (Err WriteFault) rest rest2 old s3 device device3
    turn_failed failed =
        turn_more (Err WriteFault) (failed_alone written sends failed)
        (failed_turn before.log before.run.in_turns.first before.turns this bytes sends before.order turn.fed.all failed)

  -- ---- the end

  module _ (d : Data) (limit : ℕ) (rest rest1 : List ℕ) (old s : Session) (device device1 : V)
      (before : HasLogged did obeyed stored d limit (Ok Quit) rest rest1 old s device device1) where
    -- calls that read, append and write nothing
    then_nothing : (result : Result End RunFault) (device2 : V) (steps : List Step) → AreTaken did obeyed stored d device1 s steps device2 s
        → stored device2 ≡ stored device1 → IsLog limit result before.run.in_turns.first before.turns (before.log ++ steps)
        → bytes_by read_by steps ≡ [] → bytes_by kept_by steps ≡ [] → obeyed_in steps ≡ [] → bytes_by written_by steps ≡ []
        → HasLogged did obeyed stored d limit result rest rest1 old s device device2
    unfolding stored_on
    then_nothing result device2 steps taken same order reads keeps obeys writes = record {
      typed = before.typed;
      answered = before.answered;
      dropped = before.dropped;
      written = before.written;
      all = before.all;
      run = stored_on d rest rest1 old s (stored device) (stored device1) (stored device2) None None None None before.typed before.answered before.dropped
          before.written before.all same before.run;
      log = before.log ++ steps;
      taken = taken_more did obeyed stored d device device1 device2 old s s before.log steps before.taken taken;
      turns = before.turns;
      in_turns = before.in_turns;
      in_parts = before.in_parts;
      order = order;
      reads = bytes_more read_by before.log steps
          ∙ ap (λ xs. bytes_by read_by before.log ++ xs) reads
          ∙ append-nil (bytes_by read_by before.log)
          ∙ before.reads;
      keeps = bytes_more kept_by before.log steps
          ∙ ap (λ xs. bytes_by kept_by before.log ++ xs) keeps
          ∙ append-nil (bytes_by kept_by before.log)
          ∙ before.keeps;
      obeys = obeyed_more before.log steps ∙ ap (λ xs. obeyed_in before.log ++ xs) obeys ∙ append-nil (obeyed_in before.log) ∙ before.obeys;
      writes = bytes_more written_by before.log steps
          ∙ ap (λ xs. bytes_by written_by before.log ++ xs) writes
          ∙ append-nil (bytes_by written_by before.log)
          ∙ before.writes;
    }

    pub input_ended : (changed : Bool) (mid device2 : V) (bytes : List ℕ) → bytes ≡ [] → did device1 (Read bytes) mid → stored mid ≡ stored device1
        → did mid (Append bytes) device2 → stored device2 ≡ stored mid → HasLogged did obeyed stored d limit (Ok (InputEnded changed)) rest rest1 old s device device2
    input_ended changed mid device2 bytes none reads same appends same' =
        then_nothing (Ok (InputEnded changed)) device2 (Calls (Read []) ∷ Calls (Append []) ∷ []) (
          mid,
          s,
          unwritten did obeyed stored d device1 mid s (Read []) refl (subst (λ xs. did device1 (Read xs) mid) none reads) same,
          (device2, s, unwritten did obeyed stored d mid device2 s (Append []) refl (subst (λ xs. did mid (Append xs) device2) none appends) same', (refl, refl)),
        ) (same' ∙ same) (ap (λ xs. xs ++ Calls (Read []) ∷ Calls (Append []) ∷ []) before.order) refl refl refl refl

    pub read_failed : (device2 : V) → did device1 ReadFailed device2 → stored device2 ≡ stored device1
        → HasLogged did obeyed stored d limit (Err ReadFault) rest rest1 old s device device2
    read_failed device2 failed same =
        then_nothing (Err ReadFault) device2 (Calls ReadFailed ∷ [])
        (device2, s, unwritten did obeyed stored d device1 device2 s ReadFailed refl failed same, (refl, refl)) same
        (ap (λ xs. xs ++ Calls ReadFailed ∷ []) before.order) refl refl refl refl

    pub limit_reached : length before.turns ≡ limit → HasLogged did obeyed stored d limit (Err ReadLimit) rest rest1 old s device device1
    limit_reached count = record {
      typed = before.typed;
      answered = before.answered;
      dropped = before.dropped;
      written = before.written;
      all = before.all;
      run = before.run;
      log = before.log;
      taken = before.taken;
      turns = before.turns;
      in_turns = before.in_turns;
      in_parts = before.in_parts;
      order = (before.order, count);
      reads = before.reads;
      keeps = before.keeps;
      obeys = before.obeys;
      writes = before.writes;
    }
