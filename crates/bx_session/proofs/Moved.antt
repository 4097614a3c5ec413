-- What moves through a reader, a recorder and a writer.
use Rattle.std.proofs.Common.{◌≡◌, ◌≤◌, ℕ, List, [], ◌∷◌, ◌++◌, length, map, Option, None, Result, Ok, Err, refl, sym, ap, subst, ◌∙◌, arith}
use Rattle.std.specs.Prelude.{IsErrOf}
use Rattle.std.specs.Io.KnownBytes.{Appends, Consumes, IsAtEnd}
use Rattle.std.proofs.KnownBytes.{Consumes-nil, Consumes-trans, Appends-nil, Appends-trans}
use Rattle.std.proofs.lemmas.List.{length-append}
use Rattle.bx_store.specs.declared.faults.Faults.{Faults}
use Rattle.bx_ucd.specs.Data.{Data}
use Rattle.bx_session.specs.declared.action.Action.{Action}
use Rattle.bx_session.specs.declared.action.Action.TheVariants.{Read, Append}
use Rattle.bx_session.specs.declared.end.End.{End}
use Rattle.bx_session.specs.declared.end.End.TheVariants.{Quit, InputEnded}
use Rattle.bx_session.specs.declared.end.RunFault.{RunFault}
use Rattle.bx_session.specs.declared.end.RunFault.TheVariants.{ReadFault, WriteFault, ReadLimit}
use Rattle.bx_session.specs.declared.wired.Wired.{Wired}
use Rattle.bx_session.specs.Session.{Session, StoreState, store_state}
use Rattle.bx_session.specs.Running.{PressAnswer, EndsWith, HasRead, Turn, TakesTurns, read_in}
use Rattle.bx_session.specs.Journal.{HasKept, RunsRecorded}
use Rattle.bx_session.specs.Log.{Step, Calls, Obeys, AreTaken, HasLogged, LoggedTurn}
use Rattle.bx_session.specs.Log.{bytes_by, read_by, kept_by, written_by, part_steps, sending, turn_steps, turns_steps, run_steps}
use Rattle.bx_session.specs.Wire.{AreSameParts, HasMoved, DidWired, ObeyedWired}
use Rattle.bx_session.proofs.Recorded.{kept_more, kept_nothing}
use Rattle.bx_session.proofs.Steps.{bytes_more, parts_read}

-- what a turn read
turn_reads : (logged : LoggedTurn) (more : List Step) → bytes_by read_by (turn_steps logged ++ more) ≡ read_in logged.turn ++ bytes_by read_by more
turn_reads logged more =
    let sends = sending logged.turn.written in
    ap (λ xs. read_in logged.turn ++ xs)
    (bytes_more read_by (part_steps logged.parts ++ sends) more
    ∙ ap (λ xs. xs ++ bytes_by read_by more)
    (bytes_more read_by (part_steps logged.parts) sends ∙ ap (λ xs. xs ++ []) (parts_read logged.parts)))

-- each turn read a byte at least
turns_read : (d : Data) (s s' : Session) (store store' : StoreState) (turns : List LoggedTurn)
    → TakesTurns d s store (map (λ logged. logged.turn) turns) s' store' → length turns ≤ length (bytes_by read_by (turns_steps turns))
turns_read d s s' store store' [] takes = omega arith
turns_read d s s' store store' (logged ∷ more) takes =
    let some = takes.3.some in
    let others = turns_read d takes.0 s' takes.1 store' more takes.5 in
    omega (
      arith,
      some,
      others,
      length-append (read_in logged.turn) (bytes_by read_by (turns_steps more)),
      ap (λ (xs : List ℕ). length xs) (turn_reads logged (turns_steps more)),
    )

module _ {R J W S : Type 0} (remaining : R → Option (List ℕ)) (contents : J → Option (List ℕ)) (failures : J → ℕ) (out : W → Option (List ℕ))
    (saved : S → Option (List ℕ)) (faults : S → Faults) where
  abbrev did : Wired R J W S → Action → Wired R J W S → Type 0
  did = DidWired remaining contents failures out

  abbrev obeyed : Wired R J W S → Session → PressAnswer → Wired R J W S → Session → Type 0
  obeyed old before answer new after = ObeyedWired old new

  abbrev stored : Wired R J W S → StoreState
  stored device = store_state saved faults device.store.now

  none_moved : (s : Wired R J W S) → HasMoved remaining contents failures out s s [] [] []
  none_moved s = record {
    same = record { reader = refl; recorder = refl; writer = refl; store = refl };
    reads = Consumes-nil (remaining s.reader.now);
    keeps = kept_nothing contents failures s.recorder.now;
    writes = Appends-nil (out s.writer.now);
  }

  moved_more : (a b c : Wired R J W S) (read read' kept kept' written written' : List ℕ) → HasMoved remaining contents failures out a b read kept written
      → HasMoved remaining contents failures out b c read' kept' written'
      → HasMoved remaining contents failures out a c (read ++ read') (kept ++ kept') (written ++ written')
  moved_more a b c read read' kept kept' written written' first next = record {
    same = record {
      reader = next.same.reader ∙ first.same.reader;
      recorder = next.same.recorder ∙ first.same.recorder;
      writer = next.same.writer ∙ first.same.writer;
      store = next.same.store ∙ first.same.store;
    };
    reads = Consumes-trans (remaining a.reader.now) (remaining b.reader.now) (remaining c.reader.now) read read' first.reads next.reads;
    keeps = kept_more contents failures a.recorder.now b.recorder.now c.recorder.now kept kept' first.keeps next.keeps;
    writes = Appends-trans (out a.writer.now) (out b.writer.now) (out c.writer.now) written written' first.writes next.writes;
  }

  -- the obeying of a press moves nothing
  obeyed_moved : (a b : Wired R J W S) → ObeyedWired a b → HasMoved remaining contents failures out a b [] [] []
  obeyed_moved a b is = record {
    same = is.same;
    reads = rw is.reader (Consumes-nil (remaining a.reader.now));
    keeps = rw is.recorder (kept_nothing contents failures a.recorder.now);
    writes = rw is.writer (Appends-nil (out a.writer.now));
  }

  all_moved : (d : Data) (a b : Wired R J W S) (s s' : Session) (steps : List Step) → AreTaken did obeyed stored d a s steps b s'
      → HasMoved remaining contents failures out a b (bytes_by read_by steps) (bytes_by kept_by steps) (bytes_by written_by steps)
  all_moved d a b s s' [] is = subst (λ (x : Wired R J W S). HasMoved remaining contents failures out a x [] [] []) (sym is.0) (none_moved a)
  all_moved d a b s s' (Calls action ∷ more) taken =
      moved_more a taken.0 b (read_by action) (bytes_by read_by more) (kept_by action) (bytes_by kept_by more) (written_by action) (bytes_by written_by more)
      taken.2.does.moves (all_moved d taken.0 b taken.1 s' more taken.3)
  all_moved d a b s s' (Obeys answer ∷ more) taken =
      moved_more a taken.0 b [] (bytes_by read_by more) [] (bytes_by kept_by more) [] (bytes_by written_by more)
      (obeyed_moved a taken.0 taken.2.does) (all_moved d taken.0 b taken.1 s' more taken.3)

  at_end : (d : Data) (a b : Wired R J W S) (s s' : Session) (front : List Step)
      → AreTaken did obeyed stored d a s (front ++ Calls (Read []) ∷ Calls (Append []) ∷ []) b s' → IsAtEnd (remaining b.reader.now)
  at_end d a b s s' [] taken =
      let same = ap (λ (x : Wired R J W S). x.reader.now) taken.3.3.0 ∙ taken.3.2.does.others.0 in
      subst (λ (r : R). IsAtEnd (remaining r)) (sym same) (taken.2.does.end refl)
  at_end d a b s s' (step ∷ front) taken = at_end d taken.0 b taken.1 s' front taken.3

  module _ (d : Data) (limit : ℕ) (result : Result End RunFault) (rest rest' : List ℕ) (old new : Session) (device device' : Wired R J W S)
      (logged : HasLogged did obeyed stored d limit result rest rest' old new device device') where
    moved : HasMoved remaining contents failures out device device' (bytes_by read_by logged.log) (bytes_by kept_by logged.log) (bytes_by written_by logged.log)
    moved = all_moved d device device' old new logged.log logged.taken

    pub same_parts : AreSameParts device device'
    same_parts = moved.same

    pub recorded : RunsRecorded contents failures d rest rest' old new (stored device) (stored device') (remaining device.reader.now) (remaining device'.reader.now)
        (out device.writer.now) (out device'.writer.now) device.recorder.now device'.recorder.now
    recorded =
        let run = logged.run in (
          logged.typed,
          logged.answered,
          logged.dropped,
          logged.written,
          logged.all,
          record {
            feeds = run.feeds;
            presses = run.presses;
            waits = run.waits;
            reads = subst (Consumes (remaining device.reader.now) (remaining device'.reader.now)) logged.reads moved.reads;
            drops = run.drops;
            few = run.few;
            writes = subst (Appends (out device.writer.now) (out device'.writer.now)) logged.writes moved.writes;
            order = run.order;
            session = run.session;
            in_turns = run.in_turns;
          },
          subst (HasKept contents failures device.recorder.now device'.recorder.now) logged.keeps moved.keeps,
        )

  pub ended_with : (d : Data) (limit : ℕ) (result : Result End RunFault) (rest rest' : List ℕ) (old new : Session) (device device' : Wired R J W S)
      → HasLogged did obeyed stored d limit result rest rest' old new device device' → EndsWith result new None → EndsWith result new (remaining device'.reader.now)
  ended_with d limit (Ok Quit) rest rest' old new device device' logged ends = ends
  ended_with d limit (Ok (InputEnded changed)) rest rest' old new device device' logged ends = (
    ends.0,
    ends.1,
    ends.2,
    at_end d device device' old new (run_steps logged.run.in_turns.first logged.turns)
        (subst (λ xs. AreTaken did obeyed stored d device old xs device' new) logged.order logged.taken),
  )
  ended_with d limit (Err ReadFault) rest rest' old new device device' logged ends = ends
  ended_with d limit (Err ReadLimit) rest rest' old new device device' logged ends = ends
  ended_with d limit (Err WriteFault) rest rest' old new device device' logged ends = ends

  pub has_read : (d : Data) (limit : ℕ) (result : Result End RunFault) (rest rest' : List ℕ) (old new : Session) (device device' : Wired R J W S)
      → HasLogged did obeyed stored d limit result rest rest' old new device device' → IsErrOf result ReadLimit
      → HasRead limit (remaining device.reader.now) (remaining device'.reader.now)
  has_read d limit (Err ReadLimit) rest rest' old new device device' logged is =
      let turns = logged.run.in_turns in
      let takes = subst (λ (ts : List Turn). TakesTurns d turns.begun (stored device) ts new (stored device')) (sym logged.in_turns) turns.takes in
      let some = turns_read d turns.begun new (stored device) (stored device') logged.turns takes in (
        bytes_by read_by logged.log,
        omega (arith, some, logged.order.1, ap (λ xs. length (bytes_by read_by xs)) logged.order.0),
        (all_moved d device device' old new logged.log logged.taken).reads,
      )
  has_read d limit (Ok e) rest rest' old new device device' logged is = absurd (cc is)
  has_read d limit (Err ReadFault) rest rest' old new device device' logged is = absurd (cc is)
  has_read d limit (Err WriteFault) rest rest' old new device device' logged is = absurd (cc is)
