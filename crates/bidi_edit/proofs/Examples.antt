-- Worked examples: how a run's end is reported, and what follows from the clause of a run alone.
use Rattle.std.proofs.Common.{◌≡◌, ◌≢◌, ◌<◌, ◌++◌, ℕ, Bool, true, false, List, [], ◌∷◌, length, Option, Some, None, Result, Ok, Err, IsOk, IsUtf8}
use Rattle.std.proofs.Common.{◌⊎◌, ⊎_elim, inl, inr, refl, sym, ap, subst, ◌∙◌, arith, if◌then◌else◌}
use Rattle.std.specs.Global.{Vec}
use Rattle.std.specs.Prelude.{◌&&◌, codes, get_or, is_some, not}
use Rattle.std.specs.Str.{chars, is_utf8}
use Rattle.std.proofs.lemmas.Str.{is_utf8-from_IsUtf8}
use Rattle.bx_common.specs.Characters.{largest_text}
use Rattle.bx_editor.specs.Answering.{answer_of}
use Rattle.bx_editor.specs.Editor.{Editor}
use Rattle.bx_editor.specs.Functions.{has_changes}
use Rattle.bx_editor.specs.Keys.{is_save, saving_by}
use Rattle.bx_editor.specs.declared.questions.answers.Prompt.{Prompt}
use Rattle.bx_editor.specs.declared.questions.answers.Prompt.TheVariants as prompts
use Rattle.bx_editor.specs.declared.opening.OpenError.TheVariants.{TooLong, NotUtf8}
use Rattle.bx_store.specs.declared.faults.Faults.{Faults}
use Rattle.bx_ucd.specs.Data.{Data}
use Rattle.bx_ucd.specs.declared.error.UcdError.{UcdError}
use Rattle.bx_keys.specs.Keys.{key_after}
use Rattle.bx_keys.specs.declared.key.Key.TheVariants.{Insert}
use Rattle.bx_command.specs.declared.shared.unicode.UnicodeFiles.{UnicodeFiles}
use Rattle.bx_session.specs.declared.action.Action.{Action}
use Rattle.bx_session.specs.declared.end.End.{End}
use Rattle.bx_session.specs.declared.end.End.TheVariants.{Quit, InputEnded}
use Rattle.bx_session.specs.declared.end.RunFault.{RunFault}
use Rattle.bx_session.specs.declared.end.RunFault.TheVariants.{ReadFault, ReadLimit, WriteFault}
use Rattle.bx_session.specs.declared.status.Refused.{Refused}
use Rattle.bx_session.specs.declared.status.Status.{Status}
use Rattle.bx_session.specs.declared.wired.Wired.{Wired}
use Rattle.bx_session.specs.Inputs.{rest_from}
use Rattle.bx_session.specs.Session.{Session, StoreAfter, StoreState, is_save_press, store_state, stores_by, text_to_save}
use Rattle.bx_session.specs.Feeding.{is_applied}
use Rattle.bx_session.specs.Running.{PressAnswer, EndsWith, PressesAll}
use Rattle.bx_session.specs.Journal.{RunsRecorded}
use Rattle.bx_session.specs.Wire.{DidWired, ObeyedWired}
use Rattle.bx_session.specs.Beginning.{Beginning, begun}
use Rattle.bx_session.proofs.Moved.{ended_with, recorded}
use Rattle.bx_recovery.specs.declared.beginning.Beginning as given
use Rattle.bx_recovery.specs.Beginnings.{bytes_of}
use Rattle.bx_command.specs.shared.Tables.{NoMemoryInTables, refused_line}
use Rattle.bx_recovery.specs.Refusals.{CanOpen}
use Rattle.bx_recovery.proofs.RefusalExamples.{a_bad_first_byte}
use Rattle.bidi_edit.specs.declared.edit.Changes.TheVariants.{Saved, Dropped}
use Rattle.bidi_edit.specs.declared.fault.ProgramFault.TheVariants as fault
use Rattle.bidi_edit.specs.declared.edit.Changes.{Changes}
use Rattle.bidi_edit.specs.declared.fault.ProgramFault.{ProgramFault}
use Rattle.bidi_edit.specs.Ending.{end_of, last_word}
use Rattle.bidi_edit.specs.Faults.{IsFirstFault}
use Rattle.bidi_edit.specs.Run.{Edits, RunsTo, RunsUnless, most_reads, outcome_of}

-- ---- how an end is reported

-- reported as saved: nothing is unsaved
pub saved_leaves_nothing : (end : Result End RunFault) (changed : Bool) → outcome_of end changed ≡ Ok Saved → changed ≡ false
saved_leaves_nothing (Err cause) changed is = absurd (cc is)
saved_leaves_nothing (Ok Quit) true is = absurd (cc is)
saved_leaves_nothing (Ok (InputEnded unsaved)) true is = absurd (cc is)
saved_leaves_nothing (Ok end) false is = refl

-- with nothing unsaved, an end without a fault is reported as saved
pub nothing_left_is_saved : (end : End) → outcome_of (Ok end) false ≡ Ok Saved
nothing_left_is_saved Quit = refl
nothing_left_is_saved (InputEnded unsaved) = refl

-- reported as dropped: a Quit ended the session with changes
pub only_a_quit_drops : (end : Result End RunFault) (changed : Bool) → outcome_of end changed ≡ Ok Dropped → (end ≡ Ok Quit) × (changed ≡ true)
only_a_quit_drops (Err cause) changed is = absurd (cc is)
only_a_quit_drops (Ok Quit) true is = (refl, refl)
only_a_quit_drops (Ok Quit) false is = absurd (cc is)
only_a_quit_drops (Ok (InputEnded unsaved)) true is = absurd (cc is)
only_a_quit_drops (Ok (InputEnded unsaved)) false is = absurd (cc is)

pub a_quit_with_changes_drops_them : outcome_of (Ok Quit) true ≡ Ok Dropped
a_quit_with_changes_drops_them = refl

pub a_hangup_with_changes : outcome_of (Ok (InputEnded true)) true ≡ Err fault.Unsaved
a_hangup_with_changes = refl

-- a write fault is reported, whatever is unsaved
pub a_write_fault : (changed : Bool) → outcome_of (Err WriteFault) changed ≡ Err (fault.Run WriteFault)
a_write_fault changed = refl

-- ---- the last word

pub a_saved_run_says_so : last_word (end_of (Ok Saved)) ≡ 0x65 ∷ 0 ∷ 5 ∷ codes "saved"
a_saved_run_says_so = refl

pub a_failed_write_is_told : last_word (end_of (Err (fault.Run WriteFault))) ≡ 0x65 ∷ 0 ∷ 6 ∷ codes "output"
a_failed_write_is_told = refl

-- the word `saved` is that of no other end, and no fault before a run has it
pub no_other_end_says_saved : (result : Result Changes ProgramFault) → last_word (end_of result) ≡ 0x65 ∷ 0 ∷ 5 ∷ codes "saved" → result ≡ Ok Saved
no_other_end_says_saved (Ok Saved) is = refl
no_other_end_says_saved (Ok Dropped) is = absurd (cc is)
no_other_end_says_saved (Err fault.Unsaved) is = absurd (cc is)
no_other_end_says_saved (Err (fault.Run ReadFault)) is = absurd (let e : 0x69 ≡ 0x73 = ap (λ bytes. get_or bytes 3 0) is in omega (arith, e))
no_other_end_says_saved (Err (fault.Run WriteFault)) is = absurd (cc is)
no_other_end_says_saved (Err (fault.Run ReadLimit)) is = absurd (let e : 0x72 ≡ 0x73 = ap (λ bytes. get_or bytes 3 0) is in omega (arith, e))
no_other_end_says_saved (Err (fault.Tables error)) is = absurd (cc is)
no_other_end_says_saved (Err (fault.File error)) is = absurd (cc is)
no_other_end_says_saved (Err (fault.Text error)) is = absurd (cc is)
no_other_end_says_saved (Err (fault.Open error)) is = absurd (cc is)
no_other_end_says_saved (Err fault.Unwritten) is = absurd (cc is)
no_other_end_says_saved (Err fault.Untold) is = absurd (cc is)
no_other_end_says_saved (Err fault.OutOfMemory) is = absurd (cc is)

-- ---- why a session did not run

-- a text that is told as too long is too long, and no line of Unicode's files is refused
pub what_is_told_as_too_long : (b : given.Beginning) → IsFirstFault b (fault.Open TooLong)
    → (refused_line b.unicode.now ≡ None) × (largest_text < length (bytes_of b.text))
what_is_told_as_too_long b cause = cause

not_utf8 : IsUtf8 (0xFF ∷ 0x61 ∷ []) → ⊥
unfolding chars is_utf8
not_utf8 utf8 = let e : true ≡ false = sym (is_utf8-from_IsUtf8 (0xFF ∷ 0x61 ∷ []) utf8) in cc e

is_bad : (b : given.Beginning) → bytes_of b.text ≡ 0xFF ∷ 0x61 ∷ [] → CanOpen b → ⊥
is_bad b is can = not_utf8 (subst IsUtf8 is can.text.utf8)

-- of the bytes FF and a it is told that they are not UTF-8 from the first byte on, if no line of Unicode's files is refused; or memory
-- ran out while these were read
pub a_text_that_is_not_utf8 : (b : given.Beginning) (f : ProgramFault) → refused_line b.unicode.now ≡ None → bytes_of b.text ≡ 0xFF ∷ 0x61 ∷ []
    → IsFirstFault b f → (f ≡ fault.Open (NotUtf8 0)) ⊎ ((error : UcdError) × (f ≡ fault.Tables error) × NoMemoryInTables b.unicode.now error)
a_text_that_is_not_utf8 b (fault.Tables error) none is cause =
    inr (error, refl, ⊎_elim (λ told. absurd (let e : Some error ≡ None = sym told ∙ none in cc e)) (λ out. out) cause)
a_text_that_is_not_utf8 b (fault.Open error) none is cause = inl (ap fault.Open (a_bad_first_byte b error is cause))
a_text_that_is_not_utf8 b (fault.File error) none is cause = absurd cause.1
a_text_that_is_not_utf8 b (fault.Text error) none is cause = absurd cause.1
a_text_that_is_not_utf8 b (fault.Run end) none is cause = absurd (is_bad b is cause.0)
a_text_that_is_not_utf8 b fault.Unsaved none is cause = absurd (is_bad b is cause.0)
a_text_that_is_not_utf8 b fault.Unwritten none is cause = absurd cause.1
a_text_that_is_not_utf8 b fault.Untold none is cause = absurd cause.1
a_text_that_is_not_utf8 b fault.OutOfMemory none is cause = absurd (is_bad b is cause.0)

-- ---- what follows from the clause of a run

-- a run that is said to have ended saved left no change
pub a_saved_run : {V : Type 0} (did : V → Action → V → Type 0) (obeyed : V → Session → PressAnswer → V → Session → Type 0) (stored : V → StoreState)
    (b : Beginning) (files : UnicodeFiles (Vec ℕ)) (device device' : V) → (e : Edits did obeyed stored b files device device' (Ok Saved))
    → has_changes e.session.editor ≡ false
a_saved_run did obeyed stored b files device device' e = saved_leaves_nothing e.end (has_changes e.session.editor) (sym e.tells)

-- A run over a reader, a recorder, a writer and a store handed to the recorder all that it obeyed, and at the end of the input nothing
-- was unread.
pub a_run_is_recorded : {R J W S : Type 0} (remaining : R → Option (List ℕ)) (contents : J → Option (List ℕ)) (failures : J → ℕ)
    (out : W → Option (List ℕ)) (saved : S → Option (List ℕ)) (faults : S → Faults) (b : Beginning) (files : UnicodeFiles (Vec ℕ))
    (device device' : Wired R J W S) (result : Result Changes ProgramFault)
    → let stored : Wired R J W S → StoreState = λ x. store_state saved faults x.store.now in
    (e : Edits (DidWired remaining contents failures out) (λ from s a to t. ObeyedWired from to) stored b files device device' result)
    → RunsRecorded contents failures e.tables (rest_from [] b.journal) e.runs.waits (begun e.tables b) e.session (stored device) (stored device')
    (remaining device.reader.now) (remaining device'.reader.now) (out device.writer.now) (out device'.writer.now)
    device.recorder.now device'.recorder.now
    × EndsWith e.end e.session (remaining device'.reader.now)
a_run_is_recorded remaining contents failures out saved faults b files device device' result e = (
  recorded remaining contents failures out saved faults e.tables most_reads e.end (rest_from [] b.journal) e.runs.waits (begun e.tables b) e.session
      device device' e.runs.logged,
  ended_with remaining contents failures out saved faults e.tables most_reads e.end (rest_from [] b.journal) e.runs.waits (begun e.tables b) e.session
      device device' e.runs.logged e.runs.ends,
)

-- a run that stopped at the limit of reads has made all of them
pub a_run_stops_at_the_limit : {V : Type 0} (did : V → Action → V → Type 0) (obeyed : V → Session → PressAnswer → V → Session → Type 0)
    (stored : V → StoreState) (d : Data) (rest : List ℕ) (old new : Session) (device device' : V)
    → (r : RunsTo did obeyed stored d rest old new device device' (Err ReadLimit)) → length r.logged.turns ≡ 1_000_000_000
a_run_stops_at_the_limit did obeyed stored d rest old new device device' r = r.logged.order.1

-- one that ran out of memory before it began stored nothing
pub a_run_that_did_not_begin : (Runs : Type 0) (store store' : ℕ) → RunsUnless (Err fault.OutOfMemory) Runs (store' ≡ store) → store' ≡ store
a_run_that_did_not_begin Runs store store' stays = stays

-- ---- a letter, and a hangup

-- the letter x answers nothing that stores a text
no_answer : (e : Editor) → stores_by e (Some (Insert 0x78)) ≡ false
no_answer e = by (is_some e.pasted) e.prompt where
  by : (pasting : Bool) (prompt : Prompt)
      → is_some (if pasting && not (is_save (Insert 0x78)) then None else saving_by e prompt (Insert 0x78) (answer_of (Insert 0x78))) ≡ false
  by true prompt = refl
  by false prompts.File = refl
  by false prompts.Overwrite = refl
  by false prompt = refl

no_save : (s : Session) → s.editor.ended ≡ false → is_save_press s (key_after [] 0x78) ≡ false
no_save s goes = ap (λ ended. stores_by s.editor (if ended then None else key_after [] 0x78)) goes ∙ no_answer s.editor

neither : (applied : Bool) → (applied && false) ≡ false
neither true = refl
neither false = refl

-- a session that took the press of the letter x alone stored nothing
pub a_letter_stores_nothing : (d : Data) (b : Beginning) (store store' : StoreState) (answer : Result Status Refused) (new : Session)
    → PressesAll d (begun d b) store ((key_after [] 0x78, answer) ∷ []) new store' → store' ≡ store
a_letter_stores_nothing d b store store' answer new feeds =
    let is_none = no_save (begun d b) feeds.2 in
    let none_saved : (is_applied answer && is_save_press (begun d b) (key_after [] 0x78)) ≡ false =
    ap (λ saves. is_applied answer && saves) is_none ∙ neither (is_applied answer) in
    feeds.5.1
    ∙ subst (λ save. StoreAfter save feeds.3.0 (text_to_save d (begun d b).editor) store feeds.1) none_saved feeds.3.1
