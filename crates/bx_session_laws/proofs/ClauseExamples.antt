-- Worked examples, each from a clause of a run alone.
use Rattle.std.proofs.Common.{◌≡◌, ◌≢◌, ◌≤◌, ◌+◌, ℕ, zero, suc, Bool, true, false, List, [], ◌∷◌, ◌++◌, length, take, Option, Some, None, Ok, inl, inr}
use Rattle.std.proofs.Common.{refl, sym, ap, subst, ◌∙◌, append_assoc, arith}
use Rattle.std.specs.Global.{Vec}
use Rattle.std.specs.Prelude.{codes, option_map, vec_items, vec_capacity}
use Rattle.std.specs.Fmt.{digits}
use Rattle.std.specs.Io.KnownBytes.{Appends}
use Rattle.std.proofs.lemmas.Bool.Decides.{nat_tests}
use Rattle.std.proofs.lemmas.List.{append-nil, length-append}
use Rattle.unicode_segmentation.proofs.Computing.{unicode_segmentation}
use Rattle.unicode_width.proofs.Computing.{unicode_width}
use Rattle.bx_store.specs.Stores.{fault, no_faults}
use Rattle.bx_store.specs.declared.cause.SaveCause.TheVariants.{NoSpace}
use Rattle.bx_store.specs.declared.faults.Faults.{Faults}
use Rattle.bx_store.specs.declared.store.StoreFault.{StoreFault}
use Rattle.bx_keys.specs.declared.key.Key.TheVariants.{Save}
use Rattle.bx_ucd.specs.Data.{Data}
use Rattle.bx_editor.specs.declared.message.Message.TheVariants.{SaveFailed}
use Rattle.bx_session.specs.declared.action.Action.TheVariants.{Append}
use Rattle.bx_session.specs.declared.status.Status.{Status}
use Rattle.bx_session.specs.declared.journal.Backlog.TheVariants.{Empty, Waiting}
use Rattle.bx_session.specs.declared.wired.Wired.{Wired}
use Rattle.bx_session.specs.Journal.{RecorderState, HasKept, HasTried, is_lost, room, waiting, after_faults}
use Rattle.bx_session.specs.Log.{AreTaken, Calls}
use Rattle.bx_session.specs.Running.{PressAnswer, HasRun}
use Rattle.bx_session.specs.Session.{SaveEnds, StoreState, Session, after_press}
use Rattle.bx_session.specs.Feeding.{Presses}
use Rattle.bx_session.specs.Wire.{DidWired, ObeyedWired}
use Rattle.bx_session.proofs.Computed.{start}
use Rattle.bx_session.proofs.Recorded.{has_none}
use Rattle.bx_session.proofs.Turns.{none_dropped}
use Rattle.bx_session_laws.proofs.GivenBack.{appended_to, kept_in_all}
use Rattle.bx_editor.proofs.Computed.{tables}

first_alone : (a : ℕ) (more dropped : List ℕ) → codes "x" ≡ ((a ∷ more) ++ dropped) ++ [] → a ∷ more ≡ codes "x"
first_alone a [] [] is = sym is
first_alone a [] (d ∷ dropped) is = absurd (cc is)
first_alone a (b ∷ more) dropped is = absurd (cc is)

-- a reader's one byte is typed, and not dropped
pub a_byte_is_typed : (rest : List ℕ) (new all : Session) (store store' : StoreState) (writer writer' : Option (List ℕ)) (typed : List ℕ)
    (answered : List PressAnswer) (dropped written : List ℕ)
    → HasRun tables [] rest (start (codes "ab") 1 5) new store store' (Some (codes "x")) (Some []) writer writer' typed answered dropped written all
    → typed ≡ codes "x"
a_byte_is_typed rest new all store store' writer writer' [] [] dropped written run =
    let none = none_dropped dropped all.editor.ended run.drops (ap (λ (s : Session). s.editor.ended) run.feeds.0) in
    absurd (let is : codes "x" ≡ [] = run.reads ∙ append-nil dropped ∙ none in cc is)
a_byte_is_typed rest new all store store' writer writer' [] (a ∷ answered) dropped written run = absurd (let is = run.presses in cc is)
a_byte_is_typed rest new all store store' writer writer' (b ∷ typed) answered dropped written run = first_alone b typed dropped run.reads

grown : {appended bytes there : List ℕ} {before after : Option (List ℕ)} → appended ≡ bytes → before ≡ Some (codes "ab") → after ≡ Some there
    → Appends before after appended → there ≡ codes "ab" ++ bytes
grown {appended} {bytes} {there} {before} {after} same was is grows =
    appended_to before after (codes "ab") there appended was is grows ∙ ap (λ xs. codes "ab" ++ xs) same

some_faults : (n count : ℕ) → 1 ≤ n → after_faults n count ≢ 0
some_faults zero count some = absurd (omega (arith, some))
some_faults (suc n) count some = λ h. absurd (grind (arith, nat_tests, h))

-- with an empty backlog before and after, the journal ends with the bytes read
pub what_is_read_is_kept : {J : Type 0} (contents : J → Option (List ℕ)) (failures : J → ℕ) (old new : RecorderState J) (there : List ℕ)
    → HasKept contents failures old new (codes "x") → old.backlog ≡ Empty → new.backlog ≡ Empty → contents old.journal ≡ Some (codes "ab")
    → contents new.journal ≡ Some there → there ≡ codes "abx"
what_is_read_is_kept contents failures old new there kept was is before after =
    grown (kept_in_all contents failures old new (codes "x") kept [] (ap waiting was) is) before after kept.grows

-- waiting bytes come before them
pub what_waits_comes_first : {J : Type 0} (contents : J → Option (List ℕ)) (failures : J → ℕ) (old new : RecorderState J) (held : Vec ℕ) (there : List ℕ)
    → HasKept contents failures old new (codes "y") → old.backlog ≡ Waiting held → vec_items held ≡ codes "x" → new.backlog ≡ Empty
    → contents old.journal ≡ Some (codes "ab") → contents new.journal ≡ Some there → there ≡ codes "abxy"
what_waits_comes_first contents failures old new held there kept was has is before after =
    grown (kept_in_all contents failures old new (codes "y") kept (codes "x") (ap waiting was ∙ has) is) before after kept.grows

-- the journal lacks only what waits
pub only_what_waits_is_missing : {J : Type 0} (contents : J → Option (List ℕ)) (failures : J → ℕ) (old new : RecorderState J) (held : Vec ℕ) (there : List ℕ)
    (kept : HasKept contents failures old new (codes "xy")) → old.backlog ≡ Empty → new.backlog ≡ Waiting held → vec_items held ≡ codes "y"
    → contents old.journal ≡ Some (codes "ab") → contents new.journal ≡ Some there → there ++ codes "y" ≡ codes "abxy"
only_what_waits_is_missing contents failures old new held there kept was waits has before after =
    let none : kept.lost ≡ [] = kept.all (ap is_lost waits) in
    let all : codes "xy" ≡ kept.appended ++ codes "y" =
    ap (λ k. waiting k ++ codes "xy") (sym was)
    ∙ kept.order
    ∙ ap (λ xs. kept.appended ++ (waiting new.backlog ++ xs)) none
    ∙ ap (λ k. kept.appended ++ (waiting k ++ [])) waits
    ∙ ap (λ xs. kept.appended ++ (xs ++ [])) has in
    let journal : there ≡ codes "ab" ++ kept.appended = grown refl before after kept.grows in
    ap (λ xs. xs ++ codes "y") journal ∙ append_assoc (codes "ab") kept.appended (codes "y") ∙ ap (λ xs. codes "ab" ++ xs) (sym all)

-- an empty backlog grows only if a call of the journal fails
pub no_failure_is_no_fault : {J : Type 0} (contents : J → Option (List ℕ)) (failures : J → ℕ) (old new : RecorderState J)
    → HasKept contents failures old new (codes "x") → old.backlog ≡ Empty → failures old.journal ≡ 0 → failures new.journal ≡ 0 → new.backlog ≡ Empty
no_failure_is_no_fault contents failures old new kept works none still = elim (has_none new.backlog) [
  | inl none_left ↦ none_left
  | inr some_left ↦ absurd (some_faults kept.faults (failures old.journal) (kept.fault works some_left) (sym kept.counted ∙ still))
]

-- bytes that wait are appended in a call in which the journal does not fail
pub no_failure_ends_waiting : {J : Type 0} (contents : J → Option (List ℕ)) (failures : J → ℕ) (old new : RecorderState J) (held : Vec ℕ)
    → HasTried contents failures old new (codes "x") → old.backlog ≡ Waiting held → failures old.journal ≡ 0 → failures new.journal ≡ 0 → new.backlog ≡ Empty
no_failure_ends_waiting contents failures old new held tried was none still = elim (has_none new.backlog) [
  | inl none_left ↦ none_left
  | inr some_left ↦ absurd (some_faults 1 (failures old.journal) (omega arith) (sym (tried.fails (ap is_lost was) some_left) ∙ still))
]

-- so it is with each append of a run over a reader, a recorder, a writer and a store
pub an_append_tries_what_waits : {R J W S : Type 0} (remaining : R → Option (List ℕ)) (contents : J → Option (List ℕ)) (failures : J → ℕ)
    (out : W → Option (List ℕ)) (stored : Wired R J W S → StoreState) (d : Data) (old new : Session) (device device' : Wired R J W S) (held : Vec ℕ)
    → AreTaken (DidWired remaining contents failures out) (λ from s a to t. ObeyedWired from to) stored d device old
    (Calls (Append (codes "x")) ∷ []) device' new
    → device.recorder.now.backlog ≡ Waiting held → failures device.recorder.now.journal ≡ 0 → failures device'.recorder.now.journal ≡ 0
    → device'.recorder.now.backlog ≡ Empty
an_append_tries_what_waits {R} {J} {W} {S} remaining contents failures out stored d old new device device' held taken was none still =
    let tried : HasTried contents failures device.recorder.now device'.recorder.now (codes "x") =
    subst (λ (x : Wired R J W S). HasTried contents failures device.recorder.now x.recorder.now (codes "x")) (sym taken.3.0)
    (taken.2.does.tries (codes "x") refl) in
    no_failure_ends_waiting contents failures device.recorder.now device'.recorder.now held tried was none still

if_lost : (lost : Bool) → (lost ≡ true → ⊥) → lost ≡ false
if_lost true h = absurd (h refl)
if_lost false h = refl

-- no byte is lost first in such a call, nor while memory has room for what the journal does not take in the call
pub no_failure_loses_nothing : {J : Type 0} (contents : J → Option (List ℕ)) (failures : J → ℕ) (old new : RecorderState J)
    → HasTried contents failures old new (codes "x") → is_lost old.backlog ≡ false → failures old.journal ≡ 0 → failures new.journal ≡ 0 → is_lost new.backlog ≡ false
no_failure_loses_nothing contents failures old new tried there none still = if_lost (is_lost new.backlog) (λ h.
    some_faults 1 (failures old.journal) (omega arith)
    (sym (tried.fails there (λ e. let g : false ≡ true = sym (ap is_lost e) ∙ h in cc g)) ∙ still))

pub room_loses_nothing : {J : Type 0} (contents : J → Option (List ℕ)) (failures : J → ℕ) (old new : RecorderState J) (held : Vec ℕ)
    → HasTried contents failures old new (codes "x") → old.backlog ≡ Waiting held → length (vec_items held) ≡ 3 → vec_capacity held ≡ 4
    → is_lost new.backlog ≡ false
room_loses_nothing contents failures old new held tried was count space = if_lost (is_lost new.backlog) (λ h.
    let full = tried.full (ap is_lost was) h in
    let rest = waiting new.backlog ++ full.1 in
    let all : length (waiting old.backlog ++ codes "x") ≡ length full.0 + length rest =
    ap (λ (xs : List ℕ). length xs) full.2 ∙ length-append full.0 rest in
    let parts : length (waiting old.backlog ++ codes "x") ≡ length (waiting old.backlog) + 1 = length-append (waiting old.backlog) (codes "x") in
    let waits : length (waiting old.backlog) ≡ 3 = ap (λ k. length (waiting k)) was ∙ count in
    let is : room old.backlog ≡ 4 = ap room was ∙ space in omega (arith, full.4, all, parts, waits, is))

-- the journal takes one of three bytes that wait, so memory for four has room for the other two and two new ones
pub only_what_is_asked_for_counts : {J : Type 0} (contents : J → Option (List ℕ)) (failures : J → ℕ) (old new : RecorderState J) (held : Vec ℕ)
    → HasTried contents failures old new (codes "12") → old.backlog ≡ Waiting held → vec_items held ≡ codes "xyz" → vec_capacity held ≡ 4
    → contents old.journal ≡ Some (codes "ab") → contents new.journal ≡ Some (codes "abx") → is_lost new.backlog ≡ false
only_what_is_asked_for_counts contents failures old new held tried was has space before after = if_lost (is_lost new.backlog) (λ h.
    let full = tried.full (ap is_lost was) h in
    let rest = waiting new.backlog ++ full.1 in
    let took : codes "abx" ≡ codes "ab" ++ full.0 = grown refl before after full.3 in
    let one : 3 ≡ 2 + length full.0 = ap (λ (xs : List ℕ). length xs) took ∙ length-append (codes "ab") full.0 in
    let all : length (waiting old.backlog ++ codes "12") ≡ length full.0 + length rest =
    ap (λ (xs : List ℕ). length xs) full.2 ∙ length-append full.0 rest in
    let five : length (waiting old.backlog ++ codes "12") ≡ 5 = ap (λ xs. length (xs ++ codes "12")) (ap waiting was ∙ has) in
    let is : room old.backlog ≡ 4 = ap room was ∙ space in omega (arith, full.4, one, all, five, is))

first_is : (xs lost : List ℕ) → codes "xy" ≡ xs ++ lost → length lost ≤ 1 → take 1 xs ≡ codes "x"
first_is [] lost is few = absurd (omega (arith, few, ap (λ (ys : List ℕ). length ys) is))
first_is (c ∷ xs) lost is few = ap (take 1) (sym is)

-- bytes that wait are not lost when new ones are
pub what_waits_is_not_lost : {J : Type 0} (contents : J → Option (List ℕ)) (failures : J → ℕ) (old new : RecorderState J) (held : Vec ℕ)
    (kept : HasKept contents failures old new (codes "y")) → old.backlog ≡ Waiting held → vec_items held ≡ codes "x"
    → take 1 (kept.appended ++ waiting new.backlog) ≡ codes "x"
what_waits_is_not_lost contents failures old new held kept was has =
    first_is (kept.appended ++ waiting new.backlog) kept.lost
    (ap (λ xs. xs ++ codes "y") (sym (ap waiting was ∙ has)) ∙ kept.order ∙ sym (append_assoc kept.appended (waiting new.backlog) kept.lost)) kept.few

-- ---- a Save

abbrev unsaved : Session
unsaved = start (codes "ab") 1 5

abbrev no_space : StoreFault
no_space = fault (Some NoSpace)

-- the status row has the cause of the latest failed call, which is this Save's
cause_told : (store store' : StoreState) (ended : Option StoreFault) (new : Session) → SaveEnds ended (codes "ab") store store'
    → new ≡ after_press tables ended unsaved (Some Save) → store.faults ≡ no_faults → store'.faults.latest ≡ Some no_space
    → new.editor.message ≡ Some (SaveFailed (Some NoSpace))
unfolding unicode_segmentation unicode_width digits
cause_told store store' None new ends is none latest =
    absurd (let both : None ≡ Some no_space = sym (ap (λ (f : Faults). f.latest) (ap (λ (s : StoreState). s.faults) ends ∙ none)) ∙ latest in cc both)
cause_told store store' (Some failed) new ends is none latest =
    let same : Some failed ≡ Some no_space = sym (ap (λ (f : Faults). f.latest) ends.1) ∙ latest in
    ap (λ (s : Session). s.editor.message) is ∙ ap (option_map (λ (f : StoreFault). SaveFailed f.cause)) same

pub a_full_disk_is_told : (store store' : StoreState) (status : Status) (new : Session) → Presses tables unsaved store (Some Save) (Ok status) new store'
    → store.faults ≡ no_faults → store'.faults.latest ≡ Some no_space → new.editor.message ≡ Some (SaveFailed (Some NoSpace))
unfolding unicode_segmentation unicode_width digits
a_full_disk_is_told store store' status new feeds = cause_told store store' feeds.0 new feeds.1 feeds.2.0
