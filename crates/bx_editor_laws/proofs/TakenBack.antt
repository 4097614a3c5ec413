-- Undo and redo restore earlier versions: past and future are chains of versions that begin with the opened text.
use Rattle.std.proofs.Common.{◌≡◌, ℕ, zero, suc, Bool, true, false, List, [], ◌∷◌, length, replicate, refl, sym, ap, subst, ◌∙◌, if◌then◌else◌}
use Rattle.std.specs.Prelude.{◌≢◌, Option, Some, None}
use Rattle.bx_common.specs.declared.base.Base.{Base}
use Rattle.bx_keys.specs.declared.key.Key.{Key}
use Rattle.bx_keys.specs.declared.key.Key.TheVariants.{UndoEdit, RedoEdit}
use Rattle.bx_store.specs.declared.store.StoreFault.{StoreFault}
use Rattle.bx_text.specs.declared.change.Change.{Change}
use Rattle.bx_text.specs.Edits.{Edit, Edited, redone, redone_in, undone, undone_in, redone_times, undone_times}
use Rattle.bx_document.specs.declared.history.HistoryStep.{HistoryStep}
use Rattle.bx_document.specs.declared.history.HistoryStep.TheVariants as steps
use Rattle.bx_document.specs.History.{next_changes, stepped_times}
use Rattle.bx_ucd.specs.Data.{Data}
use Rattle.bx_editor.specs.declared.questions.answers.Prompt.TheVariants as prompts
use Rattle.bx_editor.specs.declared.search_state.SearchState.TheVariants.{Off}
use Rattle.bx_editor.specs.declared.cursor.Soft.TheVariants as softness
use Rattle.bx_editor.specs.Editor.{Editor, after_undo, after_redo, after_step, at_start, cleared, with_exchange}
use Rattle.bx_editor.specs.Editor.{with_insertion, with_removal, by_group, group_length}
use Rattle.bx_editor.specs.Functions.{after_keys}
use Rattle.bx_editor_laws.specs.Laws.{after_typing, IsBackAt, IsUnmarkedAt, mark_behind, UndoGivesBack, RedoMirrorsUndo}
use Rattle.bx_editor.specs.Editor.{after_group_step}
use Rattle.bx_editor.specs.Keys.{after_key, as_left}
use Rattle.bx_editor.proofs.EffectsKept.{run-keeps, step-keeps}
use Rattle.bx_editor_laws.proofs.KeyEnds.{DoesWork, ended-done}
use Rattle.bx_editor_laws.proofs.KeyKept.{IsKeptByEdits, typing-keeps}

-- ---- chains of versions

-- the latest edit led to the text, from a text whose past is the other edits; the opened text has no past
abbrev IsPastOf : List ℕ → List ℕ → List Edit → Type 0
IsPastOf first text [] = text ≡ first
IsPastOf first text (edit ∷ past) = (edit.after.text ≡ text) × IsPastOf first edit.before.text past

-- the next edit leads from the text to one whose future is the other edits
abbrev IsFutureOf : List ℕ → List Edit → Type 0
IsFutureOf text [] = Unit {0}
IsFutureOf text (edit ∷ future) = (edit.before.text ≡ text) × IsFutureOf edit.after.text future

record HasVersions (first : List ℕ) (t : Edited) : Type 0 where
  pub past : IsPastOf first t.text t.past
  pub future : IsFutureOf t.text t.future

abbrev version : List ℕ → List Edit → List Edit → Edited
version text past future = record { text = text; past = past; future = future }

-- ---- an edit keeps them

either_has : (b : Bool) (first : List ℕ) (p q : Editor) → HasVersions first p.content → HasVersions first q.content
    → HasVersions first (if b then p else q).content
either_has true first p q h k = h
either_has false first p q h k = k

insertion_has : (first : List ℕ) (d : Data) (e : Editor) (new : List ℕ) (goes_on : Bool) → HasVersions first e.content
    → HasVersions first (with_insertion d e new goes_on).content
insertion_has first d e new goes_on h = record { past = (refl, h.past); future = tt }

removal_has : (first : List ℕ) (d : Data) (e : Editor) (start stop : ℕ) (goes_on : Bool) → HasVersions first e.content
    → HasVersions first (with_removal d e start stop goes_on).content
removal_has first d e start stop goes_on h = record { past = (refl, h.past); future = tt }

exchange_has : (first : List ℕ) (d : Data) (e : Editor) (start stop : ℕ) (new : List ℕ) → HasVersions first e.content
    → HasVersions first (with_exchange d e start stop new).content
exchange_has first d e start stop [] h = removal_has first d e start stop false h
exchange_has first d e start stop (b ∷ bs) h = record { past = (refl, (refl, h.past)); future = tt }

-- ---- undo and redo keep them

undone_has : (first : List ℕ) (t : Edited) (past : List Edit) → t.past ≡ past → HasVersions first t → HasVersions first (undone_in t past)
undone_has first t [] is h = h
undone_has first t (edit ∷ past) is h =
    let was = subst (IsPastOf first t.text) is h.past in
    record { past = was.1; future = (refl, subst (λ x. IsFutureOf x t.future) (sym was.0) h.future) }

redone_has : (first : List ℕ) (t : Edited) (future : List Edit) → t.future ≡ future → HasVersions first t → HasVersions first (redone_in t future)
redone_has first t [] is h = h
redone_has first t (edit ∷ future) is h =
    let was = subst (IsFutureOf t.text) is h.future in
    record { past = (refl, subst (λ x. IsPastOf first x t.past) (sym was.0) h.past); future = was.1 }

undone_times_has : (first : List ℕ) (n : ℕ) (t : Edited) → HasVersions first t → HasVersions first (undone_times n t)
undone_times_has first zero t h = h
undone_times_has first (suc n) t h = undone_times_has first n (undone t) (undone_has first t t.past refl h)

redone_times_has : (first : List ℕ) (n : ℕ) (t : Edited) → HasVersions first t → HasVersions first (redone_times n t)
redone_times_has first zero t h = h
redone_times_has first (suc n) t h = redone_times_has first n (redone t) (redone_has first t t.future refl h)

stepped_has : (first : List ℕ) (step : HistoryStep) (n : ℕ) (t : Edited) → HasVersions first t → HasVersions first (stepped_times step n t)
stepped_has first steps.Undo n t h = undone_times_has first n t h
stepped_has first steps.Redo n t h = redone_times_has first n t h

undo_has : (first : List ℕ) (e : Editor) (past : List Edit) → e.content.past ≡ past → HasVersions first e.content
    → HasVersions first (after_undo e past).content
undo_has first e [] is h = h
undo_has first e (edit ∷ past) is h = undone_has first e.content e.content.past refl h

redo_has : (first : List ℕ) (e : Editor) (future : List Edit) → e.content.future ≡ future → HasVersions first e.content
    → HasVersions first (after_redo e future).content
redo_has first e [] is h = h
redo_has first e (edit ∷ future) is h = redone_has first e.content e.content.future refl h

step_has : (first : List ℕ) (step : HistoryStep) (e : Editor) → HasVersions first e.content → HasVersions first (after_step step e).content
step_has first steps.Undo e h = undo_has first e e.content.past refl h
step_has first steps.Redo e h = redo_has first e e.content.future refl h

run_has : (first : List ℕ) (step : HistoryStep) (e : Editor) (change : Option Change) → HasVersions first e.content
    → HasVersions first (by_group step e change).content
run_has first step e None h = h
run_has first step e (Some change) h = stepped_has first step (group_length step e) e.content h

-- ---- a key keeps them

-- the text has versions, and is not only looked at
abbrev IsWritten : List ℕ → Editor → Type 0
IsWritten first e = HasVersions first e.content × (e.read_only ≡ false)

steps_write : (step : HistoryStep) (e : Editor) → e.read_only ≡ false → (after_step step e).read_only ≡ false
steps_write step e writes = step-keeps (λ x. x.read_only ≡ false) (λ x content place changed h. h) (λ x message h. h) step e writes

runs_write : (step : HistoryStep) (e : Editor) → e.read_only ≡ false → (after_group_step step e).read_only ≡ false
runs_write step e writes = run-keeps (λ x. x.read_only ≡ false) (λ x content place changed h. h) (λ x message h. h) step e writes

edits_have : (d : Data) (first : List ℕ) → IsKeptByEdits d (IsWritten first)
edits_have d first = record {
  inserted = λ e new on h. (insertion_has first d e new on h.0, h.1);
  lined = λ e new h. (record { past = (refl, h.0.past); future = tt }, h.1);
  removed = λ e start stop on h. (removal_has first d e start stop on h.0, h.1);
  wrapped = λ e opener closer h. (record { past = (refl, (refl, h.0.past)); future = tt }, h.1);
  exchanged = λ e start stop new h. (exchange_has first d e start stop new h.0, h.1);
  stepped = λ step e h. (step_has first step e h.0, steps_write step e h.1);
  run = λ step e h. (run_has first step e (next_changes step (group_length step e) e.content) h.0, runs_write step e h.1);
  same = λ e new content looked h. (subst (HasVersions first) (sym content) h.0, looked ∙ h.1);
}

all_typed_has : (d : Data) (text : List ℕ) (height width : ℕ) (base : Base) (typed : List (Key × Option StoreFault))
    → IsWritten text (after_typing d (at_start text height width base) typed)
all_typed_has d text height width base typed =
    typing-keeps d (IsWritten text) (edits_have d text) (at_start text height width base) typed (record { past = refl; future = tt }, refl)

-- ---- undo and redo, whether a search or a question is on or not

-- an editor once a key has led to another text of its history
abbrev stepped : Key → Editor → Edited → ℕ → Editor
stepped key e content place =
    as_left key (record (cleared e) { content = content; place = place; mark = None; soft = softness.Off; search_state = Off; prompt = prompts.Off; changed = true })

undo_once : (d : Data) (e : Editor) (text : List ℕ) (edit : Edit) (past future : List Edit) → DoesWork e
    → after_key d None (record e { content = version text (edit ∷ past) future }) UndoEdit
    ≡ stepped UndoEdit e (version edit.before.text past (edit ∷ future)) edit.before.place
undo_once d e text edit past future works =
    ended-done d None (record e { content = version text (edit ∷ past) future }) UndoEdit works.settled refl refl refl works.other works.writes

redo_once : (d : Data) (e : Editor) (text : List ℕ) (edit : Edit) (past future : List Edit) → DoesWork e
    → after_key d None (record e { content = version text past (edit ∷ future) }) RedoEdit
    ≡ stepped RedoEdit e (version edit.after.text (edit ∷ past) future) edit.after.place
redo_once d e text edit past future works =
    ended-done d None (record e { content = version text past (edit ∷ future) }) RedoEdit works.settled refl refl refl works.other works.writes

works_on : (key : Key) (e : Editor) (content : Edited) (place : ℕ) → DoesWork e → DoesWork (stepped key e content place)
works_on key e content place works = record { settled = works.settled; other = λ over. cc over; writes = works.writes }

none_behind : (past : List Edit) → mark_behind None past ≡ None
none_behind [] = refl
none_behind (edit ∷ past) = refl

all_back : (d : Data) (first : List ℕ) (e : Editor) (text : List ℕ) (past future : List Edit) → DoesWork e → IsPastOf first text past
    → let now : Editor = record e { content = version text past future } in IsBackAt first now (after_keys d None now (replicate (length past) UndoEdit))
all_back d first e text [] future works h = record { text_is = h; past_is = refl; place_is = refl; mark_is = refl }
all_back d first e text (edit ∷ past) future works h =
    let now : Editor = record e { content = version text (edit ∷ past) future } in
    let taken_back = stepped UndoEdit e (version edit.before.text past (edit ∷ future)) edit.before.place in
    let back =
    all_back d first taken_back edit.before.text past (edit ∷ future)
    (works_on UndoEdit e (version edit.before.text past (edit ∷ future)) edit.before.place works) h.1 in
    subst (λ new. IsBackAt first now (after_keys d None new (replicate (length past) UndoEdit))) (sym (undo_once d e text edit past future works))
    (record { text_is = back.text_is; past_is = back.past_is; place_is = back.place_is; mark_is = back.mark_is ∙ none_behind past })

redo_back : (d : Data) (first : List ℕ) (e : Editor) (text : List ℕ) (past future : List Edit) → DoesWork e → IsPastOf first text past → past ≢ []
    → (after_keys d None (record e { content = version text past future }) (UndoEdit ∷ RedoEdit ∷ [])).content ≡ version text past future
redo_back d first e text [] future works h some = absurd (some refl)
redo_back d first e text (edit ∷ past) future works h some =
    let undone = version edit.before.text past (edit ∷ future) in
    ap (λ new. (after_key d None new RedoEdit).content) (undo_once d e text edit past future works)
    ∙ ap (λ (new : Editor). new.content)
    (redo_once d (stepped UndoEdit e undone edit.before.place) edit.before.text edit past future (works_on UndoEdit e undone edit.before.place works))
    ∙ ap (λ t. version t (edit ∷ past) future) h.0

undo_back : (d : Data) (e : Editor) (text : List ℕ) (past future : List Edit) → DoesWork e → IsFutureOf text future → future ≢ []
    → (after_keys d None (record e { content = version text past future }) (RedoEdit ∷ UndoEdit ∷ [])).content ≡ version text past future
undo_back d e text past [] works h some = absurd (some refl)
undo_back d e text past (edit ∷ future) works h some =
    let redone = version edit.after.text (edit ∷ past) future in
    ap (λ new. (after_key d None new UndoEdit).content) (redo_once d e text edit past future works)
    ∙ ap (λ (new : Editor). new.content)
    (undo_once d (stepped RedoEdit e redone edit.after.place) edit.after.text edit past future (works_on RedoEdit e redone edit.after.place works))
    ∙ ap (λ t. version t past (edit ∷ future)) h.0

-- ---- place and mark behind both

redo_place : (d : Data) (e : Editor) (text : List ℕ) (past future : List Edit) → DoesWork e → (edit : Edit) (rest : List Edit) → past ≡ edit ∷ rest
    → IsUnmarkedAt edit.after.place (after_keys d None (record e { content = version text past future }) (UndoEdit ∷ RedoEdit ∷ []))
redo_place d e text [] future works edit rest is = absurd (cc)
redo_place d e text (latest ∷ past) future works edit rest is =
    let same : latest ≡ edit = cc in
    let undone = version latest.before.text past (latest ∷ future) in
    let again =
    redo_once d (stepped UndoEdit e undone latest.before.place) latest.before.text latest past future (works_on UndoEdit e undone latest.before.place works) in
    let there : IsUnmarkedAt latest.after.place (after_keys d None (record e { content = version text (latest ∷ past) future }) (UndoEdit ∷ RedoEdit ∷ [])) =
    subst (λ new. IsUnmarkedAt latest.after.place (after_key d None new RedoEdit)) (sym (undo_once d e text latest past future works))
    (subst (IsUnmarkedAt latest.after.place) (sym again) (record { place_is = refl; mark_is = refl })) in
    subst (λ (x : Edit). IsUnmarkedAt x.after.place (after_keys d None (record e { content = version text (latest ∷ past) future }) (UndoEdit ∷ RedoEdit ∷ [])))
    same there

undo_place : (d : Data) (e : Editor) (text : List ℕ) (past future : List Edit) → DoesWork e → (edit : Edit) (rest : List Edit) → future ≡ edit ∷ rest
    → IsUnmarkedAt edit.before.place (after_keys d None (record e { content = version text past future }) (RedoEdit ∷ UndoEdit ∷ []))
undo_place d e text past [] works edit rest is = absurd (cc)
undo_place d e text past (next ∷ future) works edit rest is =
    let same : next ≡ edit = cc in
    let redone = version next.after.text (next ∷ past) future in
    let again =
    undo_once d (stepped RedoEdit e redone next.after.place) next.after.text next past future (works_on RedoEdit e redone next.after.place works) in
    let there : IsUnmarkedAt next.before.place (after_keys d None (record e { content = version text past (next ∷ future) }) (RedoEdit ∷ UndoEdit ∷ [])) =
    subst (λ new. IsUnmarkedAt next.before.place (after_key d None new UndoEdit)) (sym (redo_once d e text next past future works))
    (subst (IsUnmarkedAt next.before.place) (sym again) (record { place_is = refl; mark_is = refl })) in
    subst (λ (x : Edit). IsUnmarkedAt x.before.place (after_keys d None (record e { content = version text past (next ∷ future) }) (RedoEdit ∷ UndoEdit ∷ [])))
    same there

pub undo_gives_back : UndoGivesBack
undo_gives_back d text height width base typed settled other =
    let e = after_typing d (at_start text height width base) typed in
    let has = all_typed_has d text height width base typed in
    all_back d text e e.content.text e.content.past e.content.future (record { settled = settled; other = other; writes = has.1 }) has.0.past

pub redo_mirrors_undo : RedoMirrorsUndo
redo_mirrors_undo d text height width base typed settled other =
    let e = after_typing d (at_start text height width base) typed in
    let has = all_typed_has d text height width base typed in
    let works : DoesWork e = record { settled = settled; other = other; writes = has.1 } in
    record {
      redo = redo_back d text e e.content.text e.content.past e.content.future works has.0.past;
      redo_place = redo_place d e e.content.text e.content.past e.content.future works;
      undo_place = undo_place d e e.content.text e.content.past e.content.future works;
      undo = undo_back d e e.content.text e.content.past e.content.future works has.0.future;
    }
