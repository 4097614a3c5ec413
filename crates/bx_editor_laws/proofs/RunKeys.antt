-- Undo and Redo: how many steps they make, and where they lead.
use Rattle.std.proofs.Common.{◌≡◌, ℕ, zero, suc, ◌+◌, ◌-◌, ◌≤◌, Bool, true, List, [], ◌∷◌, length, take, map, replicate, refl, sym, ap}
use Rattle.std.proofs.Common.{ap₂, ◌∙◌, arith}
use Rattle.std.specs.Prelude.{Some, None}
use Rattle.std.specs.Fn.{iterate}
use Rattle.std.specs.List.{fold}
use Rattle.bx_keys.specs.declared.key.Key.{Key}
use Rattle.bx_keys.specs.declared.key.Key.TheVariants.{RedoEdit, Redo, UndoEdit, Undo}
use Rattle.bx_text.specs.Edits.{Edit, Edited, change_back, change_of, merged, next_redos, next_undos, redone_times, undone_times}
use Rattle.bx_document.specs.History.{next_changes, stepped_times}
use Rattle.bx_document.specs.declared.history.HistoryStep.TheVariants as steps
use Rattle.bx_editor.specs.undo_groups.Groups.{run_end, run_start}
use Rattle.bx_editor.proofs.undo_groups_lemmas.RunLaws.{redo-ends, undo-ends}
use Rattle.bx_editor.proofs.undo_groups_lemmas.Steps.{end-bound, end-last, start-bound}
use Rattle.bx_ucd.specs.Data.{Data}
use Rattle.bx_editor.specs.declared.questions.answers.Prompt.TheVariants as prompts
use Rattle.bx_editor.specs.declared.search_state.SearchState.TheVariants as search_states
use Rattle.bx_editor.specs.declared.cursor.Soft.TheVariants as softness
use Rattle.bx_editor.specs.Asking.{without_prompt}
use Rattle.bx_editor.specs.Editor.{Editor, cleared, with_step, after_group_step, by_group, is_changed_at, group_goal, group_length}
use Rattle.bx_editor.specs.Keys.{after_key, as_left}
use Rattle.bx_editor.specs.Functions.{after_keys}
use Rattle.bx_editor_laws.specs.RunLaws.{redos, undos, IsManySteps, RunKeysAreSteps}
use Rattle.bx_editor_laws.proofs.KeyEnds.{DoesWork, ended-done}
use Rattle.bx_editor.proofs.RunSteps.{run-ends}
use Rattle.bx_editor.proofs.ManySteps.{again, back, place-again, place-back, redone-again, undone-back, version}

-- an editor once a key has led to another text of its history
abbrev pub stepped_to : Editor → Edited → ℕ → Editor
stepped_to e content place =
    record (cleared e) {
      content = content;
      place = place;
      mark = None;
      soft = softness.Off;
      search_state = search_states.Off;
      prompt = prompts.Off;
      changed = true;
      goal = None;
      clicks = None;
      pressed = None;
    }

abbrev pub run_to : Editor → Edited → ℕ → Bool → Editor
run_to e content place changed = record (stepped_to e content place) { changed = changed }

-- ---- UndoEdit and RedoEdit, one by one; each ends a search and a question

step-works : (e : Editor) (content : Edited) (place : ℕ) → DoesWork e → DoesWork (stepped_to e content place)
step-works e content place works = record { settled = works.settled; other = λ over. cc over; writes = works.writes }

pub run-works : (e : Editor) (content : Edited) (place : ℕ) (changed : Bool) → DoesWork e → DoesWork (run_to e content place changed)
run-works e content place changed works = record { settled = works.settled; other = λ over. cc over; writes = works.writes }

undo-first : (d : Data) (e : Editor) (text : List ℕ) (edit : Edit) (past future : List Edit) → DoesWork e
    → after_key d None (record e { content = version text (edit ∷ past) future }) UndoEdit
    ≡ stepped_to e (version edit.before.text past (edit ∷ future)) edit.before.place
undo-first d e text edit past future works =
    ended-done d None (record e { content = version text (edit ∷ past) future }) UndoEdit works.settled refl refl refl works.other works.writes

redo-first : (d : Data) (e : Editor) (text : List ℕ) (edit : Edit) (past future : List Edit) → DoesWork e
    → after_key d None (record e { content = version text past (edit ∷ future) }) RedoEdit
    ≡ stepped_to e (version edit.after.text (edit ∷ past) future) edit.after.place
redo-first d e text edit past future works =
    ended-done d None (record e { content = version text past (edit ∷ future) }) RedoEdit works.settled refl refl refl works.other works.writes

after-undos : (d : Data) (e : Editor) (n : ℕ) (text : List ℕ) (past future : List Edit) (place : ℕ) → DoesWork e → n ≤ length past
    → let at = iterate back n (version text past future, place) in
    after_keys d None (stepped_to e (version text past future) place) (replicate n UndoEdit) ≡ stepped_to e at.0 at.1
after-undos d e zero text past future place works few = refl
after-undos d e (suc n) text [] future place works few = absurd (omega (arith, few))
after-undos d e (suc n) text (edit ∷ past) future place works few =
    ap (λ new. after_keys d None new (replicate n UndoEdit))
    (undo-first d (stepped_to e (version text (edit ∷ past) future) place) text edit past future (step-works e (version text (edit ∷ past) future) place works))
    ∙ after-undos d e n edit.before.text past (edit ∷ future) edit.before.place works (omega (arith, few))

after-redos : (d : Data) (e : Editor) (n : ℕ) (text : List ℕ) (past future : List Edit) (place : ℕ) → DoesWork e → n ≤ length future
    → let at = iterate again n (version text past future, place) in
    after_keys d None (stepped_to e (version text past future) place) (replicate n RedoEdit) ≡ stepped_to e at.0 at.1
after-redos d e zero text past future place works few = refl
after-redos d e (suc n) text past [] place works few = absurd (omega (arith, few))
after-redos d e (suc n) text past (edit ∷ future) place works few =
    ap (λ new. after_keys d None new (replicate n RedoEdit))
    (redo-first d (stepped_to e (version text past (edit ∷ future)) place) text edit past future (step-works e (version text past (edit ∷ future)) place works))
    ∙ after-redos d e n edit.after.text (edit ∷ past) future edit.after.place works (omega (arith, few))

all-undos : (d : Data) (e : Editor) (n : ℕ) (text : List ℕ) (edit : Edit) (past future : List Edit) → DoesWork e → n ≤ length past
    → let at = iterate back (suc n) (version text (edit ∷ past) future, e.place) in
    after_keys d None (record e { content = version text (edit ∷ past) future }) (replicate (suc n) UndoEdit) ≡ stepped_to e at.0 at.1
all-undos d e n text edit past future works few =
    ap (λ new. after_keys d None new (replicate n UndoEdit))
    (undo-first d e text edit past future works)
    ∙ after-undos d e n edit.before.text past (edit ∷ future) edit.before.place works few

all-redos : (d : Data) (e : Editor) (n : ℕ) (text : List ℕ) (edit : Edit) (past future : List Edit) → DoesWork e → n ≤ length future
    → let at = iterate again (suc n) (version text past (edit ∷ future), e.place) in
    after_keys d None (record e { content = version text past (edit ∷ future) }) (replicate (suc n) RedoEdit) ≡ stepped_to e at.0 at.1
all-redos d e n text edit past future works few =
    ap (λ new. after_keys d None new (replicate n RedoEdit))
    (redo-first d e text edit past future works)
    ∙ after-redos d e n edit.after.text (edit ∷ past) future edit.after.place works few

-- ---- an undo group at once

pub undo-run : (d : Data) (e : Editor) (n : ℕ) (text : List ℕ) (edit : Edit) (past future : List Edit) → DoesWork e
    → let t : Edited = version text (edit ∷ past) future in let now : Editor = record e { content = t } in group_length steps.Undo now ≡ suc n
    → after_key d None now Undo
    ≡ run_to e (undone_times (suc n) t) ((iterate back (suc n) (t, e.place)).1) (is_changed_at (group_goal steps.Undo now) e.stored)
undo-run d e n text edit past future works long =
    let t : Edited = version text (edit ∷ past) future in
    let was : Editor = cleared (record e { content = t }) in
    let whole = fold merged (change_back edit) (map change_back (take n past)) in
    let changed = is_changed_at (group_goal steps.Undo was) e.stored in
    let one : next_changes steps.Undo (group_length steps.Undo was) t ≡ Some whole = ap (λ k. next_undos k t) long in
    let place = place-back n edit.before.text past (edit ∷ future) (change_back edit) in
    let free = without_prompt was in
    let stepped : after_group_step steps.Undo free ≡ with_step free (undone_times (suc n) t) ((iterate back (suc n) (t, e.place)).1) changed =
    ap (by_group steps.Undo free) one ∙ ap₂ (λ k p. with_step free (undone_times k t) p changed) long place in
    ended-done d None (record e { content = t }) Undo works.settled refl refl refl works.other works.writes ∙ ap (as_left Undo) stepped

pub redo-run : (d : Data) (e : Editor) (n : ℕ) (text : List ℕ) (edit : Edit) (past future : List Edit) → DoesWork e
    → let t : Edited = version text past (edit ∷ future) in let now : Editor = record e { content = t } in group_length steps.Redo now ≡ suc n
    → after_key d None now Redo
    ≡ run_to e (redone_times (suc n) t) ((iterate again (suc n) (t, e.place)).1) (is_changed_at (group_goal steps.Redo now) e.stored)
redo-run d e n text edit past future works long =
    let t : Edited = version text past (edit ∷ future) in
    let was : Editor = cleared (record e { content = t }) in
    let whole = fold merged (change_of edit) (map change_of (take n future)) in
    let changed = is_changed_at (group_goal steps.Redo was) e.stored in
    let one : next_changes steps.Redo (group_length steps.Redo was) t ≡ Some whole = ap (λ k. next_redos k t) long in
    let place = place-again n edit.after.text (edit ∷ past) future (change_of edit) in
    let free = without_prompt was in
    let stepped : after_group_step steps.Redo free ≡ with_step free (redone_times (suc n) t) ((iterate again (suc n) (t, e.place)).1) changed =
    ap (by_group steps.Redo free) one ∙ ap₂ (λ k p. with_step free (redone_times k t) p changed) long place in
    ended-done d None (record e { content = t }) Redo works.settled refl refl refl works.other works.writes ∙ ap (as_left Redo) stepped

-- ---- nothing to undo, or to redo

no-undos : (n : ℕ) (text : List ℕ) (future : List Edit) → next_undos n (version text [] future) ≡ None
no-undos zero text future = refl
no-undos (suc n) text future = refl

no-redos : (n : ℕ) (text : List ℕ) (past : List Edit) → next_redos n (version text past []) ≡ None
no-redos zero text past = refl
no-redos (suc n) text past = refl

-- ---- how long an undo group is

pub undo-length : (numbers : List ℕ) (n : ℕ) → suc n - run_start numbers (suc n) ≡ suc (n - run_start numbers (suc n))
undo-length numbers n = omega (arith, start-bound numbers (suc n))

pub redo-length : (numbers : List ℕ) (n left : ℕ) → run_end numbers n (n + suc left) - n ≡ suc (run_end numbers n (n + suc left) - n - 1)
redo-length numbers n left = omega (arith, end-bound numbers n (n + suc left) (omega arith))

-- ---- as many steps

-- whether the text counts as changed, by its number of edits
abbrev counted : Editor → Editor
counted e = record e { changed = is_changed_at (length e.content.past) e.stored }

as-counted : (new many to : Editor) (goal : ℕ) → new ≡ record to { changed = is_changed_at goal to.stored } → many ≡ to
    → goal ≡ length to.content.past
    → new ≡ counted many
as-counted new many to goal is same at =
    is ∙ ap (λ n. record to { changed = is_changed_at n to.stored }) at ∙ ap counted (sym same)

-- a key that finds nothing to step over
no-steps : (d : Data) (e : Editor) (key one : Key) (n : ℕ) → after_key d None e key ≡ after_key d None e one → IsManySteps d e key one n []
no-steps d e key one n same = record { many = λ some. absurd (some refl); some = λ some. absurd (some refl); none = λ is. same }

undo-steps : (d : Data) (e : Editor) (text : List ℕ) (past future : List Edit) → DoesWork e
    → let now : Editor = record e { content = version text past future } in
    IsManySteps d now Undo UndoEdit (undos now) past
undo-steps d e text [] future works =
    let now : Editor = record e { content = version text [] future } in
    let was = cleared now in
    no-steps d now Undo UndoEdit (undos now)
    (ended-done d None now Undo works.settled refl refl refl works.other works.writes
    ∙ ap (λ c. as_left UndoEdit (by_group steps.Undo (without_prompt was) c)) (no-undos (group_length steps.Undo was) text future)
    ∙ sym (ended-done d None now UndoEdit works.settled refl refl refl works.other works.writes))
undo-steps d e text (edit ∷ past) future works =
    let now : Editor = record e { content = version text (edit ∷ past) future } in
    let n = length past - run_start e.undo_groups (suc (length past)) in
    let long : group_length steps.Undo now ≡ suc n = undo-length e.undo_groups (length past) in
    let same : undos now ≡ suc n = ap (λ k. suc (length past) - k) (sym (undo-ends e.undo_groups (suc (length past)))) ∙ long in
    let at = iterate back (suc n) (version text (edit ∷ past) future, e.place) in
    let ran = undo-run d e n text edit past future works long in
    let whole = ap (λ t. run_to e t at.1 (is_changed_at (group_goal steps.Undo now) e.stored)) (undone-back (suc n) (version text (edit ∷ past) future) e.place) in
    let goal : group_goal steps.Undo now ≡ length at.0.past =
    sym (run-ends steps.Undo now) ∙ ap (λ k. length (stepped_times steps.Undo k now.content).past) long
    ∙ ap (λ (t : Edited). length t.past) (undone-back (suc n) (version text (edit ∷ past) future) e.place) in
    record {
      many = λ some.
          as-counted (after_key d None now Undo) (after_keys d None now (replicate (undos now) UndoEdit)) (stepped_to e at.0 at.1)
          (group_goal steps.Undo now) (ran ∙ whole)
          (ap (λ k. after_keys d None now (replicate k UndoEdit)) same ∙ all-undos d e n text edit past future works (omega arith)) goal;
      some = λ some. omega (arith, same);
      none = λ is. absurd (cc is);
    }

redo-steps : (d : Data) (e : Editor) (text : List ℕ) (past future : List Edit) → DoesWork e
    → let now : Editor = record e { content = version text past future } in
    IsManySteps d now Redo RedoEdit (redos now) future
redo-steps d e text past [] works =
    let now : Editor = record e { content = version text past [] } in
    let was = cleared now in
    no-steps d now Redo RedoEdit (redos now)
    (ended-done d None now Redo works.settled refl refl refl works.other works.writes
    ∙ ap (λ c. as_left RedoEdit (by_group steps.Redo (without_prompt was) c)) (no-redos (group_length steps.Redo was) text past)
    ∙ sym (ended-done d None now RedoEdit works.settled refl refl refl works.other works.writes))
redo-steps d e text past (edit ∷ future) works =
    let now : Editor = record e { content = version text past (edit ∷ future) } in
    let last = length past + suc (length future) in
    let n = run_end e.undo_groups (length past) last - length past - 1 in
    let long : group_length steps.Redo now ≡ suc n = redo-length e.undo_groups (length past) (length future) in
    let same : redos now ≡ suc n = ap (λ k. k - length past) (sym (redo-ends e.undo_groups (length past) (suc (length future)))) ∙ long in
    let few : n ≤ length future = omega (arith, end-last e.undo_groups (length past) last) in
    let at = iterate again (suc n) (version text past (edit ∷ future), e.place) in
    let ran = redo-run d e n text edit past future works long in
    let whole = ap (λ t. run_to e t at.1 (is_changed_at (group_goal steps.Redo now) e.stored)) (redone-again (suc n) (version text past (edit ∷ future)) e.place) in
    let goal : group_goal steps.Redo now ≡ length at.0.past =
    sym (run-ends steps.Redo now) ∙ ap (λ k. length (stepped_times steps.Redo k now.content).past) long
    ∙ ap (λ (t : Edited). length t.past) (redone-again (suc n) (version text past (edit ∷ future)) e.place) in
    record {
      many = λ some.
          as-counted (after_key d None now Redo) (after_keys d None now (replicate (redos now) RedoEdit)) (stepped_to e at.0 at.1)
          (group_goal steps.Redo now) (ran ∙ whole)
          (ap (λ k. after_keys d None now (replicate k RedoEdit)) same ∙ all-redos d e n text edit past future works few) goal;
      some = λ some. omega (arith, same);
      none = λ is. absurd (cc is);
    }

pub run-keys-are-steps : RunKeysAreSteps
run-keys-are-steps d e settled other writes = let works : DoesWork e = record { settled = settled; other = other; writes = writes } in record {
  undo = undo-steps d e e.content.text e.content.past e.content.future works;
  redo = redo-steps d e e.content.text e.content.past e.content.future works;
}
