-- Undo then Redo, and Redo then Undo, lead back.
use Rattle.std.proofs.Common.{◌≡◌, ℕ, suc, ◌+◌, ◌-◌, ◌≤◌, Bool, false, List, [], ◌∷◌, length, refl, sym, ap, ap₂, subst, ◌∙◌, arith}
use Rattle.std.specs.Prelude.{Option, Some, None}
use Rattle.std.specs.Fn.{iterate}
use Rattle.bx_keys.specs.declared.key.Key.TheVariants.{Redo, Undo}
use Rattle.bx_text.specs.declared.change.Change.{Change}
use Rattle.bx_text.specs.Edits.{Edit, Edited, inserted, redone_times, splice, undone_times}
use Rattle.bx_document.specs.History.{next_changes, stepped_times}
use Rattle.bx_document.specs.declared.history.HistoryStep.{HistoryStep}
use Rattle.bx_document.specs.declared.history.HistoryStep.TheVariants as steps
use Rattle.bx_editor.specs.undo_groups.Laws.{BeginsAt, EndsAt}
use Rattle.bx_editor.specs.undo_groups.Groups.{run_end, run_start}
use Rattle.bx_editor.proofs.undo_groups_lemmas.RunLaws.{undo-then-redo}
use Rattle.bx_editor.proofs.undo_groups_lemmas.Steps.{end-last, start-bound}
use Rattle.bx_ucd.specs.Data.{Data}
use Rattle.bx_editor.specs.Asking.{with_wrap}
use Rattle.bx_editor.specs.Editor.{Editor, after_redo, after_step, after_undo, at_start, by_group, is_changed_at, group_goal, group_length, place_after}
use Rattle.bx_editor.specs.Editor.{with_exchange, with_insertion, with_removal}
use Rattle.bx_editor.specs.Putting.{with_line_put}
use Rattle.bx_editor.specs.Region.{line, region}
use Rattle.bx_editor.specs.Keys.{after_key}
use Rattle.bx_editor.specs.Functions.{after_keys}
use Rattle.bx_editor_laws.specs.Laws.{after_typing, IsUnmarkedAt}
use Rattle.bx_editor_laws.specs.RunLaws.{RedoRunMirrorsUndoRun}
use Rattle.bx_editor.proofs.ManySteps.{again, again-and-back, again-place, back, back-and-again, back-place, future-back, past-again, past-back}
use Rattle.bx_editor.proofs.ManySteps.{version, IsFutureOf, IsPastOf}
use Rattle.bx_editor_laws.proofs.RunKeys.{redo-length, redo-run, run-works, run_to, undo-length, undo-run}
use Rattle.bx_editor_laws.proofs.Chains.{Chain, redone-chain, replaced-chain, undone-chain}
use Rattle.bx_editor_laws.proofs.KeyEnds.{DoesWork}
use Rattle.bx_editor_laws.proofs.KeyKept.{IsKeptByEdits, typing-keeps}

-- text, past and future, the place, and no mark
record IsUnmarked (t : Edited) (place : ℕ) (e : Editor) : Type 0 where
  pub content_is : e.content ≡ t
  pub unmarked : IsUnmarkedAt place e

ran-to : (e new : Editor) (t now : Edited) (place there : ℕ) (changed : Bool) → new ≡ run_to e now there changed → now ≡ t → there ≡ place
    → IsUnmarked t place new
ran-to e new t now place there changed is same at =
    subst (IsUnmarked t place) (sym is) (record { content_is = same; unmarked = record { place_is = at; mark_is = refl } })

-- an undo group is redone from an editor of any history that has enough edits
redo-any : (d : Data) (e : Editor) (n : ℕ) (text : List ℕ) (past future : List Edit) → DoesWork e → suc n ≤ length future
    → let t : Edited = version text past future in let now : Editor = record e { content = t } in group_length steps.Redo now ≡ suc n
    → after_key d None now Redo
    ≡ run_to e (redone_times (suc n) t) ((iterate again (suc n) (t, e.place)).1) (is_changed_at (group_goal steps.Redo now) e.stored)
redo-any d e n text past [] works few long = absurd (omega (arith, few))
redo-any d e n text past (edit ∷ future) works few long = redo-run d e n text edit past future works long

undo-any : (d : Data) (e : Editor) (n : ℕ) (text : List ℕ) (past future : List Edit) → DoesWork e → suc n ≤ length past
    → let t : Edited = version text past future in let now : Editor = record e { content = t } in group_length steps.Undo now ≡ suc n
    → after_key d None now Undo
    ≡ run_to e (undone_times (suc n) t) ((iterate back (suc n) (t, e.place)).1) (is_changed_at (group_goal steps.Undo now) e.stored)
undo-any d e n text [] future works few long = absurd (omega (arith, few))
undo-any d e n text (edit ∷ past) future works few long = undo-run d e n text edit past future works long

redo-lasts : (numbers : List ℕ) (p f q g n : ℕ) → EndsAt numbers (p + f) p → q ≡ run_start numbers p → p - run_start numbers p ≡ suc n → g ≡ suc n + f
    → run_end numbers q (q + g) - q ≡ suc n
redo-lasts numbers p f q g n ends from long left =
    let last : q + g ≡ p + f = omega (arith, from, long, left, start-bound numbers p, ends.0) in
    let to : run_end numbers q (q + g) ≡ p = ap₂ (run_end numbers) from last ∙ undo-then-redo.redone numbers (p + f) p ends in
    omega (arith, to, from, long)

undo-lasts : (numbers : List ℕ) (p f q n : ℕ) → BeginsAt numbers (p + f) p → q ≡ run_end numbers p (p + f) → run_end numbers p (p + f) - p ≡ suc n
    → q - run_start numbers q ≡ suc n
undo-lasts numbers p f q n begins to long =
    let from : run_start numbers q ≡ p = ap (run_start numbers) to ∙ undo-then-redo.undone numbers (p + f) p begins in
    omega (arith, from, to, long)

undo-and-redo : (d : Data) (e : Editor) (text : List ℕ) (edit : Edit) (past future : List Edit) → DoesWork e → IsPastOf text (edit ∷ past)
    → EndsAt e.undo_groups (suc (length past) + length future) (suc (length past))
    → let t : Edited = version text (edit ∷ past) future in IsUnmarked t edit.after.place (after_keys d None (record e { content = t }) (Undo ∷ Redo ∷ []))
undo-and-redo d e text edit past future works h ends =
    let p = suc (length past) in
    let t : Edited = version text (edit ∷ past) future in
    let now : Editor = record e { content = t } in
    let n = length past - run_start e.undo_groups p in
    let long : p - run_start e.undo_groups p ≡ suc n = undo-length e.undo_groups (length past) in
    let undone = undone_times (suc n) t in
    let place = (iterate back (suc n) (t, e.place)).1 in
    let first : Editor = run_to e undone place (is_changed_at (group_goal steps.Undo now) e.stored) in
    let few : n ≤ length past = omega arith in
    let left : length undone.future ≡ suc n + length future = future-back (suc n) text (edit ∷ past) future (omega (arith, few)) in
    let from : length undone.past ≡ run_start e.undo_groups p = past-back (suc n) text (edit ∷ past) future ∙ omega (arith, long, start-bound e.undo_groups p) in
    let lasts : group_length steps.Redo first ≡ suc n = redo-lasts e.undo_groups p (length future) (length undone.past) (length undone.future) n ends from long left in
    let second = redo-any d first n undone.text undone.past undone.future (run-works e undone place (is_changed_at (group_goal steps.Undo now) e.stored) works) (omega (arith, left)) lasts in
    ran-to first (after_keys d None now (Undo ∷ Redo ∷ [])) t (redone_times (suc n) undone) edit.after.place
    ((iterate again (suc n) (undone, place)).1) (is_changed_at (group_goal steps.Redo first) e.stored)
    (ap (λ new. after_key d None new Redo) (undo-run d e n text edit past future works long) ∙ second)
    (back-and-again (suc n) text (edit ∷ past) future (omega (arith, few)) h) (again-place n text past future edit place few h)

redo-and-undo : (d : Data) (e : Editor) (text : List ℕ) (edit : Edit) (past future : List Edit) → DoesWork e → IsFutureOf text (edit ∷ future)
    → BeginsAt e.undo_groups (length past + suc (length future)) (length past)
    → let t : Edited = version text past (edit ∷ future) in IsUnmarked t edit.before.place (after_keys d None (record e { content = t }) (Redo ∷ Undo ∷ []))
redo-and-undo d e text edit past future works h begins =
    let p = length past in
    let last = p + suc (length future) in
    let t : Edited = version text past (edit ∷ future) in
    let now : Editor = record e { content = t } in
    let n = run_end e.undo_groups p last - p - 1 in
    let long : run_end e.undo_groups p last - p ≡ suc n = redo-length e.undo_groups p (length future) in
    let redone = redone_times (suc n) t in
    let place = (iterate again (suc n) (t, e.place)).1 in
    let first : Editor = run_to e redone place (is_changed_at (group_goal steps.Redo now) e.stored) in
    let few : n ≤ length future = omega (arith, long, end-last e.undo_groups p last) in
    let size : length redone.past ≡ p + suc n = past-again (suc n) text past (edit ∷ future) (omega (arith, few)) in
    let to : length redone.past ≡ run_end e.undo_groups p last = size ∙ omega (arith, long) in
    let lasts : group_length steps.Undo first ≡ suc n = undo-lasts e.undo_groups p (suc (length future)) (length redone.past) n begins to long in
    let second = undo-any d first n redone.text redone.past redone.future (run-works e redone place (is_changed_at (group_goal steps.Redo now) e.stored) works) (omega (arith, size)) lasts in
    ran-to first (after_keys d None now (Redo ∷ Undo ∷ [])) t (undone_times (suc n) redone) edit.before.place
    ((iterate back (suc n) (redone, place)).1) (is_changed_at (group_goal steps.Undo first) e.stored)
    (ap (λ new. after_key d None new Undo) (redo-run d e n text edit past future works long) ∙ second)
    (again-and-back (suc n) text past (edit ∷ future) (omega (arith, few)) h) (back-place n text past future edit place few h)

-- ---- whatever the history

redo-mirrors : (d : Data) (e : Editor) (text : List ℕ) (past future : List Edit) → DoesWork e → IsPastOf text past → EndsAt e.undo_groups (length past + length future) (length past)
    → let t : Edited = version text past future in let new = after_keys d None (record e { content = t }) (Undo ∷ Redo ∷ []) in
    (new.content ≡ t) × ((edit : Edit) (rest : List Edit) → past ≡ edit ∷ rest → IsUnmarkedAt edit.after.place new)
redo-mirrors d e text [] future works h ends = absurd (omega (arith, ends.0))
redo-mirrors d e text (latest ∷ past) future works h ends =
    let there = undo-and-redo d e text latest past future works h ends in
    let new = after_keys d None (record e { content = version text (latest ∷ past) future }) (Undo ∷ Redo ∷ []) in
    (there.content_is, λ edit rest is. let same : latest ≡ edit = cc in subst (λ (x : Edit). IsUnmarkedAt x.after.place new) same there.unmarked)

undo-mirrors : (d : Data) (e : Editor) (text : List ℕ) (past future : List Edit) → DoesWork e → IsFutureOf text future → BeginsAt e.undo_groups (length past + length future) (length past)
    → let t : Edited = version text past future in let new = after_keys d None (record e { content = t }) (Redo ∷ Undo ∷ []) in
    (new.content ≡ t) × ((edit : Edit) (rest : List Edit) → future ≡ edit ∷ rest → IsUnmarkedAt edit.before.place new)
undo-mirrors d e text past [] works h begins = absurd (omega (arith, begins.0))
undo-mirrors d e text past (next ∷ future) works h begins =
    let there = redo-and-undo d e text next past future works h begins in
    let new = after_keys d None (record e { content = version text past (next ∷ future) }) (Redo ∷ Undo ∷ []) in
    (there.content_is, λ edit rest is. let same : next ≡ edit = cc in subst (λ (x : Edit). IsUnmarkedAt x.before.place new) same there.unmarked)

-- ---- what each key keeps of a history

-- it is a chain of texts, and they are not only looked at
abbrev IsChained : Editor → Type 0
IsChained e = Chain [] e.content None × (e.read_only ≡ false)

exchange : (d : Data) (e : Editor) (start stop : ℕ) (new : List ℕ) → IsChained e → IsChained (with_exchange d e start stop new)
exchange d e start stop [] h =
    (replaced-chain [] e.content None start stop [] e.place ((with_removal d e start stop false).place) h.0, h.1)
exchange d e start stop (b ∷ bs) h =
    let cut = with_removal d e start stop false in
    let two = with_exchange d e start stop (b ∷ bs) in (
      replaced-chain [] cut.content None start start (b ∷ bs) cut.place two.place
          (replaced-chain [] e.content None start stop [] e.place cut.place h.0),
      h.1,
    )

wrapping : (d : Data) (e : Editor) (opener closer : List ℕ) → IsChained e → IsChained (with_wrap d e opener closer)
wrapping d e opener closer h =
    let t = e.content in
    let start = (region e).0 in
    let stop = (region e).1 in
    let between = place_after d e (splice t.text stop stop closer) (stop + length closer) in
    let one : Edited = inserted t stop closer e.place between in (
      replaced-chain [] one None start start opener between (with_wrap d e opener closer).place
          (replaced-chain [] t None stop stop closer e.place between h.0),
      h.1,
    )

undo : (e : Editor) (past : List Edit) → IsChained e → IsChained (after_undo e past)
undo e [] h = h
undo e (edit ∷ past) h = (undone-chain [] None 1 e.content h.0, h.1)

redo : (e : Editor) (future : List Edit) → IsChained e → IsChained (after_redo e future)
redo e [] h = h
redo e (edit ∷ future) h = (redone-chain [] None 1 e.content h.0, h.1)

step : (way : HistoryStep) (e : Editor) → IsChained e → IsChained (after_step way e)
step steps.Undo e h = undo e e.content.past h
step steps.Redo e h = redo e e.content.future h

stepped-chain : (way : HistoryStep) (n : ℕ) (t : Edited) → Chain [] t None → Chain [] (stepped_times way n t) None
stepped-chain steps.Undo n t h = undone-chain [] None n t h
stepped-chain steps.Redo n t h = redone-chain [] None n t h

run-by : (way : HistoryStep) (e : Editor) (change : Option Change) → IsChained e → IsChained (by_group way e change)
run-by way e None h = h
run-by way e (Some change) h = (stepped-chain way (group_length way e) e.content h.0, h.1)

chains : (d : Data) → IsKeptByEdits d IsChained
chains d = record {
  inserted = λ e new on h.
      (replaced-chain [] e.content None e.place e.place new e.place ((with_insertion d e new on).place) h.0, h.1);
  lined = λ e new h.
      (replaced-chain [] e.content None (line d e).0 (line d e).0 new e.place ((with_line_put d e new).place) h.0, h.1);
  removed = λ e start stop on h.
      (replaced-chain [] e.content None start stop [] e.place ((with_removal d e start stop on).place) h.0, h.1);
  wrapped = wrapping d;
  exchanged = exchange d;
  stepped = step;
  run = λ way e h. run-by way e (next_changes way (group_length way e) e.content) h;
  same = λ e new content looked h. (subst (λ t. Chain [] t None) (sym content) h.0, looked ∙ h.1);
}

opened : (text : List ℕ) → Chain [] (version text [] []) None
opened text = record { past = tt; future = tt; is_at = λ m is. absurd (cc is) }

pub redo-run-mirrors-undo-run : RedoRunMirrorsUndoRun
redo-run-mirrors-undo-run d text height width base typed settled other =
    let e = after_typing d (at_start text height width base) typed in
    let kept = typing-keeps d IsChained (chains d) (at_start text height width base) typed (opened text, refl) in
    let chain = kept.0 in
    let works : DoesWork e = record { settled = settled; other = other; writes = kept.1 } in
    record {
      redo = λ ends. (redo-mirrors d e e.content.text e.content.past e.content.future works chain.past ends).0;
      redo_place = λ ends. (redo-mirrors d e e.content.text e.content.past e.content.future works chain.past ends).1;
      undo = λ begins. (undo-mirrors d e e.content.text e.content.past e.content.future works chain.future begins).0;
      undo_place = λ begins. (undo-mirrors d e e.content.text e.content.past e.content.future works chain.future begins).1;
    }
