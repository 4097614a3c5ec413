-- Where no step is made the text stays; behind a run's steps the past has the length that the run leads to.
use Rattle.std.proofs.Common.{◌≡◌, ℕ, List, [], ◌∷◌, length, refl, ap, zero, suc, ◌+◌, ◌≤◌, ◌∙◌, arith}
use Rattle.std.specs.Prelude.{Option, Some, None, is_some}
use Rattle.std.specs.Option.{option_map}
use Rattle.bx_text.specs.declared.change.Change.{Change}
use Rattle.bx_text.specs.Edits.{Edit, Edited, redone_in, undone_in}
use Rattle.bx_text.specs.Changes.{first_again, first_back}
use Rattle.bx_text.proofs.UndoneTimes.{nothing_redone, nothing_undone}
use Rattle.bx_document.specs.History.{next_changes, stepped_times}
use Rattle.bx_document.specs.Past.{next_change, stepped}
use Rattle.bx_document.specs.declared.history.HistoryStep.{HistoryStep}
use Rattle.bx_document.specs.declared.history.HistoryStep.TheVariants.{Undo, Redo}
use Rattle.bx_editor.specs.Editor.{Editor, cleared, nothing_left, with_step, by_group, is_changed_at, group_length, group_goal}
use Rattle.bx_editor.specs.undo_groups.Groups.{run_end}
use Rattle.bx_editor.proofs.undo_groups_lemmas.Steps.{end-bound, end-last, end-same, start-bound}
use Rattle.bx_editor.proofs.ManySteps.{past-again, past-back}

pub no-step : (step : HistoryStep) (n : ℕ) (t : Edited) → next_changes step n t ≡ None → stepped_times step n t ≡ t
no-step Undo n t none = nothing_undone n t.text t.past t.future (ap (λ c. is_some c) none)
no-step Redo n t none = nothing_redone n t.text t.past t.future (ap (λ c. is_some c) none)

undo-none : (t : Edited) (past : List Edit) → first_back past ≡ None → undone_in t past ≡ t
undo-none t [] none = refl
undo-none t (edit ∷ past) none = absurd (cc none)

redo-none : (t : Edited) (future : List Edit) → first_again future ≡ None → redone_in t future ≡ t
redo-none t [] none = refl
redo-none t (edit ∷ future) none = absurd (cc none)

pub not-stepped : (step : HistoryStep) (t : Edited) → next_change step t ≡ None → stepped step t ≡ t
not-stepped Undo t none = undo-none t t.past none
not-stepped Redo t none = redo-none t t.future none

pub none-mapped : (change : Option Change) → option_map (λ (c : Change). c.place) change ≡ None → change ≡ None
none-mapped None is = refl
none-mapped (Some change) is = absurd (cc is)

pub cleared-length : (step : HistoryStep) (e : Editor) → group_length step (cleared e) ≡ group_length step e
cleared-length Undo e = refl
cleared-length Redo e = refl

end-from : (numbers : List ℕ) (n left : ℕ) → n ≤ run_end numbers n (n + left)
end-from numbers n zero = let same : n + 0 ≡ n = omega arith in omega (arith, ap (run_end numbers n) same ∙ end-same numbers n)
end-from numbers n (suc left) = omega (arith, end-bound numbers n (n + suc left) (omega arith))

pub run-ends : (way : HistoryStep) (e : Editor) → length (stepped_times way (group_length way e) e.content).past ≡ group_goal way e
run-ends Undo e =
    let n = length e.content.past in
    past-back (group_length Undo e) e.content.text e.content.past e.content.future ∙ omega (arith, start-bound e.undo_groups n)
run-ends Redo e =
    let n = length e.content.past in
    let last = n + length e.content.future in
    past-again (group_length Redo e) e.content.text e.content.past e.content.future (omega (arith, end-last e.undo_groups n last))
    ∙ omega (arith, end-from e.undo_groups n (length e.content.future))

-- what a run's steps leave, by the length of the past behind them
abbrev pub by_length : HistoryStep → Editor → Option Change → Editor
by_length step e None = record e { message = Some (nothing_left step) }
by_length step e (Some change) =
    let content = stepped_times step (group_length step e) e.content in
    with_step e content change.place (is_changed_at (length content.past) e.stored)

pub by-length-is : (step : HistoryStep) (e : Editor) (change : Option Change) → by_length step e change ≡ by_group step e change
by-length-is step e None = refl
by-length-is step e (Some change) =
    ap (λ n. with_step e (stepped_times step (group_length step e) e.content) change.place (is_changed_at n e.stored))
    (run-ends step e)
