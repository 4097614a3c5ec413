-- The versions of a text: edits add one, undo and redo lead from one to another.
use Rattle.std.proofs.Common.{◌≡◌, ℕ, zero, suc, ◌+◌, ◌-◌, ◌<◌, ◌≤◌, List, [], ◌∷◌, ◌++◌, length, get_or, refl, sym, ap, subst, ◌∙◌, append_assoc, arith, inl, inr}
use Rattle.std.proofs.lemmas.Bool.{le-ltb, lt-ltb}
use Rattle.std.proofs.lemmas.Bool.Decides.{leb_tells}
use Rattle.std.proofs.lemmas.List.{get_or_append_left, length-append}
use Rattle.std.proofs.Math.Seq.{get_or-append_seam}
use Rattle.bx_text.specs.Edits.{Edit, Edited, redone, replaced, undone, redone_times, undone_times}
use Rattle.bx_document.specs.History.{stepped_times}
use Rattle.bx_document.specs.Past.{stepped}
use Rattle.bx_document.specs.declared.history.HistoryStep.{HistoryStep}
use Rattle.bx_document.specs.declared.history.HistoryStep.TheVariants as history
use Rattle.bx_editor.specs.undo_groups.Groups.{above, least, run_end, run_start}

-- ---- the versions, from the opened text on

abbrev befores : List Edit → List (List ℕ)
befores [] = []
befores (edit ∷ past) = befores past ++ edit.before.text ∷ []

abbrev afters : List Edit → List (List ℕ)
afters [] = []
afters (edit ∷ future) = edit.after.text ∷ afters future

abbrev versions : Edited → List (List ℕ)
versions t = befores t.past ++ t.text ∷ afters t.future

-- the text once the past has this length
abbrev pub version : ℕ → Edited → List ℕ
version k t = get_or (versions t) k []

-- the latest edit led to the text, from a text to which the other edits led
abbrev IsPastOf : List ℕ → List Edit → Type 0
IsPastOf text [] = Unit {0}
IsPastOf text (edit ∷ past) = (edit.after.text ≡ text) × IsPastOf edit.before.text past

-- the next edit leads from the text to one from which the other edits lead
abbrev IsFutureOf : List ℕ → List Edit → Type 0
IsFutureOf text [] = Unit {0}
IsFutureOf text (edit ∷ future) = (edit.before.text ≡ text) × IsFutureOf edit.after.text future

pub record IsChain (t : Edited) : Type 0 where
  pub past : IsPastOf t.text t.past
  pub future : IsFutureOf t.text t.future

length-befores : (past : List Edit) → length (befores past) ≡ length past
length-befores [] = refl
length-befores (edit ∷ past) = let one = length-append (befores past) (edit.before.text ∷ []) in omega (arith, one, length-befores past)

pub version_here : (t : Edited) → version (length t.past) t ≡ t.text
version_here t =
    ap (λ k. get_or (versions t) k []) (sym (length-befores t.past)) ∙ get_or-append_seam (befores t.past) t.text (afters t.future) []

-- ---- an edit

pub replaced_chain : (t : Edited) (start stop : ℕ) (new : List ℕ) (before after : ℕ) → IsChain t → IsChain (replaced t start stop new before after)
replaced_chain t start stop new before after h = record { past = (refl, h.past); future = tt }

-- it keeps the versions up to the text that it changes
pub version_kept : (t : Edited) (start stop : ℕ) (new : List ℕ) (before after k : ℕ) → k ≤ length t.past
    → version k (replaced t start stop new before after) ≡ version k t
version_kept t start stop new before after k within =
    let front = befores t.past ++ t.text ∷ [] in
    let text : List ℕ = (replaced t start stop new before after).text in
    let one = length-append (befores t.past) (t.text ∷ []) in
    let inside : k < length front = omega (arith, within, one, length-befores t.past) in
    get_or_append_left front (text ∷ []) [] k inside
    ∙ sym (get_or_append_left front (afters t.future) [] k inside)
    ∙ ap (λ ts. get_or ts k []) (append_assoc (befores t.past) (t.text ∷ []) (afters t.future))

-- ---- undo and redo

-- the same versions, in a chain
pub record Leads (old new : Edited) : Type 0 where
  pub chain : IsChain new
  pub same : versions new ≡ versions old

undone_leads : (text : List ℕ) (past future : List Edit) → let t : Edited = record { text = text; past = past; future = future } in
    IsChain t → Leads t (undone t)
undone_leads text [] future h = record { chain = h; same = refl }
undone_leads text (edit ∷ past) future h = record {
  chain = record { past = h.past.1; future = (refl, subst (λ x. IsFutureOf x future) (sym h.past.0) h.future) };
  same = ap (λ x. befores past ++ edit.before.text ∷ x ∷ afters future) h.past.0
      ∙ sym (append_assoc (befores past) (edit.before.text ∷ []) (text ∷ afters future));
}

redone_leads : (text : List ℕ) (past future : List Edit) → let t : Edited = record { text = text; past = past; future = future } in
    IsChain t → Leads t (redone t)
redone_leads text past [] h = record { chain = h; same = refl }
redone_leads text past (edit ∷ future) h = record {
  chain = record { past = (refl, subst (λ x. IsPastOf x past) (sym h.future.0) h.past); future = h.future.1 };
  same = append_assoc (befores past) (edit.before.text ∷ []) (edit.after.text ∷ afters future)
      ∙ ap (λ x. befores past ++ x ∷ edit.after.text ∷ afters future) h.future.0;
}

undos_lead : (n : ℕ) (t : Edited) → IsChain t → Leads t (undone_times n t)
undos_lead zero t h = record { chain = h; same = refl }
undos_lead (suc n) t h =
    let one = undone_leads t.text t.past t.future h in
    let more = undos_lead n (undone t) one.chain in
    record { chain = more.chain; same = more.same ∙ one.same }

redos_lead : (n : ℕ) (t : Edited) → IsChain t → Leads t (redone_times n t)
redos_lead zero t h = record { chain = h; same = refl }
redos_lead (suc n) t h =
    let one = redone_leads t.text t.past t.future h in
    let more = redos_lead n (redone t) one.chain in
    record { chain = more.chain; same = more.same ∙ one.same }

pub stepped_leads : (step : HistoryStep) (t : Edited) → IsChain t → Leads t (stepped step t)
stepped_leads history.Undo t h = undone_leads t.text t.past t.future h
stepped_leads history.Redo t h = redone_leads t.text t.past t.future h

pub steps_lead : (step : HistoryStep) (n : ℕ) (t : Edited) → IsChain t → Leads t (stepped_times step n t)
steps_lead history.Undo n t h = undos_lead n t h
steps_lead history.Redo n t h = redos_lead n t h

pub version_led : (k : ℕ) (old new : Edited) → Leads old new → version k new ≡ version k old
version_led k old new leads = ap (λ ts. get_or ts k []) leads.same

-- ---- where the steps of a run end

undone_past : (n : ℕ) (text : List ℕ) (past future : List Edit) → n ≤ length past
    → length (undone_times n (record { text = text; past = past; future = future })).past + n ≡ length past
undone_past zero text past future within = omega arith
undone_past (suc n) text [] future within = absurd (omega (arith, within))
undone_past (suc n) text (edit ∷ past) future within =
    let rest = undone_past n edit.before.text past (edit ∷ future) (omega (arith, within)) in omega (arith, rest)

redone_past : (n : ℕ) (text : List ℕ) (past future : List Edit) → n ≤ length future
    → length (redone_times n (record { text = text; past = past; future = future })).past ≡ length past + n
redone_past zero text past future within = omega arith
redone_past (suc n) text past [] within = absurd (omega (arith, within))
redone_past (suc n) text past (edit ∷ future) within =
    let rest = redone_past n edit.after.text (edit ∷ past) future (omega (arith, within)) in omega (arith, rest)

-- a run begins at most here
starts_before : (numbers : List ℕ) (n : ℕ) → run_start numbers n ≤ n
starts_before [] n = omega arith
starts_before (r ∷ numbers) n = elim (leb_tells n r) as (λ _. run_start (r ∷ numbers) n ≤ n) [
  | inl h ↦ rw (le-ltb r n h.1) (starts_before numbers n)
  | inr h ↦ rw (lt-ltb r n h.1) (omega (arith, h.1, starts_before numbers n))
]

ends_within : (numbers : List ℕ) (last : ℕ) → least last numbers ≤ last
ends_within [] last = omega arith
ends_within (r ∷ numbers) last = omega (arith, ends_within numbers last)

ends_behind : (numbers : List ℕ) (n last : ℕ) → n ≤ last → n ≤ run_end numbers n last
ends_behind [] n last within = within
ends_behind (r ∷ numbers) n last within = elim (leb_tells r n) as (λ _. n ≤ run_end (r ∷ numbers) n last) [
  | inl h ↦ rw (le-ltb n r h.1) (ends_behind numbers n last within)
  | inr h ↦ rw (lt-ltb n r h.1) (omega (arith, h.1, ends_behind numbers n last within))
]

pub undo_ends : (numbers : List ℕ) (t : Edited)
    → length (undone_times (length t.past - run_start numbers (length t.past)) t).past ≡ run_start numbers (length t.past)
undo_ends numbers t =
    let n = length t.past in
    let start = starts_before numbers n in
    let past = undone_past (n - run_start numbers n) t.text t.past t.future (omega arith) in
    omega (arith, start, past)

pub redo_ends : (numbers : List ℕ) (t : Edited)
    → let n = length t.past in
    let last = n + length t.future in
    length (redone_times (run_end numbers n last - n) t).past ≡ run_end numbers n last
redo_ends numbers t =
    let n = length t.past in
    let last = n + length t.future in
    let most = ends_within (above n numbers) last in
    let least_is = ends_behind numbers n last (omega arith) in
    let past = redone_past (run_end numbers n last - n) t.text t.past t.future (omega (arith, most)) in
    omega (arith, least_is, past)
