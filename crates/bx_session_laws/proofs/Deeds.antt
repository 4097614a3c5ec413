-- What edits and steps keep of the texts that count as stored.
use Rattle.std.proofs.Common.{◌≡◌, ℕ, ◌≤◌, Bool, true, false, not, ◌==◌, nat_lt, List, [], ◌∷◌, length, Option, Some, None, refl, sym, ap, subst, ◌∙◌, arith, ◌⊎◌, inl, inr, if◌then◌else◌}
use Rattle.std.specs.Prelude.{IfSome}
use Rattle.std.proofs.lemmas.Bool.{le-ltb, lt-ltb}
use Rattle.std.proofs.lemmas.Bool.Decides.{leb_tells, nat_tests}
use Rattle.bx_text.specs.Edits.{Edit, Edited}
use Rattle.bx_document.specs.History.{stepped_times}
use Rattle.bx_document.specs.declared.history.HistoryStep.{HistoryStep}
use Rattle.bx_document.specs.declared.history.HistoryStep.TheVariants as history
use Rattle.bx_editor.specs.Editor.{stored_behind, is_changed_at}
use Rattle.bx_session_laws.proofs.Alike.{Deed, Edits, TakesStep, TakesRun, Work, after_deed, after_deeds, count, end_of}
use Rattle.bx_session_laws.proofs.Versions.{IsChain, redo_ends, replaced_chain, stepped_leads, steps_lead, undo_ends, version, version_here, version_kept}
use Rattle.bx_session_laws.proofs.Versions.{version_led}

pub unlike : (b : Bool) → b ≡ false → b ≡ true → ⊥
unlike b off on = let both : false ≡ true = sym off ∙ on in cc both

-- ---- the session goes on

deed_goes_on : (deed : Deed) (w : Work) → (after_deed deed w).ended ≡ w.ended
deed_goes_on (Edits start stop new before after goes_on) w = refl
deed_goes_on (TakesStep step) w = refl
deed_goes_on (TakesRun step) w = refl

pub deeds_go_on : (deeds : List Deed) (w : Work) → (after_deeds deeds w).ended ≡ w.ended
deeds_go_on [] w = refl
deeds_go_on (deed ∷ deeds) w = deeds_go_on deeds (after_deed deed w) ∙ deed_goes_on deed w

-- ---- where the steps of a run end

run_ends : (step : HistoryStep) (w : Work) → length (stepped_times step (count step w) w.content).past ≡ end_of step w
run_ends history.Undo w = undo_ends w.undo_groups w.content
run_ends history.Redo w = redo_ends w.undo_groups w.content

unchanged_at : (n : ℕ) (stored : Option ℕ) → is_changed_at n stored ≡ false → stored ≡ Some n
unchanged_at n None is = absurd (cc is)
unchanged_at n (Some stored) is = let same : n ≡ stored = by_test (n == stored) refl is in ap Some (sym same) where
  by_test : (b : Bool) → (n == stored) ≡ b → not b ≡ false → n ≡ stored
  by_test true e is = grind (arith, nat_tests, e)
  by_test false e is = absurd (cc is)

-- an edit at a smaller length of the past loses a stored text
stored_kept : (n : ℕ) (stored : Option ℕ) (P Q : ℕ → Type 0) → ((k : ℕ) → k ≤ n → P k → Q k) → IfSome stored P → IfSome (stored_behind n stored) Q
stored_kept n None P Q on h = tt
stored_kept n (Some k) P Q on h = elim (leb_tells k n) as (λ _. IfSome (stored_behind n (Some k)) Q) [
  | inl low ↦ rw (le-ltb n k low.1) (on k low.1 h)
  | inr high ↦ rw (lt-ltb n k high.1) tt
]

-- ---- the text that counts as stored has this property

pub record Knows (P : List ℕ → Type 0) (w : Work) : Type 0 where
  pub chain : IsChain w.content
  pub stored : IfSome w.stored (λ k. P (version k w.content))
  pub unchanged : w.changed ≡ false → w.stored ≡ Some (length w.content.past)

pub knows_text : (P : List ℕ → Type 0) (w : Work) → Knows P w → w.changed ≡ false → P w.content.text
knows_text P w h is =
    subst P (version_here w.content) (subst (λ (o : Option ℕ). IfSome o (λ k. P (version k w.content))) (h.unchanged is) h.stored)

led : (P : List ℕ → Type 0) (stored : Option ℕ) (old new : Edited) → ((k : ℕ) → version k new ≡ version k old)
    → IfSome stored (λ k. P (version k old)) → IfSome stored (λ k. P (version k new))
led P None old new same h = tt
led P (Some k) old new same h = subst P (sym (same k)) h

deed_knows : (P : List ℕ → Type 0) (deed : Deed) (w : Work) → Knows P w → Knows P (after_deed deed w)
deed_knows P (Edits start stop new before after goes_on) w h =
    let t = w.content in record {
      chain = replaced_chain t start stop new before after h.chain;
      stored = stored_kept (length t.past) w.stored (λ k. P (version k t)) (λ k. P (version k (after_deed (Edits start stop new before after goes_on) w).content))
          (λ k within was. subst P (sym (version_kept t start stop new before after k within)) was) h.stored;
      unchanged = λ is. absurd (cc is);
    }
deed_knows P (TakesStep step) w h =
    let leads = stepped_leads step w.content h.chain in record {
      chain = leads.chain;
      stored = led P w.stored w.content (after_deed (TakesStep step) w).content (λ k. version_led k w.content (after_deed (TakesStep step) w).content leads) h.stored;
      unchanged = λ is. absurd (cc is);
    }
deed_knows P (TakesRun step) w h =
    let new = stepped_times step (count step w) w.content in
    let leads = steps_lead step (count step w) w.content h.chain in record {
      chain = leads.chain;
      stored = led P w.stored w.content new (λ k. version_led k w.content new leads) h.stored;
      unchanged = λ is. unchanged_at (end_of step w) w.stored is ∙ ap Some (sym (run_ends step w));
    }

pub deeds_know : (P : List ℕ → Type 0) (deeds : List Deed) (w : Work) → Knows P w → Knows P (after_deeds deeds w)
deeds_know P [] w h = h
deeds_know P (deed ∷ deeds) w h = deeds_know P deeds (after_deed deed w) (deed_knows P deed w h)

-- ---- a replay: only the opened text counts as stored

abbrev pub IsFirstOrNone : Option ℕ → Type 0
IsFirstOrNone stored = (stored ≡ None) ⊎ (stored ≡ Some 0)

pub record Traces (first : List ℕ) (w : Work) : Type 0 where
  pub chain : IsChain w.content
  pub first_is : version 0 w.content ≡ first
  pub stored : IsFirstOrNone w.stored
  pub unchanged : w.changed ≡ false → w.content.past ≡ []

pub traced_text : (first : List ℕ) (w : Work) → Traces first w → w.changed ≡ false → w.content.text ≡ first
traced_text first w h is =
    sym (version_here w.content) ∙ ap (λ (past : List Edit). version (length past) w.content) (h.unchanged is) ∙ h.first_is

first_behind : (n : ℕ) (stored : Option ℕ) → IsFirstOrNone stored → IsFirstOrNone (stored_behind n stored)
first_behind n stored (inl none) = inl (ap (stored_behind n) none)
first_behind n stored (inr first) = subst (λ (o : Option ℕ). IsFirstOrNone (stored_behind n o)) (sym first) (by_test (nat_lt n 0)) where
  by_test : (b : Bool) → IsFirstOrNone (if b then None else Some 0)
  by_test true = inl refl
  by_test false = inr refl

-- a length at which the text is unchanged is 0
at_first : (n : ℕ) (stored : Option ℕ) → IsFirstOrNone stored → stored ≡ Some n → n ≡ 0
at_first n stored (inl none) is = absurd (let both : None ≡ Some n = sym none ∙ is in cc both)
at_first n stored (inr first) is = let both : Some 0 ≡ Some n = sym first ∙ is in cc both

none_in : (past : List Edit) → length past ≡ 0 → past ≡ []
none_in [] is = refl
none_in (edit ∷ past) is = absurd (omega (arith, is))

deed_traces : (first : List ℕ) (deed : Deed) (w : Work) → Traces first w → Traces first (after_deed deed w)
deed_traces first (Edits start stop new before after goes_on) w h =
    let t = w.content in record {
      chain = replaced_chain t start stop new before after h.chain;
      first_is = version_kept t start stop new before after 0 (omega arith) ∙ h.first_is;
      stored = first_behind (length t.past) w.stored h.stored;
      unchanged = λ is. absurd (cc is);
    }
deed_traces first (TakesStep step) w h =
    let leads = stepped_leads step w.content h.chain in record {
      chain = leads.chain;
      first_is = version_led 0 w.content (after_deed (TakesStep step) w).content leads ∙ h.first_is;
      stored = h.stored;
      unchanged = λ is. absurd (cc is);
    }
deed_traces first (TakesRun step) w h =
    let new = stepped_times step (count step w) w.content in
    let leads = steps_lead step (count step w) w.content h.chain in record {
      chain = leads.chain;
      first_is = version_led 0 w.content new leads ∙ h.first_is;
      stored = h.stored;
      unchanged = λ is. none_in new.past (run_ends step w ∙ at_first (end_of step w) w.stored h.stored (unchanged_at (end_of step w) w.stored is));
    }

pub deeds_trace : (first : List ℕ) (deeds : List Deed) (w : Work) → Traces first w → Traces first (after_deeds deeds w)
deeds_trace first [] w h = h
deeds_trace first (deed ∷ deeds) w h = deeds_trace first deeds (after_deed deed w) (deed_traces first deed w h)

-- ---- a session and its replay: what the replay counts as stored, so does the session, and it counts as changed where the session does

pub record Tells (w r : Work) : Type 0 where
  pub content : r.content ≡ w.content
  pub undo_groups : r.undo_groups ≡ w.undo_groups
  pub stored : (r.stored ≡ None) ⊎ (r.stored ≡ w.stored)
  pub changed : w.changed ≡ true → r.changed ≡ true

stored_tells : (n : ℕ) (w r : Option ℕ) → (r ≡ None) ⊎ (r ≡ w) → (stored_behind n r ≡ None) ⊎ (stored_behind n r ≡ stored_behind n w)
stored_tells n w r (inl none) = inl (ap (stored_behind n) none)
stored_tells n w r (inr same) = inr (ap (stored_behind n) same)

changed_tells : (n : ℕ) (w r : Option ℕ) → (r ≡ None) ⊎ (r ≡ w) → is_changed_at n w ≡ true → is_changed_at n r ≡ true
changed_tells n w r (inl none) is = ap (is_changed_at n) none
changed_tells n w r (inr same) is = ap (is_changed_at n) same ∙ is

-- the same content and runs
abbrev like : Work → Work → Work
like w r = record r { content = w.content; undo_groups = w.undo_groups }

likened : (w r : Work) → Tells w r → like w r ≡ r
likened w r h = ap (λ (t : Edited). record r { content = t; undo_groups = w.undo_groups }) (sym h.content) ∙ ap (λ (ns : List ℕ). record r { undo_groups = ns }) (sym h.undo_groups)

like_tells : (deed : Deed) (w r : Work) → Tells w r → Tells (after_deed deed w) (after_deed deed (like w r))
like_tells (Edits start stop new before after goes_on) w r h =
    record { content = refl; undo_groups = refl; stored = stored_tells (length w.content.past) w.stored r.stored h.stored; changed = λ is. refl }
like_tells (TakesStep step) w r h = record { content = refl; undo_groups = refl; stored = h.stored; changed = λ is. refl }
like_tells (TakesRun history.Undo) w r h =
    record { content = refl; undo_groups = refl; stored = h.stored; changed = changed_tells (end_of history.Undo w) w.stored r.stored h.stored }
like_tells (TakesRun history.Redo) w r h =
    record { content = refl; undo_groups = refl; stored = h.stored; changed = changed_tells (end_of history.Redo w) w.stored r.stored h.stored }

deed_tells : (deed : Deed) (w r : Work) → Tells w r → Tells (after_deed deed w) (after_deed deed r)
deed_tells deed w r h = subst (λ (x : Work). Tells (after_deed deed w) (after_deed deed x)) (likened w r h) (like_tells deed w r h)

pub deeds_tell : (deeds : List Deed) (w r : Work) → Tells w r → Tells (after_deeds deeds w) (after_deeds deeds r)
deeds_tell [] w r h = h
deeds_tell (deed ∷ deeds) w r h = deeds_tell deeds (after_deed deed w) (after_deed deed r) (deed_tells deed w r h)
