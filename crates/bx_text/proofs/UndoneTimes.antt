-- Edits undone and redone at once: the texts that they lead to, and the one change that they make.
use Rattle.std.proofs.Common.{◌≡◌, ℕ, zero, suc, min, false, List, [], ◌∷◌, length, take, map, reverse, IfSome, refl, ap, sym, subst, ◌∙◌, arith}
use Rattle.std.proofs.lemmas.List.{length-reverse}
use Rattle.std.specs.List.{fold, reduce}
use Rattle.std.specs.Prelude.{is_some}
use Rattle.std.specs.Str.{IsUtf8}
use Rattle.bx_text.specs.declared.change.Change.{Change}
use Rattle.bx_text.specs.declared.step.Step.{Step}
use Rattle.bx_text.specs.declared.step.Way.{Way}
use Rattle.bx_text.specs.declared.step.Way.TheVariants.{Back, Again}
use Rattle.bx_text.specs.Buffers.{Buffers, bytes_of}
use Rattle.bx_text.specs.Edits.{Edit, Edited, change_back, change_of, undone, redone, merged, next_redos, next_undos}
use Rattle.bx_text.specs.Changes.{IsChange}
use Rattle.bx_text.specs.Edits.{redone_times, undone_times}
use Rattle.bx_text.specs.Steps.{AreSteps, after_swap, future_of, past_of, step_change}
use Rattle.bx_text.specs.Steps.{HasTurned, HaveTurned, IsTurning, Turning, in_redo, in_undo}
use Rattle.bx_text.proofs.Bytes.{IsUtf8-bytes_of}
use Rattle.bx_text.proofs.Merged.{merged_leads}
use Rattle.bx_text.proofs.MergedSteps.{one_swap}

-- ---- the texts that the steps lead to

abbrev pub swapped : Buffers → List ℕ → ℕ → List Step → List ℕ
swapped b text zero ss = text
swapped b text (suc n) [] = text
swapped b text (suc n) (s ∷ ss) = swapped b (after_swap b text s) n ss

lead_on : (b : Buffers) (old now : List ℕ) (way : Way) (n : ℕ) (ss : List Step) (c : Change) → IsChange old c now → IsUtf8 now → AreSteps b now ss
    → IsChange old (fold merged c (map (step_change way) (take n ss))) (swapped b now n ss)
lead_on b old now way zero ss c leads utf8 h = leads
lead_on b old now way (suc n) [] c leads utf8 h = leads
lead_on b old now way (suc n) (s ∷ ss) c leads utf8 h =
    let one = one_swap b now s ss way utf8 h in
    lead_on b old (after_swap b now s) way n ss (merged c (step_change way s))
    (merged_leads old now (after_swap b now s) c (step_change way s) leads one.leads) one.utf8 one.applied

pub all_lead : (b : Buffers) (text : List ℕ) (way : Way) (n : ℕ) (ss : List Step) → IsUtf8 text → AreSteps b text ss
    → IfSome (reduce merged (map (step_change way) (take n ss))) (λ c. IsChange text c (swapped b text n ss))
all_lead b text way zero ss utf8 h = tt
all_lead b text way (suc n) [] utf8 h = tt
all_lead b text way (suc n) (s ∷ ss) utf8 h =
    let one = one_swap b text s ss way utf8 h in
    lead_on b text (after_swap b text s) way n ss (step_change way s) one.leads one.utf8 one.applied

pub no_undo : (n : ℕ) (text : List ℕ) (future : List Edit) → undone_times n (record { text = text; past = []; future = future })
    ≡ record { text = text; past = []; future = future }
no_undo zero text future = refl
no_undo (suc n) text future = no_undo n text future

pub no_redo : (n : ℕ) (text : List ℕ) (past : List Edit) → redone_times n (record { text = text; past = past; future = [] })
    ≡ record { text = text; past = past; future = [] }
no_redo zero text past = refl
no_redo (suc n) text past = no_redo n text past

pub undone_text : (b : Buffers) (n : ℕ) (text : List ℕ) (ss : List Step) (future : List Edit)
    → (undone_times n (record { text = text; past = past_of b text ss; future = future })).text ≡ swapped b text n ss
undone_text b zero text ss future = refl
undone_text b (suc n) text [] future = ap (λ (t : Edited). t.text) (no_undo n text future)
undone_text b (suc n) text (s ∷ ss) future =
    undone_text b n (after_swap b text s) ss ((undone (record { text = text; past = past_of b text (s ∷ ss); future = future })).future)

pub redone_text : (b : Buffers) (n : ℕ) (text : List ℕ) (ss : List Step) (past : List Edit)
    → (redone_times n (record { text = text; past = past; future = future_of b text ss })).text ≡ swapped b text n ss
redone_text b zero text ss past = refl
redone_text b (suc n) text [] past = ap (λ (t : Edited). t.text) (no_redo n text past)
redone_text b (suc n) text (s ∷ ss) past =
    redone_text b n (after_swap b text s) ss ((redone (record { text = text; past = past; future = future_of b text (s ∷ ss) })).past)

-- more steps than there are change nothing
pub enough_undone : (n : ℕ) (text : List ℕ) (past future : List Edit)
    → undone_times (min n (length past)) (record { text = text; past = past; future = future })
    ≡ undone_times n (record { text = text; past = past; future = future })
enough_undone zero text past future = let e : min 0 (length past) ≡ 0 = omega arith in rw e refl
enough_undone (suc n) text [] future = let e : min (suc n) 0 ≡ 0 = omega arith in rw e (sym (no_undo n text future))
enough_undone (suc n) text (x ∷ past) future =
    let e : min (suc n) (length (x ∷ past)) ≡ suc (min n (length past)) = omega arith in
    rw e (enough_undone n x.before.text past (x ∷ future))

pub enough_redone : (n : ℕ) (text : List ℕ) (past future : List Edit)
    → redone_times (min n (length future)) (record { text = text; past = past; future = future })
    ≡ redone_times n (record { text = text; past = past; future = future })
enough_redone zero text past future = let e : min 0 (length future) ≡ 0 = omega arith in rw e refl
enough_redone (suc n) text past [] = let e : min (suc n) 0 ≡ 0 = omega arith in rw e (sym (no_redo n text past))
enough_redone (suc n) text past (x ∷ future) =
    let e : min (suc n) (length (x ∷ future)) ≡ suc (min n (length future)) = omega arith in
    rw e (enough_redone n x.after.text (x ∷ past) future)

pub length-past_of : (b : Buffers) (text : List ℕ) (ss : List Step) → length (past_of b text ss) ≡ length ss
length-past_of b text [] = refl
length-past_of b text (s ∷ ss) = ap suc (length-past_of b (after_swap b text s) ss)

pub length-future_of : (b : Buffers) (text : List ℕ) (ss : List Step) → length (future_of b text ss) ≡ length ss
length-future_of b text [] = refl
length-future_of b text (s ∷ ss) = ap suc (length-future_of b (after_swap b text s) ss)

-- The history's steps and the edits of the past tell the same changes, in the same order.
pub past_changes : (b : Buffers) (n : ℕ) (text : List ℕ) (ss : List Step)
    → map (step_change Back) (take n ss) ≡ map change_back (take n (past_of b text ss))
past_changes b zero text ss = refl
past_changes b (suc n) text [] = refl
past_changes b (suc n) text (s ∷ ss) = ap (λ cs. step_change Back s ∷ cs) (past_changes b n (after_swap b text s) ss)

pub future_changes : (b : Buffers) (n : ℕ) (text : List ℕ) (ss : List Step)
    → map (step_change Again) (take n ss) ≡ map change_of (take n (future_of b text ss))
future_changes b zero text ss = refl
future_changes b (suc n) text [] = refl
future_changes b (suc n) text (s ∷ ss) = ap (λ cs. step_change Again s ∷ cs) (future_changes b n (after_swap b text s) ss)

-- ---- nothing to undo or to redo

pub nothing_undone : (n : ℕ) (text : List ℕ) (past future : List Edit)
    → is_some (next_undos n (record { text = text; past = past; future = future })) ≡ false
    → undone_times n (record { text = text; past = past; future = future }) ≡ record { text = text; past = past; future = future }
nothing_undone zero text past future e = refl
nothing_undone (suc n) text [] future e = no_undo n text future
nothing_undone (suc n) text (x ∷ past) future e = absurd (cc e)

pub nothing_redone : (n : ℕ) (text : List ℕ) (past future : List Edit)
    → is_some (next_redos n (record { text = text; past = past; future = future })) ≡ false
    → redone_times n (record { text = text; past = past; future = future }) ≡ record { text = text; past = past; future = future }
nothing_redone zero text past future e = refl
nothing_redone (suc n) text past [] e = no_redo n text past
nothing_redone (suc n) text past (x ∷ future) e = absurd (cc e)

-- ---- steps turned

module _ (b : Buffers) (t new : Turning) (n count : ℕ) (sound : IsTurning b t) (turned : HaveTurned count t new) (e : count ≡ min n (length t.from)) where
  has : HasTurned b count t new
  has = turned b sound

  utf8 : IsUtf8 (bytes_of b t.pieces)
  utf8 = IsUtf8-bytes_of b t.pieces sound.in_buffers

  all_past : count ≡ min n (length (past_of b (bytes_of b t.pieces) (reverse t.from)))
  all_past = e ∙ ap (min n) (sym (length-past_of b (bytes_of b t.pieces) (reverse t.from) ∙ length-reverse t.from))

  all_future : count ≡ min n (length (future_of b (bytes_of b t.pieces) (reverse t.from)))
  all_future = e ∙ ap (min n) (sym (length-future_of b (bytes_of b t.pieces) (reverse t.from) ∙ length-reverse t.from))

  pub undone_all : in_undo b new ≡ undone_times n (in_undo b t)
  undone_all = has.undone ∙ ap (λ k. undone_times k (in_undo b t)) all_past
      ∙ enough_undone n (bytes_of b t.pieces) (past_of b (bytes_of b t.pieces) (reverse t.from)) (future_of b (bytes_of b t.pieces) (reverse t.to))

  pub redone_all : in_redo b new ≡ redone_times n (in_redo b t)
  redone_all = has.redone ∙ ap (λ k. redone_times k (in_redo b t)) all_future
      ∙ enough_redone n (bytes_of b t.pieces) (past_of b (bytes_of b t.pieces) (reverse t.to)) (future_of b (bytes_of b t.pieces) (reverse t.from))

  pub undos_lead : IfSome (next_undos n (in_undo b t)) (λ c. IsChange (bytes_of b t.pieces) c (bytes_of b new.pieces))
  undos_lead =
      let same : bytes_of b new.pieces ≡ swapped b (bytes_of b t.pieces) n (reverse t.from) =
      ap (λ (x : Edited). x.text) undone_all
      ∙ undone_text b n (bytes_of b t.pieces) (reverse t.from) (future_of b (bytes_of b t.pieces) (reverse t.to)) in
      subst (λ cs. IfSome (reduce merged cs) (λ c. IsChange (bytes_of b t.pieces) c (bytes_of b new.pieces)))
      (past_changes b n (bytes_of b t.pieces) (reverse t.from))
      (subst (λ x. IfSome (reduce merged (map (step_change Back) (take n (reverse t.from)))) (λ c. IsChange (bytes_of b t.pieces) c x)) (sym same)
      (all_lead b (bytes_of b t.pieces) Back n (reverse t.from) utf8 sound.from_steps))

  pub redos_lead : IfSome (next_redos n (in_redo b t)) (λ c. IsChange (bytes_of b t.pieces) c (bytes_of b new.pieces))
  redos_lead =
      let same : bytes_of b new.pieces ≡ swapped b (bytes_of b t.pieces) n (reverse t.from) =
      ap (λ (x : Edited). x.text) redone_all
      ∙ redone_text b n (bytes_of b t.pieces) (reverse t.from) (past_of b (bytes_of b t.pieces) (reverse t.to)) in
      subst (λ cs. IfSome (reduce merged cs) (λ c. IsChange (bytes_of b t.pieces) c (bytes_of b new.pieces)))
      (future_changes b n (bytes_of b t.pieces) (reverse t.from))
      (subst (λ x. IfSome (reduce merged (map (step_change Again) (take n (reverse t.from)))) (λ c. IsChange (bytes_of b t.pieces) c x)) (sym same)
      (all_lead b (bytes_of b t.pieces) Again n (reverse t.from) utf8 sound.from_steps))
