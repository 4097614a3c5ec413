-- Past and future as chains of texts, and the text that was stored as one of them.
use Rattle.std.proofs.Common.{◌≡◌, ℕ, zero, suc, ◌≤◌, Bool, true, false, List, [], ◌∷◌, length, refl, sym, subst, ◌∙◌, arith, nat_lt}
use Rattle.std.specs.Prelude.{Option, Some, None, if◌then◌else◌}
use Rattle.std.proofs.lemmas.Bool.Decides.{nat_tests}
use Rattle.bx_text.specs.Edits.{Edit, Edited, redone, replaced, undone, redone_times, undone_times}
use Rattle.bx_editor.specs.Editor.{stored_behind}
use Rattle.bx_editor.proofs.ManySteps.{version, IsFutureOf, IsPastOf}

-- ---- the text at a length of the past

-- wherever undo leads to the length `m`, it leads to this text
abbrev IsBehind : List ℕ → ℕ → List Edit → Type 0
IsBehind stored m [] = Unit {0}
IsBehind stored m (edit ∷ past) = (length past ≡ m → edit.before.text ≡ stored) × IsBehind stored m past

-- wherever redo leads from the length `n` to the length `m`, it leads to this text
abbrev IsAhead : List ℕ → ℕ → ℕ → List Edit → Type 0
IsAhead stored m n [] = Unit {0}
IsAhead stored m n (edit ∷ future) = (suc n ≡ m → edit.after.text ≡ stored) × IsAhead stored m (suc n) future

-- the text, and all to which undo and redo lead, is this one where the past has the length `m`
pub record IsAt (stored : List ℕ) (m : ℕ) (t : Edited) : Type 0 where
  pub now : length t.past ≡ m → t.text ≡ stored
  pub behind : IsBehind stored m t.past
  pub ahead : IsAhead stored m (length t.past) t.future

pub record Chain (stored : List ℕ) (t : Edited) (at : Option ℕ) : Type 0 where
  pub past : IsPastOf t.text t.past
  pub future : IsFutureOf t.text t.future
  pub is_at : (m : ℕ) → at ≡ Some m → IsAt stored m t

-- ---- an edit

kept-by : (n m k : ℕ) (b : Bool) → nat_lt n k ≡ b → (if b then None else Some k) ≡ Some m → (k ≡ m) × (m ≤ n)
kept-by n m k true before is = absurd (cc is)
kept-by n m k false before is = let same : k ≡ m = cc is in (same, grind (arith, nat_tests, before, same))

kept : (n m : ℕ) (at : Option ℕ) → stored_behind n at ≡ Some m → (at ≡ Some m) × (m ≤ n)
kept n m None is = absurd (cc is)
kept n m (Some k) is = let both = kept-by n m k (nat_lt n k) refl is in let same = both.0 in (cc same, both.1)

pub replaced-chain : (stored : List ℕ) (t : Edited) (at : Option ℕ) (start stop : ℕ) (new : List ℕ) (before after : ℕ) → Chain stored t at
    → Chain stored (replaced t start stop new before after) (stored_behind (length t.past) at)
replaced-chain stored t at start stop new before after h = record {
  past = (refl, h.past);
  future = tt;
  is_at = λ m is.
      let both = kept (length t.past) m at is in
      let was = h.is_at m both.0 in
      record { now = λ same. absurd (omega (arith, both.1, same)); behind = (was.now, was.behind); ahead = tt };
}

-- ---- steps

undone-one : (stored : List ℕ) (at : Option ℕ) (text : List ℕ) (past future : List Edit) → Chain stored (version text past future) at
    → Chain stored (undone (version text past future)) at
undone-one stored at text [] future h = h
undone-one stored at text (edit ∷ past) future h = record {
  past = h.past.1;
  future = (refl, subst (λ t. IsFutureOf t future) (sym h.past.0) h.future);
  is_at = λ m is.
      let was = h.is_at m is in
      record { now = was.behind.0; behind = was.behind.1; ahead = (λ same. h.past.0 ∙ was.now same, was.ahead) };
}

redone-one : (stored : List ℕ) (at : Option ℕ) (text : List ℕ) (past future : List Edit) → Chain stored (version text past future) at
    → Chain stored (redone (version text past future)) at
redone-one stored at text past [] h = h
redone-one stored at text past (edit ∷ future) h = record {
  past = (refl, subst (λ t. IsPastOf t past) (sym h.future.0) h.past);
  future = h.future.1;
  is_at = λ m is.
      let was = h.is_at m is in
      record { now = was.ahead.0; behind = (λ same. h.future.0 ∙ was.now same, was.behind); ahead = was.ahead.1 };
}

pub undone-chain : (stored : List ℕ) (at : Option ℕ) (n : ℕ) (t : Edited) → Chain stored t at → Chain stored (undone_times n t) at
undone-chain stored at zero t h = h
undone-chain stored at (suc n) t h = undone-chain stored at n (undone t) (undone-one stored at t.text t.past t.future h)

pub redone-chain : (stored : List ℕ) (at : Option ℕ) (n : ℕ) (t : Edited) → Chain stored t at → Chain stored (redone_times n t) at
redone-chain stored at zero t h = h
redone-chain stored at (suc n) t h = redone-chain stored at n (redone t) (redone-one stored at t.text t.past t.future h)

-- ---- a text that is stored

all-behind : (stored : List ℕ) (m : ℕ) (past : List Edit) → length past ≤ m → IsBehind stored m past
all-behind stored m [] few = tt
all-behind stored m (edit ∷ past) few = (λ same. absurd (omega (arith, few, same)), all-behind stored m past (omega (arith, few)))

all-ahead : (stored : List ℕ) (m n : ℕ) (future : List Edit) → m ≤ n → IsAhead stored m n future
all-ahead stored m n [] many = tt
all-ahead stored m n (edit ∷ future) many = (λ same. absurd (omega (arith, many, same)), all-ahead stored m (suc n) future (omega (arith, many)))

pub stored-chain : (stored : List ℕ) (t : Edited) (at : Option ℕ) → Chain stored t at → Chain t.text t (Some (length t.past))
stored-chain stored t at h = record {
  past = h.past;
  future = h.future;
  is_at = λ m is.
      let same : length t.past ≡ m = cc is in
      record { now = λ there. refl; behind = all-behind t.text m t.past (omega (arith, same)); ahead = all-ahead t.text m (length t.past) t.future (omega (arith, same)) };
}

pub opened-chain : (text : List ℕ) → Chain text (version text [] []) (Some 0)
opened-chain text = record { past = tt; future = tt; is_at = λ m is. record { now = λ same. refl; behind = tt; ahead = tt } }
