-- Properties of all indexes of a run, and so of all indexes of a chain.
use Rattle.std.proofs.Common.{◌<◌, ◌≤◌, ◌+◌, ◌-◌, ℕ, List, [], ◌∷◌, length, drop, take, reverse, sym, subst, arith, inl, inr, Option, Some, None}
use Rattle.std.specs.Prelude.{All}
use Rattle.std.proofs.lemmas.List.{length-take, reverse-append}
use Rattle.std.proofs.lemmas.List.Elements.{All-cons, All-nil, All-head, All-tail, All-append}
use Rattle.bx_levels.specs.declared.embedding.entry.ExplicitChar.{ExplicitChar}
use Rattle.bx_levels.specs.declared.embedding.runs.Run.{Run}
use Rattle.bx_levels.specs.embedding.Sequences.{kept_indexes, indexes_of, chain_indexes}
use Rattle.bx_levels.specs.embedding.Walk.{IsRunWithin, IsIn, IsOut}

-- a property of all indexes of a run holds of its kept ones, and so of a chain's
module _ (P : ℕ → Type 0) where
  each_kept : (k : ℕ) (g : List (Option ExplicitChar)) → ((p : ℕ) → k ≤ p → p < k + length g → P p) → All P (kept_indexes k g)
  each_kept k [] h = All-nil P
  each_kept k (None ∷ g) h = each_kept (k + 1) g (λ p a b. h p (omega arith) (omega arith))
  each_kept k (Some c ∷ g) h = All-cons P k (kept_indexes (k + 1) g) (h k (omega arith) (omega arith))
      (each_kept (k + 1) g (λ p a b. h p (omega arith) (omega arith)))

  abbrev pub Spans : Run → Type 0
  Spans r = (r.first ≤ r.last) × ((p : ℕ) → r.first ≤ p → p ≤ r.last → P p)

  each_of_run : (kept : List (Option ExplicitChar)) (r : Run) → Spans r → All P (indexes_of kept r)
  each_of_run kept r s =
      let ordered : r.first ≤ r.last = s.0 in
      let t : length (take (r.last + 1 - r.first) (drop r.first kept)) ≤ r.last + 1 - r.first =
      omega (arith, length-take (r.last + 1 - r.first) (drop r.first kept)) in
      each_kept r.first (take (r.last + 1 - r.first) (drop r.first kept)) (λ p a b. s.1 p a (omega arith))

  pub each_of_chain : (kept : List (Option ExplicitChar)) (rs : List Run) → All Spans rs → All P (chain_indexes kept rs)
  each_of_chain kept [] a = All-nil P
  each_of_chain kept (r ∷ rs) a = All-append P (indexes_of kept r) (chain_indexes kept rs) (each_of_run kept r (All-head Spans r rs a))
      (each_of_chain kept rs (All-tail Spans r rs a))

pub all_reverse : (P : Run → Type 0) (rs : List Run) → All P rs → All P (reverse rs)
all_reverse P [] a = All-nil P
all_reverse P (r ∷ rs) a = subst (All P) (sym (reverse-append (r ∷ []) rs))
    (All-append P (reverse rs) (r ∷ []) (all_reverse P rs (All-tail P r rs a)) (All-cons P r [] (All-head P r rs a) (All-nil P)))

-- a run between two indexes, before them, and after them
pub spans_in : (low high : ℕ) (r : Run) → IsRunWithin low high r → Spans (IsIn low high) r
spans_in low high r w = (w.ordered, λ p a b. (omega (arith, w.starts), omega (arith, w.ends)))

pub spans_before : (low high bottom : ℕ) (r : Run) → IsRunWithin bottom low r → Spans (IsOut low high) r
spans_before low high bottom r w = (w.ordered, λ p a b. inl (omega (arith, w.ends)))

pub spans_after : (low high top : ℕ) (r : Run) → IsRunWithin high top r → Spans (IsOut low high) r
spans_after low high top r w = (w.ordered, λ p a b. inr (omega (arith, w.starts)))
