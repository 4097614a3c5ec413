-- A sequence has no more indexes than the text has characters, since the runs of a chain do not overlap.
use Rattle.std.proofs.Common.{◌<◌, ◌≤◌, ◌+◌, ◌-◌, ℕ, List, [], ◌∷◌, ◌++◌, length, drop, take, arith, true, false, Option, Some, None, length-append}
use Rattle.std.specs.Prelude.{All}
use Rattle.std.proofs.lemmas.List.{length-take}
use Rattle.std.proofs.lemmas.List.Elements.{All-cons, All-nil, All-head, All-tail}
use Rattle.std.proofs.lemmas.List.Sorted.{IsPermutation-sym, All-permutation}
use Rattle.bx_ucd.specs.declared.class.Class.{Class}
use Rattle.bx_levels.specs.declared.embedding.entry.ExplicitChar.{ExplicitChar}
use Rattle.bx_levels.specs.declared.embedding.runs.Run.{Run}
use Rattle.bx_levels.specs.embedding.Sequences.{runs_from, kept_indexes, indexes_of, RunSequence, is_joined, followers, follows}
use Rattle.bx_levels.proofs.embedding_lemmas.LevelRuns.{AreRising, all_within, all_rising}
use Rattle.bx_levels.specs.embedding.Sequences.{chain_indexes, sequence_of, sequences_from, sequences}
use Rattle.bx_levels.specs.embedding.Walk.{IsRunWithin, AreGiven}
use Rattle.bx_levels.proofs.embedding_lemmas.Bounds.{followers_each}
use Rattle.bx_levels.proofs.embedding_lemmas.Ordered.{given_permutes}

few_kept : (k : ℕ) (g : List (Option ExplicitChar)) → length (kept_indexes k g) ≤ length g
few_kept k [] = omega arith
few_kept k (None ∷ g) = omega (arith, few_kept (k + 1) g)
few_kept k (Some c ∷ g) = omega (arith, few_kept (k + 1) g)

few_of_run : (kept : List (Option ExplicitChar)) (r : Run) → length (indexes_of kept r) ≤ r.last + 1 - r.first
few_of_run kept r = omega (arith, few_kept r.first (take (r.last + 1 - r.first) (drop r.first kept)), length-take (r.last + 1 - r.first) (drop r.first kept))

-- the runs of a chain rise
followers_rise : (cs : List Class) (r : Run) (rs : List Run) → AreRising rs → AreRising (followers cs r rs)
followers_rise cs r [] h = tt
followers_rise cs r (q ∷ qs) h = elim (is_joined cs r q) as (λ b. AreRising (elim b as (λ x. List Run) [ true ↦ q ∷ followers cs q qs | false ↦ followers cs r qs ])) [
  | true ↦ (h.0, followers_each cs (λ (u : Run). q.last < u.first) q qs h.1, followers_rise cs q qs h.2)
  | false ↦ followers_rise cs r qs h.2
]

few_of_chain : (n : ℕ) (kept : List (Option ExplicitChar)) (r : Run) (rs : List Run) → AreRising (r ∷ rs) → All (IsRunWithin 0 n) (r ∷ rs)
    → length (chain_indexes kept (r ∷ rs)) + r.first ≤ n
few_of_chain n kept r [] h a =
    let w : IsRunWithin 0 n r = All-head (IsRunWithin 0 n) r [] a in
    omega (arith, few_of_run kept r, length-append (indexes_of kept r) [], w.ordered, w.ends)
few_of_chain n kept r (q ∷ qs) h a =
    let w : IsRunWithin 0 n r = All-head (IsRunWithin 0 n) r (q ∷ qs) a in
    let more : length (chain_indexes kept (q ∷ qs)) + q.first ≤ n = few_of_chain n kept q qs h.2 (All-tail (IsRunWithin 0 n) r (q ∷ qs) a) in
    let behind : r.last < q.first = All-head (λ (u : Run). r.last < u.first) q qs h.1 in
    omega (arith, few_of_run kept r, length-append (indexes_of kept r) (chain_indexes kept (q ∷ qs)), w.ordered, more, behind)

module _ (paragraph : ℕ) (cs : List Class) (kept : List (Option ExplicitChar)) where
  abbrev pub IsFew : RunSequence → Type 0
  IsFew s = length s.indexes ≤ length kept

  few_from : (before rs : List Run) → AreRising rs → All (IsRunWithin 0 (length kept)) rs → All IsFew (sequences_from paragraph cs kept before rs)
  few_from before [] h a = All-nil IsFew
  few_from before (r ∷ rs) h a =
      let w : IsRunWithin 0 (length kept) r = All-head (IsRunWithin 0 (length kept)) r rs a in
      let t : All (IsRunWithin 0 (length kept)) rs = All-tail (IsRunWithin 0 (length kept)) r rs a in
      let fs : List Run = followers cs r rs in
      let s : RunSequence = sequence_of paragraph cs kept r fs in
      let rest : List RunSequence = sequences_from paragraph cs kept (before ++ r ∷ []) rs in
      let ih : All IsFew rest = few_from (before ++ r ∷ []) rs h.2 t in
      let rises : AreRising (r ∷ fs) = (h.0, followers_each cs (λ (u : Run). r.last < u.first) r rs h.1, followers_rise cs r rs h.2) in
      let within : All (IsRunWithin 0 (length kept)) (r ∷ fs) =
      All-cons (IsRunWithin 0 (length kept)) r fs w (followers_each cs (IsRunWithin 0 (length kept)) r rs t) in
      let count : length (chain_indexes kept (r ∷ fs)) + r.first ≤ length kept = few_of_chain (length kept) kept r fs rises within in
      let small : length (chain_indexes kept (r ∷ fs)) ≤ length kept = omega arith in
      elim (follows cs before r) as (λ b. All IsFew (elim b as (λ x. List RunSequence) [ true ↦ rest | false ↦ s ∷ rest ])) [
        | true ↦ ih
        | false ↦ All-cons IsFew s rest small ih
      ]

  -- the same in any order of the sequences
  pub given_few : (given : List RunSequence) → AreGiven given (sequences paragraph cs kept) → All IsFew given
  given_few given g =
      let all : List RunSequence = sequences paragraph cs kept in
      All-permutation IsFew all given (IsPermutation-sym given all (given_permutes given all g))
      (few_from [] (runs_from 0 kept) (all_rising kept) (all_within kept))
