-- Bounds of the levels and the indexes of the sequences.
use Rattle.std.proofs.Common.{◌<◌, ◌≤◌, ◌+◌, ◌-◌, ℕ, List, [], ◌∷◌, ◌++◌, length, drop, take, arith, true, false, Option, Some, None}
use Rattle.std.specs.Prelude.{All, ◌==◌}
use Rattle.std.proofs.lemmas.List.{length-take}
use Rattle.std.proofs.lemmas.List.Elements.{All-cons, All-nil, All-head, All-tail, All-append}
use Rattle.bx_ucd.specs.declared.class.Class.{Class}
use Rattle.bx_levels.specs.declared.embedding.role.Role.{Role}
use Rattle.bx_levels.specs.declared.embedding.role.Role.TheVariants.{Lre, Rle, Lro, Rlo, Lri, Rli, Fsi, Pdi, Pdf, Bn, Other}
use Rattle.bx_levels.specs.declared.embedding.entry.ExplicitChar.{ExplicitChar}
use Rattle.bx_levels.specs.declared.embedding.state.State.{State}
use Rattle.bx_levels.specs.declared.embedding.runs.Run.{Run}
use Rattle.bx_levels.specs.embedding.Explicit.{role_of, next_state, kept_by, start, explicit_from, explicit_levels}
use Rattle.bx_levels.specs.embedding.CharLevel.{level_or_0}
use Rattle.bx_levels.specs.embedding.Stack.{max_depth}
use Rattle.bx_levels.specs.embedding.StackCalls.{IsRising}
use Rattle.bx_levels.specs.embedding.Sequences.{run, join_run, runs_from, kept_indexes, indexes_of, RunSequence, is_joined, followers, follows}
use Rattle.bx_levels.specs.embedding.Sequences.{chain_indexes, sequence_of, sequences_from, sequences}
use Rattle.bx_levels.specs.embedding.Walk.{IsRunWithin}
use Rattle.bx_levels.proofs.embedding_lemmas.Rising.{rising_top}
use Rattle.bx_levels.proofs.embedding_lemmas.Steps.{rising_next}
use Rattle.bx_levels.proofs.embedding_lemmas.LevelRuns.{all_within}

abbrev pub IsLow : Option ExplicitChar → Type 0
IsLow k = level_or_0 k ≤ max_depth

kept_low : (r : Role) (c : Class) (s t : State) → IsRising s.stack → IsRising t.stack → IsLow (kept_by r c s t)
kept_low Lre c s t h k = omega arith
kept_low Rle c s t h k = omega arith
kept_low Lro c s t h k = omega arith
kept_low Rlo c s t h k = omega arith
kept_low Lri c s t h k = rising_top s.stack h
kept_low Rli c s t h k = rising_top s.stack h
kept_low Fsi c s t h k = rising_top s.stack h
kept_low Pdi c s t h k = rising_top t.stack k
kept_low Pdf c s t h k = omega arith
kept_low Bn c s t h k = omega arith
kept_low Other c s t h k = rising_top s.stack h

explicit_low : (s : State) (cs : List Class) → IsRising s.stack → All IsLow (explicit_from s cs)
explicit_low s [] h = All-nil IsLow
explicit_low s (c ∷ cs) h =
    let t : State = next_state (role_of c) cs s in
    let k : IsRising t.stack = rising_next (role_of c) cs s h in
    All-cons IsLow (kept_by (role_of c) c s t) (explicit_from t cs) (kept_low (role_of c) c s t h k) (explicit_low t cs k)

-- no explicit level is above the greatest
pub levels_low : (level : ℕ) (cs : List Class) → level ≤ max_depth → All IsLow (explicit_levels level cs)
levels_low level cs h = explicit_low (start level) cs (h, tt, tt)

abbrev pub IsLowRun : Run → Type 0
IsLowRun r = r.level ≤ max_depth

join_low : (k level : ℕ) (rs : List Run) → level ≤ max_depth → All IsLowRun rs → All IsLowRun (join_run k level rs)
join_low k level [] h a = All-cons IsLowRun (run level k k) [] h (All-nil IsLowRun)
join_low k level (r ∷ rs) h a =
    elim (r.level == level) as (λ v. All IsLowRun (elim v as (λ x. List Run) [ true ↦ run level k r.last ∷ rs | false ↦ run level k k ∷ r ∷ rs ])) [
      | true ↦ All-cons IsLowRun (run level k r.last) rs h (All-tail IsLowRun r rs a)
      | false ↦ All-cons IsLowRun (run level k k) (r ∷ rs) h a
    ]

pub runs_low : (k : ℕ) (g : List (Option ExplicitChar)) → All IsLow g → All IsLowRun (runs_from k g)
runs_low k [] a = All-nil IsLowRun
runs_low k (None ∷ g) a = runs_low (k + 1) g (All-tail IsLow None g a)
runs_low k (Some c ∷ g) a = join_low k c.level (runs_from (k + 1) g) (All-head IsLow (Some c) g a) (runs_low (k + 1) g (All-tail IsLow (Some c) g a))

module _ (paragraph : ℕ) (cs : List Class) (kept : List (Option ExplicitChar)) (P : RunSequence → Type 0) where
  -- a property of each sequence that begins with one of the runs
  pub sequences_each : (Q : Run → Type 0) → ((r : Run) (fs : List Run) → Q r → All Q fs → P (sequence_of paragraph cs kept r fs))
      → ((r : Run) (rs : List Run) → All Q rs → All Q (followers cs r rs)) → (before rs : List Run) → All Q rs
      → All P (sequences_from paragraph cs kept before rs)
  sequences_each Q one chain before [] a = All-nil P
  sequences_each Q one chain before (r ∷ rs) a =
      let h : Q r = All-head Q r rs a in
      let t : All Q rs = All-tail Q r rs a in
      let s : RunSequence = sequence_of paragraph cs kept r (followers cs r rs) in
      let rest : List RunSequence = sequences_from paragraph cs kept (before ++ r ∷ []) rs in
      let ih : All P rest = sequences_each Q one chain (before ++ r ∷ []) rs t in
      elim (follows cs before r) as (λ b. All P (elim b as (λ x. List RunSequence) [ true ↦ rest | false ↦ s ∷ rest ])) [
        | true ↦ ih
        | false ↦ All-cons P s rest (one r (followers cs r rs) h (chain r rs t)) ih
      ]

pub followers_each : (cs : List Class) (Q : Run → Type 0) (r : Run) (rs : List Run) → All Q rs → All Q (followers cs r rs)
followers_each cs Q r [] a = All-nil Q
followers_each cs Q r (q ∷ qs) a =
    elim (is_joined cs r q) as (λ b. All Q (elim b as (λ x. List Run) [ true ↦ q ∷ followers cs q qs | false ↦ followers cs r qs ])) [
      | true ↦ All-cons Q q (followers cs q qs) (All-head Q q qs a) (followers_each cs Q q qs (All-tail Q q qs a))
      | false ↦ followers_each cs Q r qs (All-tail Q q qs a)
    ]

pub sequences_low : (paragraph : ℕ) (cs : List Class) (kept : List (Option ExplicitChar)) → All IsLow kept
    → All (λ s. s.level ≤ max_depth) (sequences paragraph cs kept)
sequences_low paragraph cs kept a = sequences_each paragraph cs kept (λ s. s.level ≤ max_depth) IsLowRun (λ r fs h t. h) (followers_each cs IsLowRun) []
    (runs_from 0 kept) (runs_low 0 kept a)

-- the indexes of a run lie in it
kept_below : (n k : ℕ) (g : List (Option ExplicitChar)) → k + length g ≤ n → All (λ p. p < n) (kept_indexes k g)
kept_below n k [] h = All-nil (λ p. p < n)
kept_below n k (None ∷ g) h = kept_below n (k + 1) g (omega arith)
kept_below n k (Some c ∷ g) h = All-cons (λ p. p < n) k (kept_indexes (k + 1) g) (omega arith) (kept_below n (k + 1) g (omega arith))

indexes_below : (n : ℕ) (kept : List (Option ExplicitChar)) (r : Run) → IsRunWithin 0 n r → All (λ p. p < n) (indexes_of kept r)
indexes_below n kept r w =
    let t : length (take (r.last + 1 - r.first) (drop r.first kept)) ≤ r.last + 1 - r.first =
    omega (arith, length-take (r.last + 1 - r.first) (drop r.first kept)) in
    kept_below n r.first (take (r.last + 1 - r.first) (drop r.first kept)) (omega (arith, w.ordered, w.ends))

chain_below : (n : ℕ) (kept : List (Option ExplicitChar)) (rs : List Run) → All (IsRunWithin 0 n) rs → All (λ p. p < n) (chain_indexes kept rs)
chain_below n kept [] a = All-nil (λ p. p < n)
chain_below n kept (r ∷ rs) a = All-append (λ p. p < n) (indexes_of kept r) (chain_indexes kept rs) (indexes_below n kept r (All-head (IsRunWithin 0 n) r rs a))
    (chain_below n kept rs (All-tail (IsRunWithin 0 n) r rs a))

pub sequences_below : (paragraph : ℕ) (cs : List Class) (kept : List (Option ExplicitChar))
    → All (λ s. All (λ p. p < length kept) s.indexes) (sequences paragraph cs kept)
sequences_below paragraph cs kept = sequences_each paragraph cs kept (λ s. All (λ p. p < length kept) s.indexes) (IsRunWithin 0 (length kept))
    (λ r fs h t. chain_below (length kept) kept (r ∷ fs) (All-cons (IsRunWithin 0 (length kept)) r fs h t)) (followers_each cs (IsRunWithin 0 (length kept))) []
    (runs_from 0 kept) (all_within kept)
