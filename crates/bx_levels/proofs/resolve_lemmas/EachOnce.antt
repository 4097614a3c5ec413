-- Each kept character is in exactly one isolating run sequence, once.
use Rattle.std.proofs.Common.{◌≡◌, ◌≤◌, ◌+◌, ◌-◌, ◌∙◌, ℕ, suc, List, [], ◌∷◌, ◌++◌, length, drop, take, reverse, refl, ap, ap₂, sym, subst, arith}
use Rattle.std.proofs.Common.{Bool, true, false, ◌==◌, Option, Some, None, append-nil, append_assoc}
use Rattle.std.specs.Prelude.{All}
use Rattle.std.specs.List.Sorted.{IsPermutation}
use Rattle.std.proofs.lemmas.List.{reverse-append}
use Rattle.std.proofs.lemmas.List.Elements.{All-head}
use Rattle.std.proofs.lemmas.List.Sorted.{IsPermutation-refl, IsPermutation-sym, IsPermutation-trans}
use Rattle.std.proofs.lemmas.List.Sorted.{IsPermutation-append, IsPermutation-append_comm, IsPermutation-append_left, IsPermutation-append_right}
use Rattle.bx_ucd.specs.declared.class.Class.{Class}
use Rattle.bx_levels.specs.declared.embedding.entry.ExplicitChar.{ExplicitChar}
use Rattle.bx_levels.specs.declared.embedding.runs.Run.{Run}
use Rattle.bx_levels.specs.embedding.Explicit.{explicit_levels}
use Rattle.bx_levels.specs.embedding.Sequences.{run, join_run, runs_from, kept_indexes, indexes_of, RunSequence, chain_indexes, sequences}
use Rattle.bx_levels.specs.embedding.Walk.{IsRunWithin, AreGiven, ending, sequences_of}
use Rattle.bx_levels.specs.embedding.OpenChains.{is_over, with_run, sequence_of_runs}
use Rattle.bx_levels.proofs.embedding_lemmas.LevelRuns.{runs_within}
use Rattle.bx_levels.proofs.embedding_lemmas.Ending.{ending_over, ending_open}
use Rattle.bx_levels.proofs.embedding_lemmas.PendingChains.{indexes_of_runs}
use Rattle.bx_levels.proofs.embedding_lemmas.SequenceOrder.{given_by_levels}
use Rattle.bx_levels.proofs.embedding_lemmas.Ordered.{drop_on}
use Rattle.bx_levels.specs.resolve.Laws.{all_indexes}

-- the level runs hold the kept characters, in order
module _ (kept : List (Option ExplicitChar)) where
  -- the indexes of the first run, from `k` on
  abbrev HoldsFrom : ℕ → List (Option ExplicitChar) → List Run → Type 0
  HoldsFrom k g [] = Unit {0}
  HoldsFrom k g (r ∷ rs) = kept_indexes k (take (r.last + 1 - k) g) ≡ indexes_of kept r

  alone : (k level : ℕ) (c : ExplicitChar) (g : List (Option ExplicitChar)) → drop k kept ≡ Some c ∷ g → indexes_of kept (run level k k) ≡ k ∷ []
  alone k level c g e = let n : k + 1 - k ≡ suc 0 = omega arith in ap₂ (λ m xs. kept_indexes k (take m xs)) n e

  holds_join : (k top : ℕ) (c : ExplicitChar) (g : List (Option ExplicitChar)) (rs : List Run) → drop k kept ≡ Some c ∷ g → All (IsRunWithin (k + 1) top) rs
      → HoldsFrom (k + 1) g rs → chain_indexes kept rs ≡ kept_indexes (k + 1) g
      → HoldsFrom k (Some c ∷ g) (join_run k c.level rs) × (chain_indexes kept (join_run k c.level rs) ≡ kept_indexes k (Some c ∷ g))
  holds_join k top c g [] e w h i = (
    ap (λ xs. kept_indexes k (take (k + 1 - k) xs)) (sym e),
    ap₂ (λ xs ys. xs ++ ys) (alone k c.level c g e) i,
  )
  holds_join k top c g (r ∷ rs) e w h i =
      let v : IsRunWithin (k + 1) top r = All-head (IsRunWithin (k + 1) top) r rs w in
      let n : r.last + 1 - k ≡ suc (r.last + 1 - (k + 1)) = omega (arith, v.starts, v.ordered) in
      let joined : indexes_of kept (run c.level k r.last) ≡ k ∷ indexes_of kept r =
      ap₂ (λ m xs. kept_indexes k (take m xs)) n e ∙ ap (λ xs. k ∷ xs) h in
      elim (r.level == c.level) as (λ b. HoldsFrom k (Some c ∷ g) (elim b as (λ x. List Run) [
        | true ↦ run c.level k r.last ∷ rs
        | false ↦ run c.level k k ∷ r ∷ rs
      ]) × (chain_indexes kept (elim b as (λ x. List Run) [
        | true ↦ run c.level k r.last ∷ rs
        | false ↦ run c.level k k ∷ r ∷ rs
      ]) ≡ kept_indexes k (Some c ∷ g))) [
        | true ↦ (
          ap (λ xs. kept_indexes k (take (r.last + 1 - k) xs)) (sym e),
          ap (λ xs. xs ++ chain_indexes kept rs) joined ∙ ap (λ xs. k ∷ xs) i,
        )
        | false ↦ (
          ap (λ xs. kept_indexes k (take (k + 1 - k) xs)) (sym e),
          ap₂ (λ xs ys. xs ++ ys) (alone k c.level c g e) i,
        )
      ]

  holds_none : (k top : ℕ) (g : List (Option ExplicitChar)) (rs : List Run) → All (IsRunWithin (k + 1) top) rs → HoldsFrom (k + 1) g rs → HoldsFrom k (None ∷ g) rs
  holds_none k top g [] w h = tt
  holds_none k top g (r ∷ rs) w h =
      let v : IsRunWithin (k + 1) top r = All-head (IsRunWithin (k + 1) top) r rs w in
      let n : r.last + 1 - k ≡ suc (r.last + 1 - (k + 1)) = omega (arith, v.starts, v.ordered) in
      ap (λ m. kept_indexes k (take m (None ∷ g))) n ∙ h

  holds_all : (g : List (Option ExplicitChar)) (k : ℕ) → drop k kept ≡ g
      → HoldsFrom k g (runs_from k g) × (chain_indexes kept (runs_from k g) ≡ kept_indexes k g)
  holds_all [] k e = (tt, refl)
  holds_all (None ∷ g) k e =
      let ih : HoldsFrom (k + 1) g (runs_from (k + 1) g) × (chain_indexes kept (runs_from (k + 1) g) ≡ kept_indexes (k + 1) g) =
      holds_all g (k + 1) (drop_on kept g k None e) in
      (holds_none k (k + 1 + length g) g (runs_from (k + 1) g) (runs_within (k + 1) g) ih.0, ih.1)
  holds_all (Some c ∷ g) k e =
      let ih : HoldsFrom (k + 1) g (runs_from (k + 1) g) × (chain_indexes kept (runs_from (k + 1) g) ≡ kept_indexes (k + 1) g) =
      holds_all g (k + 1) (drop_on kept g k (Some c) e) in
      holds_join k (k + 1 + length g) c g (runs_from (k + 1) g) e (runs_within (k + 1) g) ih.0 ih.1

  runs_hold : chain_indexes kept (runs_from 0 kept) ≡ kept_indexes 0 kept
  runs_hold = (holds_all kept 0 refl).1

-- a list moves after the next one
moves_behind : (a x y : List ℕ) → IsPermutation (a ++ (x ++ y)) (x ++ (a ++ y))
moves_behind a x y = subst (λ l. IsPermutation l (x ++ (a ++ y))) (append_assoc a x y)
    (subst (λ l. IsPermutation ((a ++ x) ++ y) l) (append_assoc x a y) (IsPermutation-append_left y (a ++ x) (x ++ a) (IsPermutation-append_comm a x)))

pub indexes_append : (xs ys : List RunSequence) → all_indexes (xs ++ ys) ≡ all_indexes xs ++ all_indexes ys
indexes_append [] ys = refl
indexes_append (s ∷ xs) ys = ap (λ ps. s.indexes ++ ps) (indexes_append xs ys) ∙ sym (append_assoc s.indexes (all_indexes xs) (all_indexes ys))

-- in any order of the sequences
given_indexes : (given all : List RunSequence) → AreGiven given all → IsPermutation (all_indexes given) (all_indexes all)
given_indexes [] all a = subst (λ ss. IsPermutation [] (all_indexes ss)) (sym a) (IsPermutation-refl [])
given_indexes (s ∷ given) all a =
    let before : List RunSequence = a.0 in
    let after : List RunSequence = a.1 in
    let x : List ℕ = all_indexes before in
    let y : List ℕ = all_indexes after in
    let rest : IsPermutation (all_indexes given) (x ++ y) =
    subst (IsPermutation (all_indexes given)) (indexes_append before after) (given_indexes given (before ++ after) a.4) in
    let is : x ++ (s.indexes ++ y) ≡ all_indexes all = sym (indexes_append before (s ∷ after)) ∙ ap all_indexes (sym a.2) in
    subst (IsPermutation (s.indexes ++ all_indexes given)) is
    (IsPermutation-trans (s.indexes ++ all_indexes given) (s.indexes ++ (x ++ y)) (x ++ (s.indexes ++ y))
    (IsPermutation-append_right s.indexes (all_indexes given) (x ++ y) rest) (moves_behind s.indexes x y))

-- the chains hold the indexes of all runs, as they end
module _ (paragraph : ℕ) (cs : List Class) (kept : List (Option ExplicitChar)) where
  abbrev chains_indexes : List (List Run) → List ℕ
  chains_indexes [] = []
  chains_indexes (c ∷ chains) = chain_indexes kept c ++ chains_indexes chains

  chain_append : (xs ys : List Run) → chain_indexes kept (xs ++ ys) ≡ chain_indexes kept xs ++ chain_indexes kept ys
  chain_append [] ys = refl
  chain_append (r ∷ xs) ys = ap (λ ps. indexes_of kept r ++ ps) (chain_append xs ys)
      ∙ sym (append_assoc (indexes_of kept r) (chain_indexes kept xs) (chain_indexes kept ys))

  chain_reverse : (c : List Run) → IsPermutation (chain_indexes kept (reverse c)) (chain_indexes kept c)
  chain_reverse [] = IsPermutation-refl []
  chain_reverse (r ∷ rs) =
      let own : List ℕ = indexes_of kept r in
      let back : List ℕ = chain_indexes kept (reverse rs) in
      let is : chain_indexes kept (reverse (r ∷ rs)) ≡ back ++ own = ap (chain_indexes kept) (reverse-append (r ∷ []) rs)
      ∙ chain_append (reverse rs) (r ∷ []) ∙ ap (λ ps. back ++ ps) (append-nil own) in
      subst (λ ps. IsPermutation ps (own ++ chain_indexes kept rs)) (sym is)
      (IsPermutation-trans (back ++ own) (own ++ back) (own ++ chain_indexes kept rs) (IsPermutation-append_comm back own)
      (IsPermutation-append_right own back (chain_indexes kept rs) (chain_reverse rs)))

  chain_first : (c : List Run) (rest : List RunSequence) (ps : List ℕ) → IsPermutation (all_indexes rest) ps
      → IsPermutation (all_indexes (sequence_of_runs paragraph cs kept (reverse c) ∷ rest)) (chain_indexes kept c ++ ps)
  chain_first c rest ps h = subst (λ qs. IsPermutation (qs ++ all_indexes rest) (chain_indexes kept c ++ ps)) (indexes_of_runs paragraph cs kept (reverse c))
      (IsPermutation-append (chain_indexes kept (reverse c)) (chain_indexes kept c) (all_indexes rest) ps (chain_reverse c) h)

  of_chains : (chains : List (List Run)) → IsPermutation (all_indexes (sequences_of paragraph cs kept chains)) (chains_indexes chains)
  of_chains [] = IsPermutation-refl []
  of_chains (c ∷ chains) = chain_first c (sequences_of paragraph cs kept chains) (chains_indexes chains) (of_chains chains)

  with_run_is : (chains : List (List Run)) (q : Run) → chains_indexes (with_run chains q) ≡ indexes_of kept q ++ chains_indexes chains
  with_run_is [] q = append-nil (indexes_of kept q ++ [])
  with_run_is ([] ∷ chains) q = ap (λ ps. ps ++ chains_indexes chains) (append-nil (indexes_of kept q))
  with_run_is ((r ∷ rs) ∷ chains) q =
      let own : List ℕ = indexes_of kept q in
      let c : List ℕ = chain_indexes kept (r ∷ rs) in
      elim (q.level == r.level) as (λ b. chains_indexes (elim b as (λ x. List (List Run)) [
        | true ↦ (q ∷ r ∷ rs) ∷ chains
        | false ↦ (q ∷ []) ∷ (r ∷ rs) ∷ chains
      ]) ≡ own ++ (c ++ chains_indexes chains)) [
        | true ↦ append_assoc own c (chains_indexes chains)
        | false ↦ ap (λ ps. ps ++ (c ++ chains_indexes chains)) (append-nil own)
      ]

  abbrev AreAll : List (List Run) → List Run → Type 0
  AreAll chains rest = IsPermutation (all_indexes (ending paragraph cs kept chains rest)) (chains_indexes chains ++ chain_indexes kept rest)

  open_all : (q : Run) (rest : List Run) → ((chains : List (List Run)) → AreAll chains rest) → (chains : List (List Run))
      → is_over cs chains q ≡ false → AreAll chains (q ∷ rest)
  open_all q rest ih chains o =
      let own : List ℕ = indexes_of kept q in
      let x : List ℕ = chains_indexes chains in
      let z : List ℕ = chain_indexes kept rest in
      let is : chains_indexes (with_run chains q) ++ z ≡ own ++ (x ++ z) = ap (λ ps. ps ++ z) (with_run_is chains q) ∙ append_assoc own x z in
      subst (λ ss. IsPermutation (all_indexes ss) (x ++ (own ++ z))) (sym (ending_open paragraph cs kept chains q rest o))
      (IsPermutation-trans (all_indexes (ending paragraph cs kept (with_run chains q) rest)) (own ++ (x ++ z)) (x ++ (own ++ z))
      (subst (IsPermutation (all_indexes (ending paragraph cs kept (with_run chains q) rest))) is (ih (with_run chains q))) (moves_behind own x z))

  over_all : (q : Run) (rest : List Run) → ((chains : List (List Run)) → AreAll chains rest) → (chains : List (List Run)) → AreAll chains (q ∷ rest)
  over_all q rest ih [] = open_all q rest ih [] refl
  over_all q rest ih (c ∷ chains) =
      let z : List ℕ = indexes_of kept q ++ chain_indexes kept rest in
      let by : (b : Bool) → is_over cs (c ∷ chains) q ≡ b → AreAll (c ∷ chains) (q ∷ rest) =
      λ b. elim b as (λ v. is_over cs (c ∷ chains) q ≡ v → AreAll (c ∷ chains) (q ∷ rest)) [
        | true ↦ λ o. subst (λ ss. IsPermutation (all_indexes ss) ((chain_indexes kept c ++ chains_indexes chains) ++ z))
            (sym (ending_over paragraph cs kept c chains q rest o))
            (subst (IsPermutation (all_indexes (sequence_of_runs paragraph cs kept (reverse c) ∷ ending paragraph cs kept chains (q ∷ rest))))
            (sym (append_assoc (chain_indexes kept c) (chains_indexes chains) z))
            (chain_first c (ending paragraph cs kept chains (q ∷ rest)) (chains_indexes chains ++ z) (over_all q rest ih chains)))
        | false ↦ λ o. open_all q rest ih (c ∷ chains) o
      ] in
      by (is_over cs (c ∷ chains) q) refl

  ending_all : (rest : List Run) (chains : List (List Run)) → AreAll chains rest
  ending_all [] chains = subst (IsPermutation (all_indexes (sequences_of paragraph cs kept chains))) (sym (append-nil (chains_indexes chains))) (of_chains chains)
  ending_all (q ∷ rest) chains = over_all q rest (ending_all rest) chains

pub each_once : (level : ℕ) (cs : List Class) → level ≤ 1
    → IsPermutation (kept_indexes 0 (explicit_levels level cs)) (all_indexes (sequences level cs (explicit_levels level cs)))
each_once level cs low =
    let kept : List (Option ExplicitChar) = explicit_levels level cs in
    let given : List RunSequence = ending level cs kept [] (runs_from 0 kept) in
    let own : IsPermutation (all_indexes given) (kept_indexes 0 kept) =
    subst (IsPermutation (all_indexes given)) (runs_hold kept) (ending_all level cs kept (runs_from 0 kept) []) in
    IsPermutation-trans (kept_indexes 0 kept) (all_indexes given) (all_indexes (sequences level cs kept))
    (IsPermutation-sym (all_indexes given) (kept_indexes 0 kept) own) (given_indexes given (sequences level cs kept) (given_by_levels level cs low))
