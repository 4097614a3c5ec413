-- The indexes of a run are the kept characters of its level from its first index on, up to a kept one of another level.
use Rattle.std.proofs.Common.{◌≡◌, ◌≢◌, ◌<◌, ◌≤◌, ◌+◌, ◌-◌, ◌∙◌, ℕ, zero, suc, List, [], ◌∷◌, length, drop, take, refl, ap, sym, subst, arith, Bool, true}
use Rattle.std.proofs.Common.{false, Option, Some, None, length-drop}
use Rattle.std.specs.Prelude.{All, ◌==◌}
use Rattle.std.proofs.lemmas.Bool.Decides.{nat_tests}
use Rattle.std.proofs.lemmas.List.Elements.{All-head, All-drop}
use Rattle.bx_levels.specs.declared.embedding.entry.ExplicitChar.{ExplicitChar}
use Rattle.bx_levels.specs.declared.embedding.runs.Run.{Run}
use Rattle.bx_levels.specs.embedding.LevelIndexes.{level_indexes}
use Rattle.bx_levels.specs.embedding.OpenChains.{run_at, first_run_of}
use Rattle.bx_levels.specs.embedding.Sequences.{run, join_run, runs_from, kept_indexes, indexes_of}
use Rattle.bx_levels.specs.embedding.Walk.{IsRunWithin}
use Rattle.bx_levels.specs.embedding.Stack.{max_depth}
use Rattle.bx_levels.specs.embedding.StoredChains.{BeginsRun}
use Rattle.bx_levels.proofs.embedding_lemmas.LevelRuns.{runs_within, within_eq}
use Rattle.bx_levels.proofs.embedding_lemmas.Bounds.{IsLow, IsLowRun, runs_low}

-- a character of a level, and of another one
indexes_at : (level k : ℕ) (c : ExplicitChar) (g : List (Option ExplicitChar)) (b : Bool) → (c.level == level) ≡ b
    → level_indexes level k (Some c ∷ g) ≡ elim b [ true ↦ k ∷ level_indexes level (k + 1) g | false ↦ [] ]
indexes_at level k c g true e = rw (e, level_indexes)
indexes_at level k c g false e = rw (e, level_indexes)

-- a character that joins the runs after it is the first one of the first of them
join_some : (k level : ℕ) (rs : List Run) → join_run k level rs ≢ []
join_some k level [] e = cc
join_some k level (r ∷ rs) e = elim (r.level == level) as
    (λ b. (elim b as (λ x. List Run) [ true ↦ run level k r.last ∷ rs | false ↦ run level k k ∷ r ∷ rs ]) ≡ [] → ⊥) [
      | true ↦ λ t. cc
      | false ↦ λ t. cc
    ] e

join_level : (k level : ℕ) (rs : List Run) (r : Run) (qs : List Run) → join_run k level rs ≡ r ∷ qs → r.level ≡ level
join_level k level [] r qs e = cc
join_level k level (q ∷ rs) r qs e = elim (q.level == level) as
    (λ b. (elim b as (λ x. List Run) [ true ↦ run level k q.last ∷ rs | false ↦ run level k k ∷ q ∷ rs ]) ≡ r ∷ qs → r.level ≡ level) [
      | true ↦ λ t. cc
      | false ↦ λ t. cc
    ] e

-- without runs, no character is kept
no_indexes : (g : List (Option ExplicitChar)) (k n : ℕ) → runs_from k g ≡ [] → kept_indexes k (take n g) ≡ []
no_indexes g k zero e = refl
no_indexes [] k (suc n) e = refl
no_indexes (None ∷ g) k (suc n) e = no_indexes g (k + 1) n e
no_indexes (Some c ∷ g) k (suc n) e = absurd (join_some k c.level (runs_from (k + 1) g) e)

none_of_level : (level : ℕ) (g : List (Option ExplicitChar)) (k : ℕ) → runs_from k g ≡ [] → level_indexes level k g ≡ []
none_of_level level [] k e = refl
none_of_level level (None ∷ g) k e = none_of_level level g (k + 1) e
none_of_level level (Some c ∷ g) k e = absurd (join_some k c.level (runs_from (k + 1) g) e)

-- where the first run has another level, none of this level comes before it
other_level : (level : ℕ) (g : List (Option ExplicitChar)) (k : ℕ) (r : Run) (rs : List Run) → runs_from k g ≡ r ∷ rs → r.level ≢ level → level_indexes level k g ≡ []
other_level level [] k r rs e h = absurd (cc)
other_level level (None ∷ g) k r rs e h = other_level level g (k + 1) r rs e h
other_level level (Some c ∷ g) k r rs e h =
    let s : r.level ≡ c.level = join_level k c.level (runs_from (k + 1) g) r rs e in
    let t : (c.level == level) ≡ false = grind (arith, nat_tests) in
    indexes_at level k c g false t

reaches : (g : List (Option ExplicitChar)) (k : ℕ) (r : Run) (rs : List Run) → runs_from k g ≡ r ∷ rs → k ≤ r.last
reaches g k r rs e =
    let w : IsRunWithin k (k + length g) r = All-head (IsRunWithin k (k + length g)) r rs (subst (All (IsRunWithin k (k + length g))) e (runs_within k g)) in
    omega (arith, w.starts, w.ordered)

-- the indexes of a run after its first one, by the runs of the rest
later : (level k : ℕ) (g : List (Option ExplicitChar)) (qs : List Run) (r : Run) (rs : List Run) → runs_from (k + 1) g ≡ qs → join_run k level qs ≡ r ∷ rs
    → ((q : Run) (qs' : List Run) → runs_from (k + 1) g ≡ q ∷ qs' → q.level ≡ level
    → kept_indexes (k + 1) (take (q.last + 1 - (k + 1)) g) ≡ level_indexes level (k + 1) g)
    → kept_indexes (k + 1) (take (r.last + 1 - (k + 1)) g) ≡ level_indexes level (k + 1) g
later level k g [] r rs e j ih = no_indexes g (k + 1) (r.last + 1 - (k + 1)) e ∙ sym (none_of_level level g (k + 1) e)
later level k g (q ∷ qs) r rs e j ih =
    elim (q.level == level) as (λ b. (q.level == level) ≡ b → (elim b as (λ x. List Run) [ true ↦ run level k q.last ∷ qs | false ↦ run level k k ∷ q ∷ qs ])
    ≡ r ∷ rs → kept_indexes (k + 1) (take (r.last + 1 - (k + 1)) g) ≡ level_indexes level (k + 1) g) [
      | true ↦ λ t f.
          let s : q.level ≡ level = grind (arith, nat_tests) in
          let l : r.last ≡ q.last = cc in
          ap (λ n. kept_indexes (k + 1) (take (n + 1 - (k + 1)) g)) l ∙ ih q qs e s
      | false ↦ λ t f.
          let s : q.level ≢ level = grind (arith, nat_tests) in
          let l : r.last ≡ k = cc in
          let z : r.last + 1 - (k + 1) ≡ 0 = omega arith in
          ap (λ n. kept_indexes (k + 1) (take n g)) z ∙ sym (other_level level g (k + 1) q qs e s)
    ] refl j

pub run_indexes : (level : ℕ) (g : List (Option ExplicitChar)) (k : ℕ) (r : Run) (rs : List Run) → runs_from k g ≡ r ∷ rs → r.level ≡ level
    → kept_indexes k (take (r.last + 1 - k) g) ≡ level_indexes level k g
run_indexes level [] k r rs e s = absurd (cc)
run_indexes level (None ∷ g) k r rs e s =
    let h : k + 1 ≤ r.last = reaches g (k + 1) r rs e in
    let m : r.last + 1 - k ≡ suc (r.last + 1 - (k + 1)) = omega arith in
    ap (λ n. kept_indexes k (take n (None ∷ g))) m ∙ run_indexes level g (k + 1) r rs e s
run_indexes level (Some c ∷ g) k r rs e s =
    let h : k ≤ r.last = reaches (Some c ∷ g) k r rs e in
    let m : r.last + 1 - k ≡ suc (r.last + 1 - (k + 1)) = omega arith in
    let l : c.level ≡ level = sym (join_level k c.level (runs_from (k + 1) g) r rs e) ∙ s in
    let t : (c.level == level) ≡ true = grind (arith, nat_tests) in
    let j : join_run k level (runs_from (k + 1) g) ≡ r ∷ rs = ap (λ x. join_run k x (runs_from (k + 1) g)) (sym l) ∙ e in
    ap (λ n. kept_indexes k (take n (Some c ∷ g))) m
    ∙ ap (λ ps. k ∷ ps) (later level k g (runs_from (k + 1) g) r rs refl j (λ q qs f u. run_indexes level g (k + 1) q qs f u))
    ∙ sym (indexes_at level k c g true t)

-- the same for the first run of a list, if any
first_run_indexes : (level : ℕ) (g : List (Option ExplicitChar)) (k : ℕ) (rs : List Run) → runs_from k g ≡ rs → (first_run_of rs).level ≡ level
    → kept_indexes k (take ((first_run_of rs).last + 1 - k) g) ≡ level_indexes level k g
first_run_indexes level g k [] e s = no_indexes g k (0 + 1 - k) e ∙ sym (none_of_level level g k e)
first_run_indexes level g k (r ∷ rs) e s = run_indexes level g k r rs e s

pub indexes_walked : (kept : List (Option ExplicitChar)) (level p : ℕ) → BeginsRun kept level p → indexes_of kept (run_at kept p) ≡ level_indexes level p (drop p kept)
indexes_walked kept level p w =
    ap (λ n. kept_indexes n (take ((run_at kept p).last + 1 - n) (drop n kept))) w.here
    ∙ first_run_indexes level (drop p kept) p (runs_from p (drop p kept)) refl w.of_level

-- its bound
last_in : (n k : ℕ) (rs : List Run) → 0 < n → All (IsRunWithin k n) rs → (first_run_of rs).last < n
last_in n k [] h a = h
last_in n k (r ∷ rs) h a = (All-head (IsRunWithin k n) r rs a).ends

pub last_below : (kept : List (Option ExplicitChar)) (p : ℕ) → p < length kept → (run_at kept p).last < length kept
last_below kept p h =
    let e : p + length (drop p kept) ≡ length kept = omega (arith, length-drop p kept) in
    last_in (length kept) p (runs_from p (drop p kept)) (omega arith)
    (within_eq p (p + length (drop p kept)) (length kept) (runs_from p (drop p kept)) e (runs_within p (drop p kept)))

low_in : (rs : List Run) → All IsLowRun rs → (first_run_of rs).level ≤ max_depth
low_in [] a = omega arith
low_in (r ∷ rs) a = All-head IsLowRun r rs a

pub level_low : (kept : List (Option ExplicitChar)) (p : ℕ) → All IsLow kept → (run_at kept p).level ≤ max_depth
level_low kept p a = low_in (runs_from p (drop p kept)) (runs_low p (drop p kept) (All-drop IsLow p kept a))
