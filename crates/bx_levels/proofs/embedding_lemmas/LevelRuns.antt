-- Level runs: one turn of each loop.
use Rattle.std.proofs.Common.{◌≡◌, ◌<◌, ◌+◌, ◌-◌, ◌∙◌, ℕ, suc, List, [], ◌∷◌, ◌++◌, length, get_or, drop, take, set, reverse, refl, ap, sym, arith, Option}
use Rattle.std.proofs.Common.{Some, None, subst, true, false}
use Rattle.std.proofs.lemmas.List.{at_drop_more, take_more, take_more_set, reverse-append}
use Rattle.std.proofs.Math.Seq.{take-length}
use Rattle.std.proofs.Math.ListN.{length-set}
use Rattle.bx_levels.specs.declared.embedding.entry.ExplicitChar.{ExplicitChar}
use Rattle.bx_levels.specs.declared.embedding.runs.Run.{Run}
use Rattle.bx_levels.specs.embedding.Sequences.{run, join_run, runs_from}
use Rattle.bx_levels.specs.embedding.Walk.{IsRunWithin}
use Rattle.std.specs.Prelude.{All, ◌==◌, ◌≤◌}
use Rattle.std.proofs.lemmas.List.Elements.{All-cons, All-nil, All-head, All-tail}

-- the runs are in text order and do not overlap
abbrev pub AreRising : List Run → Type 0
AreRising [] = Unit {0}
AreRising (r ∷ rs) = (r.first ≤ r.last) × All (λ q. r.last < q.first) rs × AreRising rs

-- the last of a list is the first of its reverse
take_whole : {A : Type 0} (rs : List A) (n : ℕ) → length rs ≡ n → take n rs ≡ rs
take_whole rs n e = subst (λ k. take k rs ≡ rs) e (take-length rs)

pub reverse_last : {A : Type 0} (rs : List A) (d : A) → 0 < length rs → reverse rs ≡ get_or rs (length rs - 1) d ∷ reverse (take (length rs - 1) rs)
reverse_last rs d h =
    let a : take (length rs - 1 + 1) rs ≡ take (length rs - 1) rs ++ get_or rs (length rs - 1) d ∷ [] = take_more rs (length rs - 1) d (omega arith) in
    let b : take (length rs - 1 + 1) rs ≡ rs = take_whole rs (length rs - 1 + 1) (omega arith) in
    ap reverse (sym b ∙ a) ∙ reverse-append (take (length rs - 1) rs) (get_or rs (length rs - 1) d ∷ [])

pub reverse_set : {A : Type 0} (rs : List A) (r : A) → 0 < length rs → reverse (set rs (length rs - 1) r) ≡ r ∷ reverse (take (length rs - 1) rs)
reverse_set rs r h =
    let a : take (length rs - 1 + 1) (set rs (length rs - 1) r) ≡ take (length rs - 1) rs ++ r ∷ [] = take_more_set rs (length rs - 1) r (omega arith) in
    let l : length (set rs (length rs - 1) r) ≡ length rs = length-set rs (length rs - 1) r in
    let b : take (length rs - 1 + 1) (set rs (length rs - 1) r) ≡ set rs (length rs - 1) r =
    take_whole (set rs (length rs - 1) r) (length rs - 1 + 1) (omega arith) in
    ap reverse (sym b ∙ a) ∙ reverse-append (take (length rs - 1) rs) (r ∷ [])

pub reverse_one : {A : Type 0} (rs : List A) (r : A) → reverse (rs ++ r ∷ []) ≡ r ∷ reverse rs
reverse_one rs r = reverse-append rs (r ∷ [])

runs_at_none : (k : ℕ) (o : Option ExplicitChar) (g : List (Option ExplicitChar)) → o ≡ None → runs_from k (o ∷ g) ≡ runs_from (k + 1) g
runs_at_none k None g e = refl
runs_at_none k (Some r) g e = absurd (cc)

pub runs_none : (g : List (Option ExplicitChar)) (k : ℕ) → k < length g → get_or g k None ≡ None → runs_from k (drop k g) ≡ runs_from (k + 1) (drop (k + 1) g)
runs_none g k h e = at_drop_more (runs_from k) g k None h ∙ runs_at_none k (get_or g k None) (drop (k + 1) g) e

pub runs_some : (g : List (Option ExplicitChar)) (k : ℕ) (r : ExplicitChar) → k < length g → get_or g k None ≡ Some r
    → runs_from k (drop k g) ≡ join_run k r.level (runs_from (k + 1) (drop (k + 1) g))
runs_some g k r h e = at_drop_more (runs_from k) g k None h ∙ ap (λ o. runs_from k (o ∷ drop (k + 1) g)) e

-- each run lies within the list
widen : (k n : ℕ) (r : Run) → IsRunWithin (k + 1) n r → IsRunWithin k n r
widen k n r w = record { starts = omega (arith, w.starts); ordered = w.ordered; ends = w.ends }

widen_all : (k n : ℕ) (rs : List Run) → All (IsRunWithin (k + 1) n) rs → All (IsRunWithin k n) rs
widen_all k n rs a = λ i d h. widen k n (get_or rs i d) (a i d h)

within_join : (k n level : ℕ) (rs : List Run) → k < n → All (IsRunWithin (k + 1) n) rs → All (IsRunWithin k n) (join_run k level rs)
within_join k n level [] h a = All-cons (IsRunWithin k n) (run level k k) [] (record { starts = omega arith; ordered = omega arith; ends = h })
    (All-nil (IsRunWithin k n))
within_join k n level (r ∷ rs) h a =
    let w : IsRunWithin (k + 1) n r = All-head (IsRunWithin (k + 1) n) r rs a in
    let b : All (IsRunWithin k n) rs = widen_all k n rs (All-tail (IsRunWithin (k + 1) n) r rs a) in
    elim (r.level == level) as (λ v. All (IsRunWithin k n) (elim v as (λ x. List Run) [ true ↦ run level k r.last ∷ rs | false ↦ run level k k ∷ r ∷ rs ])) [
      | true ↦ All-cons (IsRunWithin k n) (run level k r.last) rs (record { starts = omega arith; ordered = omega (arith, w.starts, w.ordered); ends = w.ends })
          b
      | false ↦ All-cons (IsRunWithin k n) (run level k k) (r ∷ rs) (record { starts = omega arith; ordered = omega arith; ends = h })
          (widen_all k n (r ∷ rs) a)
    ]

pub within_eq : (k a b : ℕ) (rs : List Run) → a ≡ b → All (IsRunWithin k a) rs → All (IsRunWithin k b) rs
within_eq k a b rs e h = subst (λ n. All (IsRunWithin k n) rs) e h

pub runs_within : (k : ℕ) (g : List (Option ExplicitChar)) → All (IsRunWithin k (k + length g)) (runs_from k g)
runs_within k [] = All-nil (IsRunWithin k (k + 0))
runs_within k (None ∷ g) = within_eq k (k + 1 + length g) (k + suc (length g)) (runs_from (k + 1) g) (omega arith)
    (widen_all k (k + 1 + length g) (runs_from (k + 1) g) (runs_within (k + 1) g))
runs_within k (Some r ∷ g) = within_eq k (k + 1 + length g) (k + suc (length g)) (join_run k r.level (runs_from (k + 1) g)) (omega arith)
    (within_join k (k + 1 + length g) r.level (runs_from (k + 1) g) (omega arith) (runs_within (k + 1) g))

pub all_within : (g : List (Option ExplicitChar)) → All (IsRunWithin 0 (length g)) (runs_from 0 g)
all_within g = within_eq 0 (0 + length g) (length g) (runs_from 0 g) (omega arith) (runs_within 0 g)

-- the runs are in text order and do not overlap
after_all : (k n : ℕ) (rs : List Run) → All (IsRunWithin (k + 1) n) rs → All (λ q. k < q.first) rs
after_all k n rs a = λ i d h. let w : IsRunWithin (k + 1) n (get_or rs i d) = a i d h in omega (arith, w.starts)

rising_join : (k n level : ℕ) (rs : List Run) → All (IsRunWithin (k + 1) n) rs → AreRising rs → AreRising (join_run k level rs)
rising_join k n level [] a h = (omega arith, All-nil (λ (q : Run). k < q.first), tt)
rising_join k n level (r ∷ rs) a h =
    let w : IsRunWithin (k + 1) n r = All-head (IsRunWithin (k + 1) n) r rs a in
    elim (r.level == level) as (λ v. AreRising (elim v as (λ x. List Run) [ true ↦ run level k r.last ∷ rs | false ↦ run level k k ∷ r ∷ rs ])) [
      | true ↦ (omega (arith, w.starts, w.ordered), h.1, h.2)
      | false ↦ (omega arith, after_all k n (r ∷ rs) a, h)
    ]

pub runs_rising : (k : ℕ) (g : List (Option ExplicitChar)) → AreRising (runs_from k g)
runs_rising k [] = tt
runs_rising k (None ∷ g) = runs_rising (k + 1) g
runs_rising k (Some r ∷ g) = rising_join k (k + 1 + length g) r.level (runs_from (k + 1) g) (runs_within (k + 1) g) (runs_rising (k + 1) g)

pub all_rising : (g : List (Option ExplicitChar)) → AreRising (runs_from 0 g)
all_rising g = runs_rising 0 g
