-- The numbers that the visual order lists: each is below the count, and each unit is listed once.
use Rattle.std.proofs.Common.{◌≡◌, ℕ, zero, suc, ◌+◌, ◌-◌, ◌<◌, ◌≤◌, nat_le, Bool, true, false, List, [], ◌∷◌, ◌++◌, length, map, sum_by, drop, get_or, Option}
use Rattle.std.proofs.Common.{Some, None, All, refl, sym, ap, ◌∙◌, arith, drop-cons}
use Rattle.std.specs.Prelude.{flat_map}
use Rattle.std.specs.List.{enumerate_from, range_with_len}
use Rattle.std.proofs.lemmas.List.Elements.{All-append, All-cons, All-nil, All-rest, All-map, All-same}
use Rattle.std.proofs.lemmas.List.Folds.{map_fixed}
use Rattle.std.proofs.lemmas.List.FromFn.{get_or-range_with_len}
use Rattle.std.proofs.lemmas.List.Sums.{sum_by-append, sum_by-cons}
use Rattle.bx_rows.specs.RowLevels.{reverse_runs, reverse_down, reversals_from, lowest_odd, highest, visual}

-- ---- a fact of each unit stays

all-either : (P : ℕ × ℕ → Type 0) (b : Bool) (xs ys : List (ℕ × ℕ)) → All P xs → All P ys → All P (elim b [ true ↦ xs | false ↦ ys ])
all-either P true xs ys h k = h
all-either P false xs ys h k = k

pub all-runs : (P : ℕ × ℕ → Type 0) (n : ℕ) (run us : List (ℕ × ℕ)) → All P run → All P us → All P (reverse_runs n run us)
all-runs P n run [] r a = r
all-runs P n run (u ∷ us) r a =
    let first : P u = a 0 u (omega arith) in
    let rest = All-rest P u us (u ∷ us) refl a in
    all-either P (nat_le n u.1) (reverse_runs n (u ∷ run) us) (run ++ u ∷ reverse_runs n [] us)
    (all-runs P n (u ∷ run) us (All-cons P u run first r) rest)
    (All-append P run (u ∷ reverse_runs n [] us) r (All-cons P u (reverse_runs n [] us) first (all-runs P n [] us (All-nil P) rest)))

all-down : (P : ℕ × ℕ → Type 0) (low count : ℕ) (us : List (ℕ × ℕ)) → All P us → All P (reverse_down low count us)
all-down P low zero us a = a
all-down P low (suc count) us a = all-down P low count (reverse_runs (low + count) [] us) (all-runs P (low + count) [] us (All-nil P) a)

all-reversed : (P : ℕ × ℕ → Type 0) (low : Option ℕ) (high : ℕ) (us : List (ℕ × ℕ)) → All P us → All P (reversals_from low high us)
all-reversed P None high us a = a
all-reversed P (Some low) high us a = all-down P low (high + 1 - low) us a

all-numbered : (n m : ℕ) (levels : List ℕ) → n + length levels ≤ m → All (λ u. u.0 < m) (enumerate_from n levels)
all-numbered n m [] h = All-nil (λ u. u.0 < m)
all-numbered n m (l ∷ ls) h =
    let more : suc (length ls) ≡ length (l ∷ ls) = refl in
    All-cons (λ u. u.0 < m) (n, l) (enumerate_from (n + 1) ls) (omega (arith, h, more)) (all-numbered (n + 1) m ls (omega (arith, h, more)))

numbers-below : (levels : List ℕ) → All (λ k. k < length levels) (visual levels)
numbers-below levels =
    All-map (λ k. k < length levels) (λ u. u.0) (reversals_from (lowest_odd levels) (highest levels) (enumerate_from 0 levels))
    (all-reversed (λ u. u.0 < length levels) (lowest_odd levels) (highest levels) (enumerate_from 0 levels)
    (all-numbered 0 (length levels) levels (omega arith)))

pub below_if_visual : (levels order : List ℕ) → order ≡ visual levels → All (λ k. k < length levels) order
below_if_visual levels order e = All-same (λ k. k < length levels) order (visual levels) e (numbers-below levels)

-- the numbers from 0, put into visual order
pub numbers-ordered : (levels old new : List ℕ) → old ≡ range_with_len 0 (length levels) → new ≡ map (λ k. get_or old k 0) (visual levels)
    → new ≡ visual levels
numbers-ordered levels old new e f =
    f ∙ ap (λ xs. map (λ k. get_or xs k 0) (visual levels)) e
    ∙ map_fixed (λ k. get_or (range_with_len 0 (length levels)) k 0) (visual levels)
    (λ i d h. get_or-range_with_len 0 (length levels) (get_or (visual levels) i d) 0 (numbers-below levels i d h) ∙ omega arith)

-- ---- a sum over the units stays

sum-either : (f : ℕ × ℕ → ℕ) (b : Bool) (xs ys : List (ℕ × ℕ)) (n : ℕ) → sum_by f xs ≡ n → sum_by f ys ≡ n → sum_by f (elim b [ true ↦ xs | false ↦ ys ]) ≡ n
sum-either f true xs ys n h k = h
sum-either f false xs ys n h k = k

sum-runs : (f : ℕ × ℕ → ℕ) (n : ℕ) (run us : List (ℕ × ℕ)) → sum_by f (reverse_runs n run us) ≡ sum_by f run + sum_by f us
sum-runs f n run [] = let none : sum_by f [] ≡ 0 = refl in omega (arith, none)
sum-runs f n run (u ∷ us) =
    let none : sum_by f [] ≡ 0 = refl in
    sum-either f (nat_le n u.1) (reverse_runs n (u ∷ run) us) (run ++ u ∷ reverse_runs n [] us) (sum_by f run + sum_by f (u ∷ us))
    (omega (arith, sum-runs f n (u ∷ run) us, sum_by-cons f u run, sum_by-cons f u us))
    (omega (arith, sum_by-append f run (u ∷ reverse_runs n [] us), sum_by-cons f u (reverse_runs n [] us), sum-runs f n [] us, none, sum_by-cons f u us))

sum-down : (f : ℕ × ℕ → ℕ) (low count : ℕ) (us : List (ℕ × ℕ)) → sum_by f (reverse_down low count us) ≡ sum_by f us
sum-down f low zero us = refl
sum-down f low (suc count) us =
    let none : sum_by f [] ≡ 0 = refl in
    omega (arith, sum-down f low count (reverse_runs (low + count) [] us), sum-runs f (low + count) [] us, none)

sum-reversed : (f : ℕ × ℕ → ℕ) (low : Option ℕ) (high : ℕ) (us : List (ℕ × ℕ)) → sum_by f (reversals_from low high us) ≡ sum_by f us
sum-reversed f None high us = refl
sum-reversed f (Some low) high us = sum-down f low (high + 1 - low) us

-- the pieces of units, chosen by their numbers
sum-chosen : {X : Type 0} (c : X → ℕ) (f : ℕ → List X) (us : List (ℕ × ℕ)) → sum_by c (flat_map f (map (λ u. u.0) us)) ≡ sum_by (λ u. sum_by c (f u.0)) us
sum-chosen c f [] = refl
sum-chosen c f (u ∷ us) =
    sum_by-append c (f u.0) (flat_map f (map (λ v. v.0) us)) ∙ ap (λ n. sum_by c (f u.0) + n) (sum-chosen c f us)
    ∙ sym (sum_by-cons (λ v. sum_by c (f v.0)) u us)

sum-numbered : {X : Type 0} (c : X → ℕ) (pieces : List (List X)) (n : ℕ) (levels : List ℕ) → length pieces ≡ n + length levels
    → sum_by (λ u. sum_by c (get_or pieces u.0 [])) (enumerate_from n levels) ≡ sum_by (sum_by c) (drop n pieces)
sum-numbered c pieces n [] e =
    let all : n ≡ length pieces = omega (arith, e) in sym (ap (sum_by (sum_by c)) (ap (λ k. drop k pieces) all ∙ Rattle.std.proofs.Math.Seq.drop-length pieces))
sum-numbered c pieces n (l ∷ ls) e =
    let more : suc (length ls) ≡ length (l ∷ ls) = refl in
    let here : n < length pieces = omega (arith, e, more) in
    let one : n + 1 ≡ suc n = omega arith in
    sum_by-cons (λ u. sum_by c (get_or pieces u.0 [])) (n, l) (enumerate_from (n + 1) ls)
    ∙ ap (λ k. sum_by c (get_or pieces n []) + k) (sum-numbered c pieces (n + 1) ls (omega (arith, e, more)) ∙ ap (λ k. sum_by (sum_by c) (drop k pieces)) one)
    ∙ sym (sum_by-cons (sum_by c) (get_or pieces n []) (drop (suc n) pieces))
    ∙ ap (sum_by (sum_by c)) (sym (drop-cons pieces n [] here))

-- each piece is chosen once
pub sum-visual : {X : Type 0} (c : X → ℕ) (pieces : List (List X)) (levels : List ℕ) → length pieces ≡ length levels
    → sum_by c (flat_map (λ k. get_or pieces k []) (visual levels)) ≡ sum_by (sum_by c) pieces
sum-visual c pieces levels e =
    sum-chosen c (λ k. get_or pieces k []) (reversals_from (lowest_odd levels) (highest levels) (enumerate_from 0 levels))
    ∙ sum-reversed (λ u. sum_by c (get_or pieces u.0 [])) (lowest_odd levels) (highest levels) (enumerate_from 0 levels)
    ∙ sum-numbered c pieces 0 levels (omega (arith, e))
