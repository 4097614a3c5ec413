-- The visual order is a permutation of the units' numbers, and of the lists made from the units.
use Rattle.std.proofs.Common.{◌≡◌, ℕ, zero, suc, ◌+◌, ◌-◌, nat_le, Bool, true, false, List, [], ◌∷◌, ◌++◌, length, map, Option, Some, None}
use Rattle.std.proofs.Common.{refl, sym, ap, subst, ◌∙◌}
use Rattle.std.specs.Prelude.{IsPermutation, flat_map}
use Rattle.std.specs.List.{enumerate_from, range_with_len}
use Rattle.std.proofs.lemmas.List.Concat.{flat_map_single}
use Rattle.std.proofs.lemmas.List.Folds.{flat_map-map}
use Rattle.std.proofs.lemmas.List.Sorted.{IsPermutation-refl, IsPermutation-trans, IsPermutation-append_comm, IsPermutation-append_left, IsPermutation-append_right}
use Rattle.std.proofs.lemmas.List.{append-nil, append_assoc, map-id}
use Rattle.std.proofs.lemmas.Grind.{flat_map-append}
use Rattle.bx_rows.specs.RowLevels.{reverse_runs, reverse_down, reversals_from, lowest_odd, highest, visual}

permutes-either : {X : Type 0} (f : ℕ × ℕ → List X) (b : Bool) (all : List X) (xs ys : List (ℕ × ℕ)) → IsPermutation all (flat_map f xs)
    → IsPermutation all (flat_map f ys) → IsPermutation all (flat_map f (elim b [ true ↦ xs | false ↦ ys ]))
permutes-either f true all xs ys h k = h
permutes-either f false all xs ys h k = k

-- the list made from one unit moves to the front
to-front : {X : Type 0} (xs ys zs : List X) → IsPermutation (xs ++ (ys ++ zs)) (ys ++ (xs ++ zs))
to-front xs ys zs =
    subst (λ all. IsPermutation all (ys ++ (xs ++ zs))) (append_assoc xs ys zs)
    (subst (λ all. IsPermutation (xs ++ ys ++ zs) all) (append_assoc ys xs zs)
    (IsPermutation-append_left zs (xs ++ ys) (ys ++ xs) (IsPermutation-append_comm xs ys)))

permutes-runs : {X : Type 0} (f : ℕ × ℕ → List X) (n : ℕ) (run us : List (ℕ × ℕ))
    → IsPermutation (flat_map f run ++ flat_map f us) (flat_map f (reverse_runs n run us))
permutes-runs f n run [] = subst (λ xs. IsPermutation xs (flat_map f run)) (sym (append-nil (flat_map f run))) (IsPermutation-refl (flat_map f run))
permutes-runs f n run (u ∷ us) =
    let front = flat_map f run in
    let rest = flat_map f us in
    let all = front ++ (f u ++ rest) in
    let later = reverse_runs n [] us in
    permutes-either f (nat_le n u.1) all (reverse_runs n (u ∷ run) us) (run ++ u ∷ later)
    (IsPermutation-trans all (f u ++ (front ++ rest)) (flat_map f (reverse_runs n (u ∷ run) us)) (to-front front (f u) rest)
    (subst (λ xs. IsPermutation xs (flat_map f (reverse_runs n (u ∷ run) us))) (append_assoc (f u) front rest) (permutes-runs f n (u ∷ run) us)))
    (subst (IsPermutation all) (sym (flat_map-append f run (u ∷ later)))
    (IsPermutation-append_right front (f u ++ rest) (f u ++ flat_map f later)
    (IsPermutation-append_right (f u) rest (flat_map f later) (permutes-runs f n [] us))))

permutes-down : {X : Type 0} (f : ℕ × ℕ → List X) (low count : ℕ) (us : List (ℕ × ℕ)) → IsPermutation (flat_map f us) (flat_map f (reverse_down low count us))
permutes-down f low zero us = IsPermutation-refl (flat_map f us)
permutes-down f low (suc count) us =
    let next = reverse_runs (low + count) [] us in
    IsPermutation-trans (flat_map f us) (flat_map f next) (flat_map f (reverse_down low count next)) (permutes-runs f (low + count) [] us)
    (permutes-down f low count next)

permutes-reversed : {X : Type 0} (f : ℕ × ℕ → List X) (low : Option ℕ) (high : ℕ) (us : List (ℕ × ℕ))
    → IsPermutation (flat_map f us) (flat_map f (reversals_from low high us))
permutes-reversed f None high us = IsPermutation-refl (flat_map f us)
permutes-reversed f (Some low) high us = permutes-down f low (high + 1 - low) us

numbers : (n : ℕ) (levels : List ℕ) → map (λ u. u.0) (enumerate_from n levels) ≡ range_with_len n (length levels)
numbers n [] = refl
numbers n (l ∷ ls) = ap (λ xs. n ∷ xs) (numbers (n + 1) ls)

-- lists made from each number
pub made-permutes : {X : Type 0} (f : ℕ → List X) (levels : List ℕ)
    → IsPermutation (flat_map f (range_with_len 0 (length levels))) (flat_map f (visual levels))
made-permutes {X} f levels =
    let us = enumerate_from 0 levels in
    let all = reversals_from (lowest_odd levels) (highest levels) us in
    let made : ℕ × ℕ → List X = λ u. f u.0 in
    let old : flat_map made us ≡ flat_map f (range_with_len 0 (length levels)) = sym (flat_map-map f (λ u. u.0) us) ∙ ap (flat_map f) (numbers 0 levels) in
    let new : flat_map made all ≡ flat_map f (visual levels) = sym (flat_map-map f (λ u. u.0) all) in
    subst (λ xs. IsPermutation xs (flat_map f (visual levels))) old
    (subst (IsPermutation (flat_map made us)) new (permutes-reversed made (lowest_odd levels) (highest levels) us))

alone : (xs : List ℕ) → flat_map (λ x. x ∷ []) xs ≡ xs
alone xs = flat_map_single (λ x. x) xs ∙ map-id xs

pub visual-permutes : (levels : List ℕ) → IsPermutation (range_with_len 0 (length levels)) (visual levels)
visual-permutes levels =
    subst (λ xs. IsPermutation xs (visual levels)) (alone (range_with_len 0 (length levels)))
    (subst (IsPermutation (flat_map (λ x. x ∷ []) (range_with_len 0 (length levels)))) (alone (visual levels)) (made-permutes (λ x. x ∷ []) levels))
