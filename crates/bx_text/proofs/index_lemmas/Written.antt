-- Lists that are written, cut and joined at a position.
use Rattle.std.proofs.Common.{◌≡◌, ◌<◌, ◌+◌, ◌∙◌, ℕ, suc, List, ◌∷◌, ◌++◌, length, take, drop, set, remove, slice_set, ap, sym, arith, length-append}
use Rattle.std.proofs.lemmas.List.{take-append-drop, take-set, drop-set, take-append-le, take-take, length-take-le, drop_at}

-- one element written
pub set_parts : {X : Type 0} (xs : List X) (i : ℕ) (y : X) → i < length xs → slice_set xs i y ≡ take i xs ++ y ∷ drop (i + 1) xs
set_parts xs i y h = sym (take-append-drop i (set xs i y)) ∙ ap (λ ys. ys ++ drop i (set xs i y)) (take-set xs i y)
    ∙ ap (λ ys. take i xs ++ ys) (drop-set xs i y h)

-- the next one removed, and this one written
pub join_parts : {X : Type 0} (xs : List X) (i : ℕ) (y : X) → i + 1 < length xs → slice_set (remove xs (i + 1)) i y ≡ take i xs ++ y ∷ drop (i + 2) xs
join_parts xs i y h =
    let front : length (take (i + 1) xs) ≡ i + 1 = length-take-le (i + 1) xs (omega arith) in
    let next : suc (i + 1) ≡ i + 2 = omega arith in
    let some : i < length (remove xs (i + 1)) = omega (arith, length-append (take (i + 1) xs) (drop (suc (i + 1)) xs), front) in
    set_parts (remove xs (i + 1)) i y some
    ∙ ap (λ ys. ys ++ y ∷ drop (i + 1) (remove xs (i + 1)))
    (take-append-le i (take (i + 1) xs) (drop (suc (i + 1)) xs) (omega (arith, front)) ∙ take-take i (i + 1) xs (omega arith))
    ∙ ap (λ ys. take i xs ++ y ∷ ys) (drop_at (take (i + 1) xs) (drop (suc (i + 1)) xs) (i + 1) front ∙ ap (λ n. drop n xs) next)
