-- Lists of pairs.
use Rattle.std.proofs.Common.{◌≡◌, ◌≤◌, List, [], ◌∷◌, ◌++◌, length, refl, ap, arith}
use Rattle.std.specs.List.{zip}

pub zip-append : {A B : Type 0} (xs ys : List A) (us vs : List B) → length xs ≡ length us → zip (xs ++ ys) (us ++ vs) ≡ zip xs us ++ zip ys vs
zip-append [] ys [] vs e = refl
zip-append [] ys (u ∷ us) vs e = absurd (omega (arith, e))
zip-append (x ∷ xs) ys [] vs e = absurd (omega (arith, e))
zip-append (x ∷ xs) ys (u ∷ us) vs e = ap (λ ps. (x, u) ∷ ps) (zip-append xs ys us vs (omega (arith, e)))

pub length-zip : {A B : Type 0} (xs : List A) (us : List B) → length xs ≡ length us → length (zip xs us) ≡ length xs
length-zip [] us e = refl
length-zip (x ∷ xs) [] e = absurd (omega (arith, e))
length-zip (x ∷ xs) (u ∷ us) e = omega (arith, length-zip xs us (omega (arith, e)))

pub length-zip-le : {A B : Type 0} (xs : List A) (us : List B) → (length (zip xs us) ≤ length xs) × (length (zip xs us) ≤ length us)
length-zip-le [] us = (omega arith, omega arith)
length-zip-le (x ∷ xs) [] = (omega arith, omega arith)
length-zip-le (x ∷ xs) (u ∷ us) = let more = length-zip-le xs us in (omega (arith, more.0), omega (arith, more.1))

pub zip-none : {A B : Type 0} (xs : List A) (us : List B) → length us ≡ 0 → zip xs us ≡ []
zip-none [] us e = refl
zip-none (x ∷ xs) [] e = refl
zip-none (x ∷ xs) (u ∷ us) e = absurd (omega (arith, e))
