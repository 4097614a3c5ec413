-- The slots of a ring that hold its queue.
use Rattle.std.proofs.Common.{◌≡◌, ◌≢◌, ◌<◌, ◌+◌, ◌%◌, ◌∙◌, ℕ, zero, suc, List, [], ◌∷◌, ◌++◌, length, get_or, set, drop, refl, ap, ap₂, arith}
use Rattle.std.specs.Prelude.{Option, None}
use Rattle.std.proofs.Common.{get_or-set_other, get_or-set_same}
use Rattle.bx_find.specs.Ring.{window}

pub length-window : (k n : ℕ) (slots : List (Option ℕ)) → length (window k n slots) ≡ n
length-window k zero slots = refl
length-window k (suc n) slots = ap suc (length-window (k + 1) n slots)

next-slot : (k l : ℕ) → k % 256 ≡ l % 256 → (k + 1) % 256 ≡ (l + 1) % 256
next-slot k l e = omega (arith, e)

pub window-around : (k l n : ℕ) (slots : List (Option ℕ)) → k % 256 ≡ l % 256 → window k n slots ≡ window l n slots
window-around k l zero slots e = refl
window-around k l (suc n) slots e = ap₂ ◌∷◌ (ap (λ i. get_or slots i None) e) (window-around (k + 1) (l + 1) n slots (next-slot k l e))

pub drop-window : (j k n m : ℕ) (slots : List (Option ℕ)) → n ≡ m + j → drop j (window k n slots) ≡ window (k + j) m slots
drop-window zero k n m slots e =
    let same : n ≡ m = omega (arith, e) in
    let at : k ≡ k + 0 = omega arith in
    ap₂ (λ i j. window i j slots) at same
drop-window (suc j) k zero m slots e = absurd (omega (arith, e))
drop-window (suc j) k (suc n) m slots e =
    let at : (k + 1) + j ≡ k + suc j = omega arith in
    drop-window j (k + 1) n m slots (omega (arith, e)) ∙ ap (λ i. window i m slots) at

window-same : (k n i : ℕ) (x : Option ℕ) (slots : List (Option ℕ)) → ((j : ℕ) → j < n → (k + j) % 256 ≢ i) → window k n (set slots i x) ≡ window k n slots
window-same k zero i x slots h = refl
window-same k (suc n) i x slots h =
    let at : (k + 0) % 256 ≡ k % 256 = ap (λ m. m % 256) (omega arith) in
    let other : k % 256 ≢ i = λ e. h 0 (omega arith) (at ∙ e) in
    ap₂ ◌∷◌ (get_or-set_other slots i (k % 256) x None other)
    (window-same (k + 1) n i x slots (λ j l e. let at : (k + suc j) % 256 ≡ ((k + 1) + j) % 256 = ap (λ m. m % 256) (omega arith) in h (suc j) (omega arith) (at ∙ e)))

window-more : (k n : ℕ) (slots : List (Option ℕ)) → window k (suc n) slots ≡ window k n slots ++ get_or slots ((k + n) % 256) None ∷ []
window-more k zero slots = let at : k ≡ k + 0 = omega arith in ap (λ i. get_or slots (i % 256) None ∷ []) at
window-more k (suc n) slots =
    let at : (k + 1) + n ≡ k + suc n = omega arith in
    ap (λ os. get_or slots (k % 256) None ∷ os) (window-more (k + 1) n slots ∙ ap (λ i. window (k + 1) n slots ++ get_or slots (i % 256) None ∷ []) at)

pub push-window : (k n : ℕ) (x : Option ℕ) (slots : List (Option ℕ)) → n < 256 → length slots ≡ 256 → window k (n + 1) (set slots ((k + n) % 256) x) ≡ window k n slots ++ x ∷ []
push-window k n x slots l e =
    let more : n + 1 ≡ suc n = omega arith in
    let here : (k + n) % 256 < length slots = omega (arith, e) in
    ap (λ i. window k i (set slots ((k + n) % 256) x)) more ∙ window-more k n (set slots ((k + n) % 256) x)
    ∙ ap₂ (λ os y. os ++ y ∷ []) (window-same k n ((k + n) % 256) x slots (λ j h same. omega (arith, same))) (get_or-set_same slots ((k + n) % 256) x None here)
