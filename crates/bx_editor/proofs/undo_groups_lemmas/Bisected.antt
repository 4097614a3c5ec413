-- Rising numbers that are cut where they pass a bound.
use Rattle.std.proofs.Common.{◌≡◌, ℕ, zero, suc, ◌<◌, ◌≤◌, Bool, true, false, nat_lt, min, List, [], ◌∷◌, ◌++◌, length, take, drop, get_or, refl, ap, sym, arith, inl, inr}
use Rattle.std.proofs.lemmas.Bool.{le-ltb, lt-ltb}
use Rattle.std.proofs.lemmas.Bool.Decides.{leb_tells}
use Rattle.std.specs.List.{filter, AllWithin}
use Rattle.std.specs.List.Sorted.{IsPartitionPoint, IsNonDecreasingBy}
use Rattle.std.proofs.lemmas.List.Kept.{AllPairs-filter}
use Rattle.std.proofs.lemmas.List.Quantifiers.{all_pairs_push}
use Rattle.bx_editor.specs.undo_groups.Groups.{below, greatest, least}
use Rattle.bx_editor.specs.undo_groups.Model.{Rise}

-- numbers that rise do not fall
pub not-falling : (xs : List ℕ) → Rise xs → IsNonDecreasingBy (λ r. r) xs
not-falling xs rise i j d up within = elim (leb_tells j i) as (λ _. get_or xs i d ≤ get_or xs j d) [
  | inl h ↦ let same : i ≡ j = omega (arith, h.1) in omega (arith, ap (λ k. get_or xs k d) same)
  | inr h ↦ omega (arith, rise i j d h.1 within)
]

pub rise-behind : (x : ℕ) (xs : List ℕ) → Rise (x ∷ xs) → Rise xs
rise-behind x xs rise i j d up within = rise (suc i) (suc j) d (omega arith) (omega arith)

none-passes : (p : ℕ → Bool) (xs : List ℕ) → AllWithin (λ y. p y ≡ false) xs 0 (length xs) → filter p xs ≡ []
none-passes p [] none = refl
none-passes p (x ∷ xs) none = rw (none 0 x (omega arith) (omega arith)) (none-passes p xs (λ k d low high. none (suc k) d (omega arith) (omega arith)))

all-pass : (p : ℕ → Bool) (xs : List ℕ) → AllWithin (λ y. p y ≡ true) xs 0 (length xs) → filter p xs ≡ xs
all-pass p [] all = refl
all-pass p (x ∷ xs) all = rw (all 0 x (omega arith) (omega arith))
    (ap (λ (ys : List ℕ). x ∷ ys) (all-pass p xs (λ k d low high. all (suc k) d (omega arith) (omega arith))))

-- those that pass, where these stand first
pub passed-first : (p : ℕ → Bool) (xs : List ℕ) (k : ℕ) → k ≤ length xs → IsPartitionPoint (λ y. p y ≡ true) (λ y. p y ≡ false) xs k → take k xs ≡ filter p xs
passed-first p xs zero within point = sym (none-passes p xs point.1)
passed-first p [] (suc k) within point = refl
passed-first p (x ∷ xs) (suc k) within point = rw (point.0 0 x (omega arith) (omega arith))
    (ap (λ (ys : List ℕ). x ∷ ys) (passed-first p xs k (omega arith)
    (λ i d low high. point.0 (suc i) d (omega arith) (omega arith), λ i d low high. point.1 (suc i) d (omega arith) (omega arith))))

-- those that pass, where these stand last
pub passed-last : (p : ℕ → Bool) (xs : List ℕ) (k : ℕ) → k ≤ length xs → IsPartitionPoint (λ y. p y ≡ false) (λ y. p y ≡ true) xs k → drop k xs ≡ filter p xs
passed-last p xs zero within point = sym (all-pass p xs point.1)
passed-last p [] (suc k) within point = refl
passed-last p (x ∷ xs) (suc k) within point = rw (point.0 0 x (omega arith) (omega arith))
    (passed-last p xs k (omega arith)
    (λ i d low high. point.0 (suc i) d (omega arith) (omega arith), λ i d low high. point.1 (suc i) d (omega arith) (omega arith)))

all-below : (xs : List ℕ) (n k d : ℕ) → k < length (below n xs) → get_or (below n xs) k d < n
all-below [] n k d = λ within. absurd (omega arith)
all-below (x ∷ xs) n zero d = elim (leb_tells n x) as (λ _. 0 < length (below n (x ∷ xs)) → get_or (below n (x ∷ xs)) 0 d < n) [
  | inl h ↦ rw (le-ltb x n h.1) (all-below xs n 0 d)
  | inr h ↦ rw (lt-ltb x n h.1) (λ within. h.1)
]
all-below (x ∷ xs) n (suc k) d = elim (leb_tells n x) as (λ _. suc k < length (below n (x ∷ xs)) → get_or (below n (x ∷ xs)) (suc k) d < n) [
  | inl h ↦ rw (le-ltb x n h.1) (all-below xs n (suc k) d)
  | inr h ↦ rw (lt-ltb x n h.1) (λ within. all-below xs n k d (omega arith))
]

-- numbers below n rise, and n after them
pub rise-more : (xs : List ℕ) (n : ℕ) → Rise xs → Rise (below n xs ++ n ∷ [])
rise-more xs n rise = all_pairs_push (λ r s. r < s) (below n xs) n (AllPairs-filter (λ r s. r < s) (λ r. nat_lt r n) xs rise) (λ k d within. all-below xs n k d within)

-- the last of rising numbers is the greatest
pub greatest-last : (xs : List ℕ) (k d : ℕ) → Rise xs → k < length xs → greatest (take (suc k) xs) ≡ get_or xs k d
greatest-last [] k d rise within = absurd (omega arith)
greatest-last (x ∷ xs) zero d rise within = omega arith
greatest-last (x ∷ xs) (suc k) d rise within =
    omega (arith, greatest-last xs k d (rise-behind x xs rise) (omega arith), rise 0 (suc k) d (omega arith) (omega arith))

least-above : (last x : ℕ) (xs : List ℕ) → AllWithin (λ r. x < r) xs 0 (length xs) → min (least last xs) x ≡ min last x
least-above last x [] all = refl
least-above last x (y ∷ xs) all =
    omega (arith, least-above last x xs (λ k d low high. all (suc k) d (omega arith) (omega arith)), all 0 x (omega arith) (omega arith))

-- the first of rising numbers is the least
pub least-first : (last : ℕ) (xs : List ℕ) (k d : ℕ) → Rise xs → k < length xs → least last (drop k xs) ≡ min last (get_or xs k d)
least-first last [] k d rise within = absurd (omega arith)
least-first last (x ∷ xs) zero d rise within = least-above last x xs (λ k e low high. rise 0 (suc k) e (omega arith) (omega arith))
least-first last (x ∷ xs) (suc k) d rise within = least-first last xs k d (rise-behind x xs rise) (omega arith)
