-- The search through the stack of openers, from its end.
use Rattle.std.proofs.Common.{◌≡◌, ◌<◌, ◌+◌, ◌∙◌, ℕ, List, [], ◌∷◌, length, get_or, take, reverse, ap, arith, Some, Bool, true, false}
use Rattle.std.specs.Prelude.{find}
use Rattle.std.proofs.lemmas.List.{take_more, reverse-append, take_all}
use Rattle.bx_levels.specs.brackets.Search.{below_first, is_for}

reverse_more : (os : List (ℕ × ℕ)) (k : ℕ) (d : ℕ × ℕ) → k < length os → reverse (take (k + 1) os) ≡ get_or os k d ∷ reverse (take k os)
reverse_more os k d h = ap reverse (take_more os k d h) ∙ reverse-append (take k os) (get_or os k d ∷ [])

pub find_here : (c : ℕ) (os : List (ℕ × ℕ)) (k : ℕ) (d : ℕ × ℕ) → k < length os → is_for c (get_or os k d) ≡ true
    → find (is_for c) (reverse (take (k + 1) os)) ≡ Some (get_or os k d)
find_here c os k d h e = ap (find (is_for c)) (reverse_more os k d h) ∙ rw e

pub find_more : (c : ℕ) (os : List (ℕ × ℕ)) (k : ℕ) (d : ℕ × ℕ) → k < length os → is_for c (get_or os k d) ≡ false
    → find (is_for c) (reverse (take (k + 1) os)) ≡ find (is_for c) (reverse (take k os))
find_more c os k d h e = ap (find (is_for c)) (reverse_more os k d h) ∙ rw e

below_at : (p : ℕ × ℕ → Bool) (o : ℕ × ℕ) (os : List (ℕ × ℕ)) (b : Bool) → p o ≡ b → below_first p (o ∷ os) ≡ elim b [ true ↦ os | false ↦ below_first p os ]
below_at p o os true e = rw (e, below_first)
below_at p o os false e = rw (e, below_first)

pub below_here : (c : ℕ) (os : List (ℕ × ℕ)) (k : ℕ) (d : ℕ × ℕ) → k < length os → is_for c (get_or os k d) ≡ true
    → below_first (is_for c) (reverse (take (k + 1) os)) ≡ reverse (take k os)
below_here c os k d h e = ap (below_first (is_for c)) (reverse_more os k d h) ∙ below_at (is_for c) (get_or os k d) (reverse (take k os)) true e

pub below_more : (c : ℕ) (os : List (ℕ × ℕ)) (k : ℕ) (d : ℕ × ℕ) → k < length os → is_for c (get_or os k d) ≡ false
    → below_first (is_for c) (reverse (take (k + 1) os)) ≡ below_first (is_for c) (reverse (take k os))
below_more c os k d h e = ap (below_first (is_for c)) (reverse_more os k d h) ∙ below_at (is_for c) (get_or os k d) (reverse (take k os)) false e

pub take_it : (os : List (ℕ × ℕ)) → take (length os) os ≡ os
take_it os = take_all (length os) os (omega arith)
