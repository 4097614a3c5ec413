-- The bytes of cached bodies, one after another.
use Rattle.std.proofs.Common.{◌≡◌, ◌≤◌, ◌<◌, ◌+◌, ◌⊎◌, ℕ, List, [], ◌∷◌, ◌++◌, length, take, get_or, refl, subst, sym, arith, inl, inr}
use Rattle.std.proofs.lemmas.List.Sums.{sum_by_more, sum_by_push, sum_by-take-le}
use Rattle.bx_paragraph.specs.Layout.{LayoutState}
use Rattle.bx_view.specs.Caching.{FitsLimit, cached_bytes}

-- the bodies up to index `i`, and the one there
pub bytes_more : (cache : List LayoutState) (i : ℕ) (d : LayoutState) → i < length cache
    → cached_bytes (take (i + 1) cache) ≡ cached_bytes (take i cache) + length (get_or cache i d).body
bytes_more cache i d h = sum_by_more (λ l. length l.body) cache i d h

-- they have no more than all of them
pub bytes_within : (cache : List LayoutState) (i : ℕ) → cached_bytes (take i cache) ≤ cached_bytes cache
bytes_within cache i = sum_by-take-le (λ l. length l.body) cache i

-- one more beside none, or beside bodies that leave room for it
pub fits_pushed : (limit : ℕ) (cache : List LayoutState) (l : LayoutState) → (cache ≡ []) ⊎ (cached_bytes cache + length l.body ≤ limit)
    → FitsLimit limit (cache ++ l ∷ [])
fits_pushed limit cache l (inl none) = inr (subst (λ ls. length (ls ++ l ∷ []) ≡ 1) (sym none) refl)
fits_pushed limit cache l (inr room) = inl (omega (arith, room, sum_by_push (λ x. length x.body) cache l))
