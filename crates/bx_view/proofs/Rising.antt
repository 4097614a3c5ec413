-- Increasing offsets, and the number of them at or before an offset.
use Rattle.std.proofs.Common.{◌≡◌, ℕ, zero, suc, ◌+◌, ◌<◌, ◌≤◌, nat_le, cond, true, false, List, [], ◌∷◌, ◌++◌, length, map, count_by, get_or, refl}
use Rattle.std.proofs.Common.{ap, ◌∙◌, arith, ⊎_elim}
use Rattle.std.proofs.lemmas.Bool.{cases_lt}
use Rattle.std.proofs.lemmas.Bool.Decides.{nat_tests}
use Rattle.std.proofs.lemmas.List.Sums.{sum_by-cons, sum_by-append, count_by-le-length}

-- offsets that rise strictly, from `low` on and before `high`
abbrev pub Rises : ℕ → List ℕ → ℕ → Type 0
Rises low [] high = low ≤ high
Rises low (o ∷ os) high = (low ≤ o) × Rises (o + 1) os high

pub rises-sooner : (low from : ℕ) (os : List ℕ) (high : ℕ) → low ≤ from → Rises from os high → Rises low os high
rises-sooner low from [] high h r = omega (arith, h, r)
rises-sooner low from (o ∷ os) high h r = (omega (arith, h, r.0), r.1)

pub rises-further : (low : ℕ) (os : List ℕ) (to high : ℕ) → to ≤ high → Rises low os to → Rises low os high
rises-further low [] to high h r = omega (arith, h, r)
rises-further low (o ∷ os) to high h r = (r.0, rises-further (o + 1) os to high h r.1)

pub rises-append : (low : ℕ) (os : List ℕ) (mid : ℕ) (ps : List ℕ) (high : ℕ) → Rises low os mid → Rises mid ps high → Rises low (os ++ ps) high
rises-append low [] mid ps high r s = rises-sooner low mid ps high r s
rises-append low (o ∷ os) mid ps high r s = (r.0, rises-append (o + 1) os mid ps high r.1 s)

-- the parts of a list that rises
pub rises-ahead : (low : ℕ) (os : List ℕ) (p : ℕ) (ps : List ℕ) (high : ℕ) → Rises low (os ++ p ∷ ps) high → Rises low os p
rises-ahead low [] p ps high r = r.0
rises-ahead low (o ∷ os) p ps high r = (r.0, rises-ahead (o + 1) os p ps high r.1)

pub rises-behind : (low : ℕ) (os ps : List ℕ) (high : ℕ) → Rises low (os ++ ps) high → Rises low ps high
rises-behind low [] ps high r = r
rises-behind low (o ∷ os) ps high r = rises-sooner low (o + 1) ps high (omega (arith, r.0)) (rises-behind (o + 1) os ps high r.1)

pub rises-within : (low : ℕ) (os : List ℕ) (high : ℕ) → Rises low os high → low ≤ high
rises-within low [] high r = r
rises-within low (o ∷ os) high r = omega (arith, r.0, rises-within (o + 1) os high r.1)

pub rises-few : (low : ℕ) (os : List ℕ) (high : ℕ) → Rises low os high → low + length os ≤ high
rises-few low [] high r = omega (arith, r)
rises-few low (o ∷ os) high r = omega (arith, r.0, rises-few (o + 1) os high r.1)

pub rises-moved : (at low : ℕ) (os : List ℕ) (high : ℕ) → Rises low os high → Rises (at + low) (map (λ o. at + o) os) (at + high)
rises-moved at low [] high r = omega (arith, r)
rises-moved at low (o ∷ os) high r =
    (omega (arith, r.0), rises-sooner (at + o + 1) (at + (o + 1)) (map (λ o. at + o) os) (at + high) (omega arith) (rises-moved at (o + 1) os high r.1))

pub rises-past : (low : ℕ) (os : List ℕ) (high k d : ℕ) → Rises low os high → k < length os → low ≤ get_or os k d
rises-past low [] high k d r h = absurd (omega (arith, h))
rises-past low (o ∷ os) high zero d r h = r.0
rises-past low (o ∷ os) high (suc k) d r h = omega (arith, r.0, rises-past (o + 1) os high k d r.1 (omega (arith, h)))

pub rises-below : (low : ℕ) (os : List ℕ) (high k d : ℕ) → Rises low os high → k < length os → get_or os k d < high
rises-below low [] high k d r h = absurd (omega (arith, h))
rises-below low (o ∷ os) high zero d r h = omega (arith, rises-within (o + 1) os high r.1)
rises-below low (o ∷ os) high (suc k) d r h = rises-below (o + 1) os high k d r.1 (omega (arith, h))

pub rises-apart : (low : ℕ) (os : List ℕ) (high n m d : ℕ) → Rises low os high → n < m → m < length os → get_or os n d < get_or os m d
rises-apart low [] high n m d r h l = absurd (omega (arith, l))
rises-apart low (o ∷ os) high n zero d r h l = absurd (omega (arith, h))
rises-apart low (o ∷ os) high zero (suc m) d r h l = omega (arith, rises-past (o + 1) os high m d r.1 (omega (arith, l)))
rises-apart low (o ∷ os) high (suc n) (suc m) d r h l = rises-apart (o + 1) os high n m d r.1 (omega (arith, h)) (omega (arith, l))

-- ---- the number of them at or before an offset

module _ (offset : ℕ) where
  abbrev pub rank : List ℕ → ℕ
  rank os = count_by (λ b. nat_le b offset) os

  pub rank-append : (os ps : List ℕ) → rank (os ++ ps) ≡ rank os + rank ps
  rank-append os ps = sum_by-append (λ b. cond (nat_le b offset) 1 0) os ps

  rank-cons : (o : ℕ) (os : List ℕ) → rank (o ∷ os) ≡ cond (nat_le o offset) 1 0 + rank os
  rank-cons o os = sum_by-cons (λ b. cond (nat_le b offset) 1 0) o os

  pub rank-first : (o : ℕ) (os : List ℕ) → o ≤ offset → rank (o ∷ os) ≡ 1 + rank os
  rank-first o os h = let e : nat_le o offset ≡ true = grind (arith, nat_tests) in rank-cons o os ∙ ap (λ b. cond b 1 0 + rank os) e

  rank-not : (o : ℕ) (os : List ℕ) → offset < o → rank (o ∷ os) ≡ rank os
  rank-not o os h =
      let e : nat_le o offset ≡ false = grind (arith, nat_tests) in
      rank-cons o os ∙ ap (λ b. cond b 1 0 + rank os) e ∙ omega arith

  -- none that lie past the offset
  pub none-rank : (low : ℕ) (os : List ℕ) (high : ℕ) → Rises low os high → offset < low → rank os ≡ 0
  none-rank low [] high r h = refl
  none-rank low (o ∷ os) high r h = rank-not o os (omega (arith, r.0)) ∙ none-rank (o + 1) os high r.1 (omega (arith, r.0))

  -- all that end before it
  pub all-rank : (low : ℕ) (os : List ℕ) (high : ℕ) → Rises low os high → high ≤ offset + 1 → rank os ≡ length os
  all-rank low [] high r h = refl
  all-rank low (o ∷ os) high r h =
      let near = rises-within (o + 1) os high r.1 in
      let more = all-rank (o + 1) os high r.1 h in
      rank-first o os (omega (arith, near)) ∙ omega (arith, more)

  pub rank-few : (os : List ℕ) → rank os ≤ length os
  rank-few os = count_by-le-length (λ b. nat_le b offset) os

-- the number of the last that is at the offset or before it: those up to it are, those past it are not
module _ (offset d : ℕ) where
  pub rank-here : (low : ℕ) (os : List ℕ) (high k : ℕ) → Rises low os high → k < rank offset os → get_or os k d ≤ offset
  rank-here low [] high k r h = absurd (omega (arith, h))
  rank-here low (o ∷ os) high zero r h = ⊎_elim
      (λ past. absurd (omega (arith, h, rank-not offset o os past, none-rank offset (o + 1) os high r.1 (omega (arith, past))))) (λ here. here)
      (cases_lt offset o)
  rank-here low (o ∷ os) high (suc k) r h = ⊎_elim
      (λ past. absurd (omega (arith, h, rank-not offset o os past, none-rank offset (o + 1) os high r.1 (omega (arith, past)))))
      (λ here. rank-here (o + 1) os high k r.1 (omega (arith, h, rank-first offset o os here))) (cases_lt offset o)

  pub rank-not-here : (low : ℕ) (os : List ℕ) (high k : ℕ) → Rises low os high → rank offset os ≤ k → k < length os → offset < get_or os k d
  rank-not-here low [] high k r h l = absurd (omega (arith, l))
  rank-not-here low (o ∷ os) high zero r h l = ⊎_elim (λ past. past) (λ here. absurd (omega (arith, h, rank-first offset o os here))) (cases_lt offset o)
  rank-not-here low (o ∷ os) high (suc k) r h l = ⊎_elim
      (λ past. rank-not-here (o + 1) os high k r.1 (omega (arith, none-rank offset (o + 1) os high r.1 (omega (arith, past)))) (omega (arith, l)))
      (λ here. rank-not-here (o + 1) os high k r.1 (omega (arith, h, rank-first offset o os here)) (omega (arith, l))) (cases_lt offset o)
