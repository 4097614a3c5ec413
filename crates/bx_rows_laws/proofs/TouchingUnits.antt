-- Two units of one odd level, with no lower level between them: no other unit stands between them.
use Rattle.std.proofs.Common.{◌≡◌, ℕ, zero, suc, ◌+◌, ◌-◌, ◌%◌, ◌<◌, ◌≤◌, List, ◌∷◌, ◌++◌, length, get_or, take, All}
use Rattle.std.proofs.Common.{refl, sym, ap, subst, ◌∙◌, arith, inl, inr, ⊎_elim, length-append}
use Rattle.std.specs.Prelude.{HoldsAt}
use Rattle.std.specs.List.{between, range_with_len, sum_by}
use Rattle.std.proofs.Math.Seq.{get_or-append_seam}
use Rattle.std.proofs.lemmas.Bool.{cases_lt}
use Rattle.std.proofs.lemmas.List.{get_or_default, get_or-append-add, get_or-take, get_or_append_left, length-take-le}
use Rattle.std.proofs.lemmas.List.Edits.{get_or-between, length-between}
use Rattle.std.proofs.lemmas.List.FromFn.{get_or-range_with_len, length-range_with_len}
use Rattle.std.proofs.lemmas.List.Sorted.{Contains-permutation, IsPermutation-sym, sum_by-IsPermutation}
use Rattle.std.proofs.lemmas.List.Sums.{sum_by-cons, sum_by-take-le, sum_by_more_le}
use Rattle.bx_rows_laws.specs.OrderLaws.{AreAtLevel, IsOrderAt, StandsLeft}
use Rattle.bx_rows_laws.specs.TouchingLetters.{EqualOddLevelsTouch}
use Rattle.bx_rows.specs.RowLevels.{visual}
use Rattle.bx_rows_laws.proofs.LowestLevels.{equal-order, lowest-order, lowest-part}
use Rattle.bx_rows.proofs.Permutes.{visual-permutes}

-- ---- each number stands once

same : ℕ → ℕ → ℕ
same zero zero = 1
same zero (suc n) = 0
same (suc x) zero = 0
same (suc x) (suc n) = same x n

same-itself : (x : ℕ) → same x x ≡ 1
unfolding same
same-itself zero = refl
same-itself (suc x) = same-itself x

same-most : (x n : ℕ) → same x n ≤ 1
unfolding same
same-most zero zero = omega arith
same-most zero (suc n) = omega arith
same-most (suc x) zero = omega arith
same-most (suc x) (suc n) = same-most x n

same-above : (x n : ℕ) → x < n → same x n ≡ 0
unfolding same
same-above zero zero h = absurd (omega (arith, h))
same-above zero (suc n) h = refl
same-above (suc x) zero h = refl
same-above (suc x) (suc n) h = same-above x n (omega (arith, h))

same-below : (x n : ℕ) → n < x → same x n ≡ 0
unfolding same
same-below zero zero h = absurd (omega (arith, h))
same-below zero (suc n) h = refl
same-below (suc x) zero h = refl
same-below (suc x) (suc n) h = same-below x n (omega (arith, h))

none-before : (x a n : ℕ) → x < a → sum_by (same x) (range_with_len a n) ≡ 0
none-before x a zero h = refl
none-before x a (suc n) h =
    let here = same-above x a h in
    let rest = none-before x (a + 1) n (omega (arith, h)) in
    omega (arith, sum_by-cons (same x) a (range_with_len (a + 1) n), here, rest)

one-at-most : (x a n : ℕ) → sum_by (same x) (range_with_len a n) ≤ 1
one-at-most x a zero = omega arith
one-at-most x a (suc n) =
    let cons = sum_by-cons (same x) a (range_with_len (a + 1) n) in
    elim (cases_lt a x) as (λ _. sum_by (same x) (range_with_len a (suc n)) ≤ 1) [
      | inl h ↦ omega (arith, cons, same-below x a h, one-at-most x (a + 1) n)
      | inr h ↦ omega (arith, cons, same-most x a, none-before x (a + 1) n (omega (arith, h)))
    ]

twice : (x p q d : ℕ) (xs : List ℕ) → p < q → q < length xs → get_or xs p d ≡ x → get_or xs q d ≡ x → 2 ≤ sum_by (same x) xs
twice x p q d xs h k e f =
    let front = take q xs in
    let within : length front ≡ q = length-take-le q xs (omega (arith, k)) in
    let here : get_or front p d ≡ x = get_or-take q xs p d h ∙ e in
    let one : same x (get_or front p d) ≡ 1 = ap (same x) here ∙ same-itself x in
    let other : same x (get_or xs q d) ≡ 1 = ap (same x) f ∙ same-itself x in
    omega (arith, one, other, sum_by_more_le (same x) front p d (omega (arith, within, h)), sum_by_more_le (same x) xs q d k, sum_by-take-le (same x) front p)

once : (levels : List ℕ) (x p q d : ℕ) → p < q → q < length (visual levels) → get_or (visual levels) p d ≡ x → get_or (visual levels) q d ≡ x → ⊥
once levels x p q d h k e f =
    let all = range_with_len 0 (length levels) in
    omega (arith, twice x p q d (visual levels) h k e f, sum_by-IsPermutation (same x) all (visual levels) (visual-permutes levels), one-at-most x 0 (length levels))

-- the places of two numbers, the one left of the other
record Places (order : List ℕ) (a b d : ℕ) : Type 0 where
  one : ℕ
  other : ℕ
  order_is : one < other
  within : other < length order
  at_one : get_or order one d ≡ a
  at_other : get_or order other d ≡ b

places-of : (order : List ℕ) (a b d : ℕ) (s : StandsLeft order a b) → Places order a b d
places-of order a b d s =
    let rest = s.middle ++ (b ∷ s.back) in
    let behind : get_or (a ∷ rest) (suc (length s.middle)) d ≡ b = get_or-append_seam (a ∷ s.middle) b s.back d in
    record {
      one = length s.front;
      other = length s.front + (suc (length s.middle));
      order_is = omega arith;
      within = omega (arith, ap length s.order_is, length-append s.front (a ∷ rest), length-append s.middle (b ∷ s.back));
      at_one = ap (λ xs. get_or xs (length s.front) d) s.order_is ∙ get_or-append_seam s.front a rest d;
      at_other = ap (λ xs. get_or xs (length s.front + (suc (length s.middle))) d) s.order_is ∙ get_or-append-add s.front (a ∷ rest) (suc (length s.middle)) d ∙ behind;
    }

same-place : (levels : List ℕ) (x p q d : ℕ) → p < length (visual levels) → q < length (visual levels) → get_or (visual levels) p d ≡ x
    → get_or (visual levels) q d ≡ x → p ≡ q
same-place levels x p q d h k e f =
    elim (cases_lt p q) as (λ _. p ≡ q) [
      | inl a ↦ absurd (once levels x p q d a k e f)
      | inr a ↦ elim (cases_lt q p) as (λ _. p ≡ q) [
        | inl b ↦ absurd (once levels x q p d b h f e)
        | inr b ↦ omega (arith, a, b)
      ]
    ]

-- two numbers in these places are not the other way round
crossed : (levels : List ℕ) (a b p q d : ℕ) → p < q → q < length (visual levels) → get_or (visual levels) p d ≡ a → get_or (visual levels) q d ≡ b
    → StandsLeft (visual levels) b a → ⊥
crossed levels a b p q d h k e f s =
    let t = places-of (visual levels) b a d s in
    let order = t.order_is in
    let within = t.within in
    let one = same-place levels b t.one q d (omega (arith, order, within)) k t.at_one f in
    let other = same-place levels a t.other p d within (omega (arith, h, k)) t.at_other e in
    omega (arith, order, one, other, h)

-- ---- the lowest level from one unit to another

record Low (levels : List ℕ) (a b : ℕ) : Type 0 where
  lowest : ℕ
  at : ℕ
  after : a ≤ at
  before : at ≤ b
  one : get_or levels at 0 ≡ lowest
  least : (x : ℕ) → a ≤ x → x ≤ b → lowest ≤ get_or levels x 0

at-same : (levels : List ℕ) (m x y : ℕ) → x ≡ y → m ≤ get_or levels x 0 → m ≤ get_or levels y 0
at-same levels m x y e h = subst (λ z. m ≤ get_or levels z 0) e h

low-from : (levels : List ℕ) (a count : ℕ) → Low levels a (a + count)
low-from levels a zero = record {
  lowest = get_or levels a 0;
  at = a;
  after = omega arith;
  before = omega arith;
  one = refl;
  least = λ x h k. at-same levels (get_or levels a 0) a x (omega (arith, h, k)) (omega arith);
}
low-from levels a (suc count) =
    let r = low-from levels a count in
    let last = a + suc count in
    let new = get_or levels last 0 in
    let after = r.after in
    let before = r.before in
    elim (cases_lt new r.lowest) as (λ _. Low levels a (a + suc count)) [
      | inl less ↦ record {
        lowest = new;
        at = last;
        after = omega arith;
        before = omega arith;
        one = refl;
        least = λ x h k. ⊎_elim (λ below. let old = r.least x h (omega (arith, below)) in omega (arith, old, less))
            (λ above. at-same levels new last x (omega (arith, above, k)) (omega arith)) (cases_lt x last);
      }
      | inr more ↦ record {
        lowest = r.lowest;
        at = r.at;
        after = after;
        before = omega (arith, before);
        one = r.one;
        least = λ x h k. ⊎_elim (λ below. r.least x h (omega (arith, below)))
            (λ above. at-same levels r.lowest last x (omega (arith, above, k)) more) (cases_lt x last);
      }
    ]

low-between : (levels : List ℕ) (a b : ℕ) → a ≤ b → Low levels a b
low-between levels a b h = let e : a + (b - a) ≡ b = omega (arith, h) in subst (Low levels a) e (low-from levels a (b - a))

pub all-at : (m : ℕ) (levels : List ℕ) (a b : ℕ) → a ≤ b → b < length levels → ((x : ℕ) → a ≤ x → x ≤ b → m ≤ get_or levels x 0)
    → All (λ l. m ≤ l) (between a (b + 1) levels)
all-at m levels a b h k f x d w =
    let count : length (between a (b + 1) levels) ≡ b + 1 - a = length-between levels a (b + 1) (omega (arith, k)) in
    let here : get_or levels (a + x) 0 ≡ get_or (between a (b + 1) levels) x d =
    get_or_default levels (a + x) 0 d (omega (arith, w, count, k)) ∙ sym (get_or-between levels a (b + 1) x d (omega (arith, w, count, h))) in
    subst (λ y. m ≤ y) here (f (a + x) (omega arith) (omega (arith, w, count)))

pub each-at : (m : ℕ) (levels : List ℕ) (a b : ℕ) → a ≤ b → b < length levels → All (λ l. m ≤ l) (between a (b + 1) levels)
    → (x : ℕ) → a ≤ x → x ≤ b → m ≤ get_or levels x 0
each-at m levels a b h k all x f g =
    let count : length (between a (b + 1) levels) ≡ b + 1 - a = length-between levels a (b + 1) (omega (arith, k)) in
    let there : a + (x - a) ≡ x = omega (arith, f) in
    subst (λ y. m ≤ y) (get_or-between levels a (b + 1) (x - a) 0 (omega (arith, f, g)) ∙ ap (λ y. get_or levels y 0) there)
    (all (x - a) 0 (omega (arith, f, g, count)))

-- units by the lowest level from the one to the other
ordered : (levels : List ℕ) (a b m at : ℕ) → a < b → b < length levels → a ≤ at → at ≤ b → get_or levels at 0 ≡ m
    → ((x : ℕ) → a ≤ x → x ≤ b → m ≤ get_or levels x 0) → IsOrderAt m (visual levels) a b
ordered levels a b m at h k f g one least =
    let all = all-at m levels a b (omega (arith, h)) k least in
    let there : HoldsAt (λ l. l ≡ m) levels at = λ d. get_or_default levels at d 0 (omega (arith, g, k)) ∙ one in
    lowest-order levels a b m h k (lowest-part m levels a a at b b (omega arith) f g (omega arith) k all there)

-- ---- a unit between two others on the screen

module _ (levels : List ℕ) (i j n : ℕ) (order : i < j) (within : j < length levels) (a : AreAtLevel n levels i j) where
  each : (x : ℕ) → i ≤ x → x ≤ j → n ≤ get_or levels x 0
  each = each-at n levels i j (omega (arith, order)) within a.least

  -- one before both has the same order to both
  record SameOrder (k : ℕ) : Type 0 where
    m : ℕ
    to_one : IsOrderAt m (visual levels) k i
    to_other : IsOrderAt m (visual levels) k j

  record SameOrderBehind (k : ℕ) : Type 0 where
    m : ℕ
    to_one : IsOrderAt m (visual levels) i k
    to_other : IsOrderAt m (visual levels) j k

  before-both : (k : ℕ) → k < i → SameOrder k
  before-both k h =
      let low = low-between levels k i (omega (arith, h)) in
      let m = low.lowest in
      let after = low.after in
      let before = low.before in
      let own = low.least i (omega (arith, h)) (omega arith) in
      let first = a.one 0 in
      record {
        m = m;
        to_one = ordered levels k i m low.at h (omega (arith, order, within)) after before low.one low.least;
        to_other = ordered levels k j m low.at (omega (arith, h, order)) within after (omega (arith, before, order)) low.one
            (λ x f g. ⊎_elim (λ below. low.least x f (omega (arith, below)))
            (λ above. let more = each x above g in omega (arith, own, first, more)) (cases_lt x i));
      }

  behind-both : (k : ℕ) → j < k → k < length levels → SameOrderBehind k
  behind-both k h inside =
      let low = low-between levels j k (omega (arith, h)) in
      let m = low.lowest in
      let after = low.after in
      let before = low.before in
      let own = low.least j (omega arith) (omega (arith, h)) in
      let last = a.other 0 in
      record {
        m = m;
        to_one = ordered levels i k m low.at (omega (arith, h, order)) inside (omega (arith, after, order)) before low.one
            (λ x f g. ⊎_elim (λ below. let more = each x f (omega (arith, below)) in omega (arith, own, last, more))
            (λ above. low.least x above g) (cases_lt x j));
        to_other = ordered levels j k m low.at h inside after before low.one low.least;
      }

  -- such a unit does not stand between them
  not-before : (k p q r d s : ℕ) → k < i → (o : SameOrder k) → o.m % 2 ≡ s → p < q → q < r → r < length (visual levels)
      → get_or (visual levels) p d ≡ j → get_or (visual levels) q d ≡ k → get_or (visual levels) r d ≡ i → ⊥
  not-before k p q r d zero h o e f g l x y z = crossed levels j k p q d f (omega (arith, g, l)) x y (o.to_other.even e)
  not-before k p q r d (suc zero) h o e f g l x y z = crossed levels k i q r d g l y z (o.to_one.odd e)
  not-before k p q r d (suc (suc s)) h o e f g l x y z = omega (arith, e)

  not-behind : (k p q r d s : ℕ) → j < k → (o : SameOrderBehind k) → o.m % 2 ≡ s → p < q → q < r → r < length (visual levels)
      → get_or (visual levels) p d ≡ j → get_or (visual levels) q d ≡ k → get_or (visual levels) r d ≡ i → ⊥
  not-behind k p q r d zero h o e f g l x y z = crossed levels k i q r d g l y z (o.to_one.even e)
  not-behind k p q r d (suc zero) h o e f g l x y z = crossed levels j k p q d f (omega (arith, g, l)) x y (o.to_other.odd e)
  not-behind k p q r d (suc (suc s)) h o e f g l x y z = omega (arith, e)

  -- the numbers of a visual order are those of the units
  below-all : (q d : ℕ) → q < length (visual levels) → get_or (visual levels) q d < length levels
  below-all q d h =
      let all = range_with_len 0 (length levels) in
      let k = get_or (visual levels) q d in
      let found = Contains-permutation (visual levels) all k (IsPermutation-sym all (visual levels) (visual-permutes levels))
      (q, h, get_or_default (visual levels) q k d h) in
      let inside : found.0 < length all = found.1 in
      let at : get_or all found.0 k ≡ k = found.2 in
      let count = length-range_with_len 0 (length levels) in
      let is = get_or-range_with_len 0 (length levels) found.0 k (omega (arith, inside, count)) in
      omega (arith, inside, at, count, is)

  inside-both : (k p q r d : ℕ) → p < q → q < r → r < length (visual levels) → get_or (visual levels) p d ≡ j → get_or (visual levels) q d ≡ k
      → get_or (visual levels) r d ≡ i → (i < k) × (k < j)
  inside-both k p q r d f g l x y z =
      let many = below-all q d (omega (arith, g, l)) in
      let above : i < k =
      ⊎_elim (λ h. h) (λ h. ⊎_elim
      (λ less. let o = before-both k less in absurd (not-before k p q r d (o.m % 2) less o refl f g l x y z))
      (λ more. absurd (once levels i q r d g l (y ∙ omega (arith, h, more)) z)) (cases_lt k i)) (cases_lt i k) in
      let below : k < j =
      ⊎_elim (λ h. h) (λ h. ⊎_elim
      (λ more. let o = behind-both k more (omega (arith, many, y)) in absurd (not-behind k p q r d (o.m % 2) more o refl f g l x y z))
      (λ less. absurd (once levels j p q d f (omega (arith, g, l)) x (y ∙ omega (arith, h, less)))) (cases_lt j k)) (cases_lt k j) in
      (above, below)

pub equal-odd-touch : EqualOddLevelsTouch
equal-odd-touch levels i j n order within odd a =
    let e = equal-order levels i j n order within a in
    let s = e.odd odd in
    let row = visual levels in
    let rest = s.middle ++ (i ∷ s.back) in
    record {
      front = s.front;
      middle = s.middle;
      back = s.back;
      order_is = s.order_is;
      inside = λ x d w.
          let p = length s.front in
          let q = length s.front + (suc x) in
          let r = length s.front + (suc (length s.middle)) in
          let at_one : get_or row p d ≡ j = ap (λ xs. get_or xs p d) s.order_is ∙ get_or-append_seam s.front j rest d in
          let at_inside : get_or row q d ≡ get_or s.middle x d = ap (λ xs. get_or xs q d) s.order_is ∙ get_or-append-add s.front (j ∷ rest) (suc x) d
          ∙ get_or_append_left s.middle (i ∷ s.back) d x w in
          let at_other : get_or row r d ≡ i = ap (λ xs. get_or xs r d) s.order_is ∙ get_or-append-add s.front (j ∷ rest) (suc (length s.middle)) d
          ∙ get_or-append_seam (j ∷ s.middle) i s.back d in
          inside-both levels i j n order within a (get_or s.middle x d) p q r d (omega arith) (omega (arith, w))
          (omega (arith, ap length s.order_is, length-append s.front (j ∷ rest), length-append s.middle (i ∷ s.back))) at_one at_inside at_other;
    }
