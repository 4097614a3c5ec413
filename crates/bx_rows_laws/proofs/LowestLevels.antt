-- L2 without reversals: two units change places once for each level from the lowest odd one up to the lowest of those from the one
-- unit to the other.
use Rattle.std.proofs.Common.{◌≡◌, ◌⊎◌, ℕ, zero, suc, ◌+◌, ◌-◌, ◌%◌, ◌<◌, ◌≤◌, min, List, [], ◌∷◌, ◌++◌, length, get_or, take, drop, map, Option, Some, None, All}
use Rattle.std.proofs.Common.{refl, sym, ap, ap₂, subst, ◌∙◌, arith, inl, inr, take-append-drop}
use Rattle.std.specs.Prelude.{HoldsAt}
use Rattle.std.specs.List.{between, enumerate_from}
use Rattle.std.proofs.lemmas.Bool.{cases_eq, cases_lt}
use Rattle.std.proofs.lemmas.List.{drop-drop, drop_more, get_or_default, map-append}
use Rattle.std.proofs.lemmas.List.Edits.{get_or-between, length-between}
use Rattle.std.proofs.lemmas.List.FromFn.{get_or-enumerate_from, length-enumerate_from}
use Rattle.bx_rows_laws.specs.OrderLaws.{EqualLevelsOrder, IsLowest, IsOrderAt, LowestLevelsOrder, LowestStaysBetween, StandsBetween, StandsLeft, StaysBetween}
use Rattle.bx_rows.specs.RowLevels.{highest, lower, lowest_odd, reverse_down, reverse_runs, reversals_from, visual}
use Rattle.bx_rows_laws.proofs.TurnedPairs.{IsPair, Reaches, keeps-order, turns-order}

-- ---- the levels between which runs are reversed

at-highest : (ls : List ℕ) (k : ℕ) → k < length ls → get_or ls k 0 ≤ highest ls
at-highest [] k h = absurd (omega (arith, h))
at-highest (l ∷ ls) zero h = omega arith
at-highest (l ∷ ls) (suc k) h = let rest = at-highest ls k (omega (arith, h)) in omega (arith, rest)

abbrev choice : ℕ → Option ℕ → ℕ → Option ℕ
choice l o p = elim p as (λ _. Option ℕ) [ zero ↦ o | suc n ↦ Some (lower l o) ]

-- the lowest odd level is odd, and no odd level of the list is below it
abbrev IsOdd : Option ℕ → Type 0
IsOdd None = Unit {0}
IsOdd (Some low) = low % 2 ≡ 1

abbrev IsUnder : Option ℕ → ℕ → Type 0
IsUnder None l = l % 2 ≡ 0
IsUnder (Some low) l = l % 2 ≡ 1 → low ≤ l

odd-more : (l p : ℕ) (o : Option ℕ) → l % 2 ≡ p → IsOdd o → IsOdd (choice l o p)
odd-more l zero o e h = h
odd-more l (suc p) None e h = omega (arith, e)
odd-more l (suc p) (Some b) e h = omega (arith, e, h)

lowest-is-odd : (ls : List ℕ) → IsOdd (lowest_odd ls)
lowest-is-odd [] = tt
lowest-is-odd (l ∷ ls) = odd-more l (l % 2) (lowest_odd ls) refl (lowest-is-odd ls)

under-itself : (l p : ℕ) (o : Option ℕ) → l % 2 ≡ p → IsUnder (choice l o p) l
under-itself l zero None e = e
under-itself l zero (Some b) e = λ odd. absurd (omega (arith, e, odd))
under-itself l (suc p) None e = λ odd. omega arith
under-itself l (suc p) (Some b) e = λ odd. omega arith

under-more : (l p x : ℕ) (o : Option ℕ) → IsUnder o x → IsUnder (choice l o p) x
under-more l zero x o h = h
under-more l (suc p) x None h = λ odd. absurd (omega (arith, h, odd))
under-more l (suc p) x (Some b) h = λ odd. let k = h odd in omega (arith, k)

under-at : (ls : List ℕ) (k : ℕ) → k < length ls → IsUnder (lowest_odd ls) (get_or ls k 0)
under-at [] k h = absurd (omega (arith, h))
under-at (l ∷ ls) zero h = under-itself l (l % 2) (lowest_odd ls) refl
under-at (l ∷ ls) (suc k) h = under-more l (l % 2) (get_or ls k 0) (lowest_odd ls) (under-at ls k (omega (arith, h)))

-- ---- all reversals

-- the pair after this many turns
abbrev IsTurned : ℕ → ℕ → ℕ × ℕ → ℕ × ℕ → List (ℕ × ℕ) → Type 0
IsTurned zero m u v us = IsPair m u v us
IsTurned (suc k) m u v us = IsTurned k m v u us

after-down : (low count m : ℕ) (u v : ℕ × ℕ) (us : List (ℕ × ℕ)) → IsPair m u v us
    → IsTurned (min count (m + 1 - low)) m u v (reverse_down low count us)
after-down low zero m u v us p =
    let none : 0 ≡ min 0 (m + 1 - low) = omega arith in subst (λ k. IsTurned k m u v us) none p
after-down low (suc count) m u v us p =
    let next = reverse_runs (low + count) [] us in
    elim (cases_lt m (low + count)) as (λ _. IsTurned (min (suc count) (m + 1 - low)) m u v (reverse_down low count next)) [
      | inl h ↦
          let same : min count (m + 1 - low) ≡ min (suc count) (m + 1 - low) = omega (arith, h) in
          subst (λ k. IsTurned k m u v (reverse_down low count next)) same
          (after-down low count m u v next (keeps-order m (low + count) u v us h p))
      | inr h ↦
          let more : suc (min count (m + 1 - low)) ≡ min (suc count) (m + 1 - low) = omega (arith, h) in
          subst (λ k. IsTurned k m u v (reverse_down low count next)) more
          (after-down low count m v u next (turns-order m (low + count) u v us h p))
    ]

-- an even number of turns leaves the order, an odd one turns it
record IsPairAt (k m : ℕ) (u v : ℕ × ℕ) (us : List (ℕ × ℕ)) : Type 0 where
  even : k % 2 ≡ 0 → IsPair m u v us
  odd : k % 2 ≡ 1 → IsPair m v u us

by-turns : (k m : ℕ) (u v : ℕ × ℕ) (us : List (ℕ × ℕ)) → IsTurned k m u v us → IsPairAt k m u v us
by-turns zero m u v us p = record { even = λ e. p; odd = λ e. absurd (omega (arith, e)) }
by-turns (suc k) m u v us p =
    let rest = by-turns k m v u us p in
    record { even = λ e. rest.odd (omega (arith, e)); odd = λ e. rest.even (omega (arith, e)) }

after-all : (o : Option ℕ) (high m : ℕ) (u v : ℕ × ℕ) (us : List (ℕ × ℕ)) → m ≤ high → IsOdd o → IsUnder o m → IsPair m u v us
    → IsPairAt m m u v (reversals_from o high us)
after-all None high m u v us h odd under p = record { even = λ e. p; odd = λ e. absurd (omega (arith, under, e)) }
after-all (Some low) high m u v us h odd under p =
    let all = reverse_down low (high + 1 - low) us in
    let count : min (high + 1 - low) (m + 1 - low) ≡ m + 1 - low = omega (arith, h) in
    let turned = by-turns (m + 1 - low) m u v all (subst (λ k. IsTurned k m u v all) count (after-down low (high + 1 - low) m u v us p)) in
    record { even = λ e. turned.even (omega (arith, e, odd)); odd = λ e. let k = under e in turned.odd (omega (arith, e, odd, k)) }

-- ---- by numbers

left-if-pair : (m : ℕ) (u v : ℕ × ℕ) (us : List (ℕ × ℕ)) → IsPair m u v us → StandsLeft (map (λ x. x.0) us) u.0 v.0
left-if-pair m u v us p = record {
  front = map (λ x. x.0) p.front;
  middle = map (λ x. x.0) p.middle;
  back = map (λ x. x.0) p.back;
  order_is = ap (map (λ x. x.0)) p.us_is ∙ map-append (λ x. x.0) p.front (u ∷ (p.middle ++ (v ∷ p.back)))
      ∙ ap (λ xs. map (λ x. x.0) p.front ++ (u.0 ∷ xs)) (map-append (λ x. x.0) p.middle (v ∷ p.back));
}

split-at : {X : Type 0} (xs : List X) (i j : ℕ) (d : X) → i < j → j < length xs
    → xs ≡ take i xs ++ (get_or xs i d ∷ (between (i + 1) j xs ++ (get_or xs j d ∷ drop (j + 1) xs)))
split-at xs i j d h k =
    let count : i + 1 + (j - (i + 1)) ≡ j = omega (arith, h) in
    let back : drop (j - (i + 1)) (drop (i + 1) xs) ≡ get_or xs j d ∷ drop (j + 1) xs =
    drop-drop (j - (i + 1)) (i + 1) xs ∙ ap (λ n. drop n xs) count ∙ drop_more xs j d k in
    let rest : drop (i + 1) xs ≡ between (i + 1) j xs ++ (get_or xs j d ∷ drop (j + 1) xs) =
    sym (take-append-drop (j - (i + 1)) (drop (i + 1) xs)) ∙ ap (λ ys. between (i + 1) j xs ++ ys) back in
    sym (take-append-drop i xs) ∙ ap (λ ys. take i xs ++ ys) (drop_more xs i d (omega (arith, h, k)) ∙ ap (λ ys. get_or xs i d ∷ ys) rest)

-- the lowest of the levels from one index to another
record IsLowestAt (m i j : ℕ) (levels : List ℕ) : Type 0 where
  at : ℕ
  after : i ≤ at
  before : at ≤ j
  one : get_or levels at 0 ≡ m
  least : (k : ℕ) → i ≤ k → k ≤ j → m ≤ get_or levels k 0

lowest-at : (m i j : ℕ) (levels : List ℕ) → i < j → j < length levels → IsLowest m (between i (j + 1) levels) → IsLowestAt m i j levels
lowest-at m i j levels h g l =
    let count : length (between i (j + 1) levels) ≡ j + 1 - i = length-between levels i (j + 1) (omega (arith, g)) in
    let k = l.one.0 in
    let within : k < length (between i (j + 1) levels) = l.one.1 in
    record {
      at = i + k;
      after = omega arith;
      before = omega (arith, within, count);
      one = get_or_default levels (i + k) 0 m (omega (arith, within, count, g))
          ∙ sym (get_or-between levels i (j + 1) k m (omega (arith, within, count, h))) ∙ l.one.2;
      least = λ n a b.
          let there : i + (n - i) ≡ n = omega (arith, a) in
          subst (λ x. m ≤ x) (get_or-between levels i (j + 1) (n - i) 0 (omega (arith, a, b)) ∙ ap (λ y. get_or levels y 0) there)
          (l.least (n - i) 0 (omega (arith, a, b, h, count)));
    }

reaches-at : (m : ℕ) (us : List (ℕ × ℕ)) (k : ℕ) (d : ℕ × ℕ) → k < length us → (get_or us k d).1 ≡ m → Reaches m us
reaches-at m us k d h e = record {
  before = take k us;
  unit = get_or us k d;
  behind = drop (k + 1) us;
  us_is = sym (take-append-drop k us) ∙ ap (λ xs. take k us ++ xs) (drop_more us k d h);
  at = e;
}

pair-of : (m i j : ℕ) (levels : List ℕ) → i < j → j < length levels → IsLowestAt m i j levels
    → IsPair m (i, get_or levels i 0) (j, get_or levels j 0) (enumerate_from 0 levels)
pair-of m i j levels h g l =
    let us = enumerate_from 0 levels in
    let inside = between (i + 1) j us in
    let unit : (k : ℕ) → k < length levels → get_or us k (0, 0) ≡ (k, get_or levels k 0) =
    λ k n. get_or-enumerate_from 0 levels k (0, 0) n ∙ ap (λ x. (x, get_or levels k 0)) (let e : 0 + k ≡ k = omega arith in e) in
    let size : length us ≡ length levels = length-enumerate_from 0 levels in
    let count : length inside ≡ j - (i + 1) = length-between us (i + 1) j (omega (arith, g, size)) in
    let level : (k : ℕ) → k < length inside → (get_or inside k (0, 0)).1 ≡ get_or levels (i + 1 + k) 0 =
    λ k n. ap (λ x. x.1) (get_or-between us (i + 1) j k (0, 0) (omega (arith, n, count)) ∙ unit (i + 1 + k) (omega (arith, n, count, g))) in
    let at = l.at in
    let a : i ≤ at = l.after in
    let b : at ≤ j = l.before in
    record {
      front = take i us;
      middle = inside;
      back = drop (j + 1) us;
      us_is = split-at us i j (0, 0) h (omega (arith, g, size))
          ∙ ap₂ (λ x y. take i us ++ (x ∷ (inside ++ (y ∷ drop (j + 1) us)))) (unit i (omega (arith, h, g))) (unit j g);
      one = l.least i (omega arith) (omega (arith, h));
      other = l.least j (omega (arith, h)) (omega arith);
      least = λ k d n. subst (λ x. m ≤ x)
          (sym (level k n) ∙ ap (λ x. x.1) (get_or_default inside k (0, 0) d n))
          (l.least (i + 1 + k) (omega arith) (omega (arith, n, count)));
      reached = elim (cases_eq at i) as (λ _. (get_or levels i 0 ≡ m) ⊎ ((get_or levels j 0 ≡ m) ⊎ Reaches m inside)) [
        | inl e ↦ inl (ap (λ k. get_or levels k 0) (sym e) ∙ l.one)
        | inr e ↦ elim (cases_eq at j) as (λ _. (get_or levels i 0 ≡ m) ⊎ ((get_or levels j 0 ≡ m) ⊎ Reaches m inside)) [
          | inl f ↦ inr (inl (ap (λ k. get_or levels k 0) (sym f) ∙ l.one))
          | inr f ↦
              let there : i + 1 + (at - (i + 1)) ≡ at = omega (arith, a, e) in
              let within : at - (i + 1) < length inside = omega (arith, a, b, e, f, count) in
              inr (inr (reaches-at m inside (at - (i + 1)) (0, 0) within
              (level (at - (i + 1)) within ∙ ap (λ k. get_or levels k 0) there ∙ l.one)))
        ]
      ];
    }

pub lowest-order : LowestLevelsOrder
lowest-order levels i j m h g l =
    let low = lowest-at m i j levels h g l in
    let at = low.at in
    let within : at < length levels = (let b = low.before in omega (arith, b, g)) in
    let u : ℕ × ℕ = (i, get_or levels i 0) in
    let v : ℕ × ℕ = (j, get_or levels j 0) in
    let all = reversals_from (lowest_odd levels) (highest levels) (enumerate_from 0 levels) in
    let bound : m ≤ highest levels = subst (λ x. x ≤ highest levels) low.one (at-highest levels at within) in
    let under : IsUnder (lowest_odd levels) m = subst (IsUnder (lowest_odd levels)) low.one (under-at levels at within) in
    let pair = after-all (lowest_odd levels) (highest levels) m u v (enumerate_from 0 levels) bound (lowest-is-odd levels) under (pair-of m i j levels h g low) in
    record { even = λ e. left-if-pair m u v all (pair.even e); odd = λ e. left-if-pair m v u all (pair.odd e) }

-- ---- consequences

-- one of the units from one index to another has the lowest of all levels
pub lowest-part : (n : ℕ) (levels : List ℕ) (i a at b j : ℕ) → i ≤ a → a ≤ at → at ≤ b → b ≤ j → j < length levels
    → All (λ l. n ≤ l) (between i (j + 1) levels) → HoldsAt (λ l. l ≡ n) levels at → IsLowest n (between a (b + 1) levels)
lowest-part n levels i a at b j h f g k l all one =
    let count : length (between a (b + 1) levels) ≡ b + 1 - a = length-between levels a (b + 1) (omega (arith, k, l)) in
    let whole : length (between i (j + 1) levels) ≡ j + 1 - i = length-between levels i (j + 1) (omega (arith, l)) in
    let there : a + (at - a) ≡ at = omega (arith, f) in
    record {
      one = (at - a, omega (arith, f, g, count), get_or-between levels a (b + 1) (at - a) n (omega (arith, f, g)) ∙ ap (λ x. get_or levels x n) there ∙ one n);
      least = λ x d w.
          let moved : i + (a - i + x) ≡ a + x = omega (arith, h) in
          subst (λ y. n ≤ y)
          (get_or-between levels i (j + 1) (a - i + x) d (omega (arith, h, w, count, k)) ∙ ap (λ y. get_or levels y d) moved
          ∙ sym (get_or-between levels a (b + 1) x d (omega (arith, w, count))))
          (all (a - i + x) d (omega (arith, h, f, g, w, count, whole, k)));
    }

pub equal-order : EqualLevelsOrder
equal-order levels i j n h k a =
    lowest-order levels i j n h k (lowest-part n levels i i i j j (omega arith) (omega arith) (omega (arith, h)) (omega arith) k a.least a.one)

stays : (order : List ℕ) (i k j n p : ℕ) → n % 2 ≡ p → IsOrderAt n order i k → IsOrderAt n order k j → StandsBetween order i k j
stays order i k j n zero e f g = inl (f.even e, g.even e)
stays order i k j n (suc zero) e f g = inr (g.odd e, f.odd e)
stays order i k j n (suc (suc p)) e f g = absurd (omega (arith, e))

pub stays-between : StaysBetween
stays-between levels i k j n h g l a =
    let one = lowest-part n levels i i i k j (omega arith) (omega arith) (omega (arith, h)) (omega (arith, g)) l a.least a.one in
    let other = lowest-part n levels i k j j j (omega (arith, h)) (omega (arith, g)) (omega arith) (omega arith) l a.least a.other in
    stays (visual levels) i k j n (n % 2) refl (lowest-order levels i k n h (omega (arith, g, l)) one) (lowest-order levels k j n g l other)

pub lowest-stays-between : LowestStaysBetween
lowest-stays-between levels i k j n h g l at a =
    let one = lowest-part n levels i i k k j (omega arith) (omega (arith, h)) (omega arith) (omega (arith, g)) l a at in
    let other = lowest-part n levels i k k j j (omega (arith, h)) (omega arith) (omega (arith, g)) (omega arith) l a at in
    stays (visual levels) i k j n (n % 2) refl (lowest-order levels i k n h (omega (arith, g, l)) one) (lowest-order levels k j n g l other)
