-- The effect of one level's reversal on two units: they change places if no level from the one to the other is lower, and
-- otherwise keep their order. The lowest level from the one to the other stays.
use Rattle.std.proofs.Common.{◌≡◌, ◌⊎◌, ℕ, ◌<◌, ◌≤◌, List, [], ◌∷◌, ◌++◌, reverse, All}
use Rattle.std.proofs.Common.{refl, sym, ap, ap₂, subst, ◌∙◌, arith, inl, inr}
use Rattle.std.proofs.lemmas.Bool.{cases_lt}
use Rattle.std.proofs.lemmas.List.{append-nil, append_assoc, reverse-append}
use Rattle.std.proofs.lemmas.List.Elements.{All-append, All-cons, All-head, All-nil, All-tail, All-weaker}
use Rattle.std.proofs.lemmas.List.Sorted.{All-permutation, IsPermutation-reverse}
use Rattle.bx_rows.specs.RowLevels.{reverse_runs}
use Rattle.bx_rows.proofs.NumbersBelow.{all-runs}
use Rattle.bx_rows.proofs.Reversals.{high, low}

abbrev pub AtLeast : ℕ → List (ℕ × ℕ) → Type 0
AtLeast m us = All (λ u. m ≤ u.1) us

-- ---- a reversal cuts at each lower unit

cut : (n : ℕ) (run xs : List (ℕ × ℕ)) (u : ℕ × ℕ) (ys : List (ℕ × ℕ)) → u.1 < n
    → reverse_runs n run (xs ++ (u ∷ ys)) ≡ reverse_runs n run xs ++ (u ∷ reverse_runs n [] ys)
cut n run [] u ys h = low n run u ys h
cut n run (x ∷ xs) u ys h =
    let rest = u ∷ reverse_runs n [] ys in
    elim (cases_lt x.1 n) as (λ _. reverse_runs n run (x ∷ (xs ++ (u ∷ ys))) ≡ reverse_runs n run (x ∷ xs) ++ rest) [
      | inl l ↦ low n run x (xs ++ (u ∷ ys)) l ∙ ap (λ zs. run ++ (x ∷ zs)) (cut n [] xs u ys h)
          ∙ sym (append_assoc run (x ∷ reverse_runs n [] xs) rest) ∙ ap (λ zs. zs ++ rest) (sym (low n run x xs l))
      | inr l ↦ high n run x (xs ++ (u ∷ ys)) l ∙ cut n (x ∷ run) xs u ys h ∙ ap (λ zs. zs ++ rest) (sym (high n run x xs l))
    ]

-- units that are all in the run
in-run : (n : ℕ) (run xs us : List (ℕ × ℕ)) → AtLeast n xs → reverse_runs n run (xs ++ us) ≡ reverse_runs n (reverse xs ++ run) us
in-run n run [] us a = refl
in-run n run (x ∷ xs) us a =
    let turned : reverse (x ∷ xs) ++ run ≡ reverse xs ++ (x ∷ run) =
    ap (λ zs. zs ++ run) (reverse-append (x ∷ []) xs) ∙ append_assoc (reverse xs) (x ∷ []) run in
    high n run x (xs ++ us) (All-head (λ u. n ≤ u.1) x xs a) ∙ in-run n (x ∷ run) xs us (All-tail (λ u. n ≤ u.1) x xs a)
    ∙ ap (λ zs. reverse_runs n zs us) (sym turned)

-- the run is contiguous in all units, and each unit moved in front of it is in the run too
record ContiguousRun (m n : ℕ) (run us all : List (ℕ × ℕ)) : Type 0 where
  front : List (ℕ × ℕ)
  back : List (ℕ × ℕ)
  all_is : all ≡ front ++ (run ++ back)
  in_run : AtLeast n front
  behind : AtLeast m us → AtLeast m back

contiguous-run : (m n : ℕ) (run us : List (ℕ × ℕ)) → ContiguousRun m n run us (reverse_runs n run us)
contiguous-run m n run [] = record {
  front = [];
  back = [];
  all_is = sym (append-nil run);
  in_run = All-nil (λ u. n ≤ u.1);
  behind = λ a. All-nil (λ u. m ≤ u.1);
}
contiguous-run m n run (u ∷ us) =
    elim (cases_lt u.1 n) as (λ _. ContiguousRun m n run (u ∷ us) (reverse_runs n run (u ∷ us))) [
      | inl l ↦ record {
        front = [];
        back = u ∷ reverse_runs n [] us;
        all_is = low n run u us l;
        in_run = All-nil (λ x. n ≤ x.1);
        behind = λ a. All-cons (λ x. m ≤ x.1) u (reverse_runs n [] us) (All-head (λ x. m ≤ x.1) u us a)
            (all-runs (λ x. m ≤ x.1) n [] us (All-nil (λ x. m ≤ x.1)) (All-tail (λ x. m ≤ x.1) u us a));
      }
      | inr l ↦ let k = contiguous-run m n (u ∷ run) us in record {
        front = k.front ++ (u ∷ []);
        back = k.back;
        all_is = high n run u us l ∙ k.all_is ∙ sym (append_assoc k.front (u ∷ []) (run ++ k.back));
        in_run = All-append (λ x. n ≤ x.1) k.front (u ∷ []) k.in_run (All-cons (λ x. n ≤ x.1) u [] l (All-nil (λ x. n ≤ x.1)));
        behind = λ a. k.behind (All-tail (λ x. m ≤ x.1) u us a);
      }
    ]

lower : (m n : ℕ) (us : List (ℕ × ℕ)) → m ≤ n → AtLeast n us → AtLeast m us
lower m n us h a = All-weaker (λ u. n ≤ u.1) (λ u. m ≤ u.1) (λ u k. omega (arith, h, k)) us a

-- ---- units between a lower unit and another

record Front (m : ℕ) (v : ℕ × ℕ) (us : List (ℕ × ℕ)) : Type 0 where
  before : List (ℕ × ℕ)
  rest : List (ℕ × ℕ)
  us_is : us ≡ before ++ (v ∷ rest)
  least : AtLeast m before

record Back (m : ℕ) (u : ℕ × ℕ) (us : List (ℕ × ℕ)) : Type 0 where
  before : List (ℕ × ℕ)
  rest : List (ℕ × ℕ)
  us_is : us ≡ before ++ (u ∷ rest)
  least : AtLeast m rest

to-unit : (m n : ℕ) (run middle : List (ℕ × ℕ)) (v : ℕ × ℕ) (back : List (ℕ × ℕ)) → m ≤ n → AtLeast m run → AtLeast m middle
    → Front m v (reverse_runs n run (middle ++ (v ∷ back)))
to-unit m n run [] v back h r a =
    elim (cases_lt v.1 n) as (λ _. Front m v (reverse_runs n run (v ∷ back))) [
      | inl l ↦ record { before = run; rest = reverse_runs n [] back; us_is = low n run v back l; least = r }
      | inr l ↦ let k = contiguous-run m n (v ∷ run) back in
          record { before = k.front; rest = run ++ k.back; us_is = high n run v back l ∙ k.all_is; least = lower m n k.front h k.in_run }
    ]
to-unit m n run (y ∷ middle) v back h r a =
    let first = All-head (λ u. m ≤ u.1) y middle a in
    let others = All-tail (λ u. m ≤ u.1) y middle a in
    elim (cases_lt y.1 n) as (λ _. Front m v (reverse_runs n run (y ∷ (middle ++ (v ∷ back))))) [
      | inl l ↦ let f = to-unit m n [] middle v back h (All-nil (λ u. m ≤ u.1)) others in record {
        before = run ++ (y ∷ f.before);
        rest = f.rest;
        us_is = low n run y (middle ++ (v ∷ back)) l ∙ ap (λ zs. run ++ (y ∷ zs)) f.us_is ∙ sym (append_assoc run (y ∷ f.before) (v ∷ f.rest));
        least = All-append (λ u. m ≤ u.1) run (y ∷ f.before) r (All-cons (λ u. m ≤ u.1) y f.before first f.least);
      }
      | inr l ↦ let f = to-unit m n (y ∷ run) middle v back h (All-cons (λ u. m ≤ u.1) y run first r) others in
          record { before = f.before; rest = f.rest; us_is = high n run y (middle ++ (v ∷ back)) l ∙ f.us_is; least = f.least }
    ]

from-unit : (m n : ℕ) (run front : List (ℕ × ℕ)) (u : ℕ × ℕ) (middle : List (ℕ × ℕ)) → m ≤ n → AtLeast n run → AtLeast m middle
    → Back m u (reverse_runs n run (front ++ (u ∷ middle)))
from-unit m n run [] u middle h r a =
    elim (cases_lt u.1 n) as (λ _. Back m u (reverse_runs n run (u ∷ middle))) [
      | inl l ↦ record {
        before = run;
        rest = reverse_runs n [] middle;
        us_is = low n run u middle l;
        least = all-runs (λ x. m ≤ x.1) n [] middle (All-nil (λ x. m ≤ x.1)) a;
      }
      | inr l ↦ let k = contiguous-run m n (u ∷ run) middle in record {
        before = k.front;
        rest = run ++ k.back;
        us_is = high n run u middle l ∙ k.all_is;
        least = All-append (λ x. m ≤ x.1) run k.back (lower m n run h r) (k.behind a);
      }
    ]
from-unit m n run (f ∷ front) u middle h r a =
    elim (cases_lt f.1 n) as (λ _. Back m u (reverse_runs n run (f ∷ (front ++ (u ∷ middle))))) [
      | inl l ↦ let b = from-unit m n [] front u middle h (All-nil (λ x. n ≤ x.1)) a in record {
        before = run ++ (f ∷ b.before);
        rest = b.rest;
        us_is = low n run f (front ++ (u ∷ middle)) l ∙ ap (λ zs. run ++ (f ∷ zs)) b.us_is ∙ sym (append_assoc run (f ∷ b.before) (u ∷ b.rest));
        least = b.least;
      }
      | inr l ↦ let b = from-unit m n (f ∷ run) front u middle h (All-cons (λ x. n ≤ x.1) f run l r) a in
          record { before = b.before; rest = b.rest; us_is = high n run f (front ++ (u ∷ middle)) l ∙ b.us_is; least = b.least }
    ]

-- ---- two units

-- one of some units has the level
pub record Reaches (m : ℕ) (us : List (ℕ × ℕ)) : Type 0 where
  pub before : List (ℕ × ℕ)
  pub unit : ℕ × ℕ
  pub behind : List (ℕ × ℕ)
  pub us_is : us ≡ before ++ (unit ∷ behind)
  pub at : unit.1 ≡ m

-- the one unit is left of the other, and `m` is the lowest level from the one to the other
pub record IsPair (m : ℕ) (u v : ℕ × ℕ) (us : List (ℕ × ℕ)) : Type 0 where
  pub front : List (ℕ × ℕ)
  pub middle : List (ℕ × ℕ)
  pub back : List (ℕ × ℕ)
  pub us_is : us ≡ front ++ (u ∷ (middle ++ (v ∷ back)))
  pub one : m ≤ u.1
  pub other : m ≤ v.1
  pub least : AtLeast m middle
  pub reached : (u.1 ≡ m) ⊎ ((v.1 ≡ m) ⊎ Reaches m middle)

part-front : (P : ℕ × ℕ → Type 0) (xs ys : List (ℕ × ℕ)) → All P (xs ++ ys) → All P xs
part-front P [] ys a = All-nil P
part-front P (x ∷ xs) ys a = All-cons P x xs (All-head P x (xs ++ ys) a) (part-front P xs ys (All-tail P x (xs ++ ys) a))

part-back : (P : ℕ × ℕ → Type 0) (xs ys : List (ℕ × ℕ)) → All P (xs ++ ys) → All P ys
part-back P [] ys a = a
part-back P (x ∷ xs) ys a = part-back P xs ys (All-tail P x (xs ++ ys) a)

keeps-at-first : (m n : ℕ) (u v : ℕ × ℕ) (us : List (ℕ × ℕ)) (p : IsPair m u v us) → m < n → u.1 ≡ m → IsPair m u v (reverse_runs n [] us)
keeps-at-first m n u v us p h e =
    let f = to-unit m n [] p.middle v p.back (omega (arith, h)) (All-nil (λ x. m ≤ x.1)) p.least in
    let new = reverse_runs n [] p.front in
    record {
      front = new;
      middle = f.before;
      back = f.rest;
      us_is = ap (reverse_runs n []) p.us_is ∙ cut n [] p.front u (p.middle ++ (v ∷ p.back)) (omega (arith, h, e)) ∙ ap (λ zs. new ++ (u ∷ zs)) f.us_is;
      one = p.one;
      other = p.other;
      least = f.least;
      reached = inl e;
    }

keeps-at-last : (m n : ℕ) (u v : ℕ × ℕ) (us : List (ℕ × ℕ)) (p : IsPair m u v us) → m < n → v.1 ≡ m → IsPair m u v (reverse_runs n [] us)
keeps-at-last m n u v us p h e =
    let b = from-unit m n [] p.front u p.middle (omega (arith, h)) (All-nil (λ x. n ≤ x.1)) p.least in
    let new = v ∷ reverse_runs n [] p.back in
    record {
      front = b.before;
      middle = b.rest;
      back = reverse_runs n [] p.back;
      us_is = ap (reverse_runs n []) (p.us_is ∙ sym (append_assoc p.front (u ∷ p.middle) (v ∷ p.back)))
          ∙ cut n [] (p.front ++ (u ∷ p.middle)) v p.back (omega (arith, h, e)) ∙ ap (λ zs. zs ++ new) b.us_is ∙ append_assoc b.before (u ∷ b.rest) new;
      one = p.one;
      other = p.other;
      least = b.least;
      reached = inr (inl e);
    }

keeps-at-middle : (m n : ℕ) (u v : ℕ × ℕ) (us : List (ℕ × ℕ)) (p : IsPair m u v us) → m < n → Reaches m p.middle
    → IsPair m u v (reverse_runs n [] us)
keeps-at-middle m n u v us p h r =
    let x = r.unit in
    let all = subst (AtLeast m) r.us_is p.least in
    let others = part-back (λ y. m ≤ y.1) r.before (x ∷ r.behind) all in
    let b = from-unit m n [] p.front u r.before (omega (arith, h)) (All-nil (λ y. n ≤ y.1)) (part-front (λ y. m ≤ y.1) r.before (x ∷ r.behind) all) in
    let f = to-unit m n [] r.behind v p.back (omega (arith, h)) (All-nil (λ y. m ≤ y.1)) (All-tail (λ y. m ≤ y.1) x r.behind others) in
    let rest = r.behind ++ (v ∷ p.back) in
    let new = f.before ++ (v ∷ f.rest) in
    let split : us ≡ (p.front ++ (u ∷ r.before)) ++ (x ∷ rest) =
    p.us_is ∙ ap (λ zs. p.front ++ (u ∷ (zs ++ (v ∷ p.back)))) r.us_is ∙ ap (λ zs. p.front ++ (u ∷ zs)) (append_assoc r.before (x ∷ r.behind) (v ∷ p.back))
    ∙ sym (append_assoc p.front (u ∷ r.before) (x ∷ rest)) in
    record {
      front = b.before;
      middle = b.rest ++ (x ∷ f.before);
      back = f.rest;
      us_is = ap (reverse_runs n []) split ∙ cut n [] (p.front ++ (u ∷ r.before)) x rest (let e = r.at in omega (arith, h, e))
          ∙ ap₂ (λ ys zs. ys ++ (x ∷ zs)) b.us_is f.us_is ∙ append_assoc b.before (u ∷ b.rest) (x ∷ new)
          ∙ ap (λ zs. b.before ++ (u ∷ zs)) (sym (append_assoc b.rest (x ∷ f.before) (v ∷ f.rest)));
      one = p.one;
      other = p.other;
      least = All-append (λ y. m ≤ y.1) b.rest (x ∷ f.before) b.least
          (All-cons (λ y. m ≤ y.1) x f.before (All-head (λ y. m ≤ y.1) x r.behind others) f.least);
      reached = inr (inr (record { before = b.rest; unit = x; behind = f.before; us_is = refl; at = r.at }));
    }

-- a level from the one to the other is lower than that of the reversal
pub keeps-order : (m n : ℕ) (u v : ℕ × ℕ) (us : List (ℕ × ℕ)) → m < n → IsPair m u v us → IsPair m u v (reverse_runs n [] us)
keeps-order m n u v us h p =
    elim p.reached as (λ _. IsPair m u v (reverse_runs n [] us)) [
      | inl e ↦ keeps-at-first m n u v us p h e
      | inr r ↦ elim r as (λ _. IsPair m u v (reverse_runs n [] us)) [
        | inl e ↦ keeps-at-last m n u v us p h e
        | inr s ↦ keeps-at-middle m n u v us p h s
      ]
    ]

-- ---- a pair in one run

record Turned (xs us : List (ℕ × ℕ)) : Type 0 where
  front : List (ℕ × ℕ)
  back : List (ℕ × ℕ)
  us_is : us ≡ front ++ (reverse xs ++ back)

turned-run : (n : ℕ) (run front xs back : List (ℕ × ℕ)) → AtLeast n xs → Turned xs (reverse_runs n run (front ++ (xs ++ back)))
turned-run n run [] xs back a =
    let k = contiguous-run 0 n (reverse xs ++ run) back in
    record {
      front = k.front;
      back = run ++ k.back;
      us_is = in-run n run xs back a ∙ k.all_is ∙ ap (λ zs. k.front ++ zs) (append_assoc (reverse xs) run k.back);
    }
turned-run n run (f ∷ front) xs back a =
    elim (cases_lt f.1 n) as (λ _. Turned xs (reverse_runs n run (f ∷ (front ++ (xs ++ back))))) [
      | inl l ↦ let t = turned-run n [] front xs back a in record {
        front = run ++ (f ∷ t.front);
        back = t.back;
        us_is = low n run f (front ++ (xs ++ back)) l ∙ ap (λ zs. run ++ (f ∷ zs)) t.us_is ∙ sym (append_assoc run (f ∷ t.front) (reverse xs ++ t.back));
      }
      | inr l ↦ let t = turned-run n (f ∷ run) front xs back a in
          record { front = t.front; back = t.back; us_is = high n run f (front ++ (xs ++ back)) l ∙ t.us_is }
    ]

turned-around : (u v : ℕ × ℕ) (middle : List (ℕ × ℕ)) → reverse (u ∷ (middle ++ (v ∷ []))) ≡ v ∷ (reverse middle ++ (u ∷ []))
turned-around u v middle = reverse-append (u ∷ []) (middle ++ (v ∷ [])) ∙ ap (λ zs. zs ++ (u ∷ [])) (reverse-append middle (v ∷ []))

turned-reach : (m : ℕ) (us : List (ℕ × ℕ)) → Reaches m us → Reaches m (reverse us)
turned-reach m us r = record {
  before = reverse r.behind;
  unit = r.unit;
  behind = reverse r.before;
  us_is = ap reverse r.us_is ∙ reverse-append r.before (r.unit ∷ r.behind) ∙ ap (λ zs. zs ++ reverse r.before) (reverse-append (r.unit ∷ []) r.behind)
      ∙ append_assoc (reverse r.behind) (r.unit ∷ []) (reverse r.before);
  at = r.at;
}

other-reach : (m : ℕ) (u v : ℕ × ℕ) (middle : List (ℕ × ℕ)) → (u.1 ≡ m) ⊎ ((v.1 ≡ m) ⊎ Reaches m middle)
    → (v.1 ≡ m) ⊎ ((u.1 ≡ m) ⊎ Reaches m (reverse middle))
other-reach m u v middle (inl e) = inr (inl e)
other-reach m u v middle (inr (inl e)) = inl e
other-reach m u v middle (inr (inr r)) = inr (inr (turned-reach m middle r))

-- no level from the one to the other is lower than that of the reversal
pub turns-order : (m n : ℕ) (u v : ℕ × ℕ) (us : List (ℕ × ℕ)) → n ≤ m → IsPair m u v us → IsPair m v u (reverse_runs n [] us)
turns-order m n u v us h p =
    let xs = u ∷ (p.middle ++ (v ∷ [])) in
    let all : AtLeast m xs =
    All-cons (λ x. m ≤ x.1) u (p.middle ++ (v ∷ [])) p.one
    (All-append (λ x. m ≤ x.1) p.middle (v ∷ []) p.least (All-cons (λ x. m ≤ x.1) v [] p.other (All-nil (λ x. m ≤ x.1)))) in
    let t = turned-run n [] p.front xs p.back (lower n m xs h all) in
    record {
      front = t.front;
      middle = reverse p.middle;
      back = t.back;
      us_is = ap (reverse_runs n []) (p.us_is ∙ ap (λ zs. p.front ++ (u ∷ zs)) (sym (append_assoc p.middle (v ∷ []) p.back)))
          ∙ t.us_is ∙ ap (λ zs. t.front ++ (zs ++ t.back)) (turned-around u v p.middle)
          ∙ ap (λ zs. t.front ++ (v ∷ zs)) (append_assoc (reverse p.middle) (u ∷ []) t.back);
      one = p.other;
      other = p.one;
      least = All-permutation (λ x. m ≤ x.1) p.middle (reverse p.middle) (IsPermutation-reverse p.middle) p.least;
      reached = other-reach m u v p.middle p.reached;
    }
