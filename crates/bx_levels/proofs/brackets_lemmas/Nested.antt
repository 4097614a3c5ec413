-- Pairs do not cross: a closer pops the openers between it and its own.
use Rattle.std.proofs.Common.{◌≡◌, ◌<◌, ◌≤◌, ◌+◌, ◌⊎◌, inl, inr, ℕ, List, [], ◌∷◌, length, get_or, refl, subst, arith, cond, Bool, true, false, Option, Some, None}
use Rattle.std.specs.Prelude.{All, AllPairs, nat_lt, find}
use Rattle.std.proofs.lemmas.Bool.Decides.{nat_tests}
use Rattle.std.proofs.lemmas.List.Elements.{All-nil, All-cons, All-head, All-tail}
use Rattle.std.proofs.lemmas.List.Kept.{AllPairs-cons}
use Rattle.bx_ucd.specs.Data.{Data}
use Rattle.bx_ucd.specs.declared.class.Class.{Class}
use Rattle.bx_ucd.specs.declared.data.Side.{Side}
use Rattle.bx_ucd.specs.declared.data.Side.TheVariants.{Opener, Closer}
use Rattle.bx_levels.specs.brackets.Pairs.{bracket_room, canonical, bracket_at, insert_pair}
use Rattle.bx_levels.specs.brackets.Search.{below_first, is_for, left_by, IsFalling, Progress, progress, turn, after, pairs_after, found_by}
use Rattle.bx_levels.specs.brackets.Laws.{AreUncrossed, AreNested, PairsAreNested}
use Rattle.bx_levels.proofs.brackets_lemmas.Stack.{found_below, falling_later, falling_below, all_found}

-- of two pairs the first opens first, and does not cross the other
abbrev IsOuter : ℕ × ℕ → ℕ × ℕ → Type 0
IsOuter p q = (p.0 < q.0) × ((q.1 < p.1) ⊎ (p.1 < q.0))

abbrev AreOrdered : List (ℕ × ℕ) → Type 0
AreOrdered [] = Unit {0}
AreOrdered (p ∷ ps) = All (IsOuter p) ps × AreOrdered ps

-- an opener is before a pair, or after it
abbrev IsOutside : ℕ × ℕ → ℕ × ℕ → Type 0
IsOutside p o = (o.0 < p.0) ⊎ (p.1 < o.0)

-- a pair that is found before index `j`, where these openers are open
record IsPast (j : ℕ) (os : List (ℕ × ℕ)) (p : ℕ × ℕ) : Type 0 where
  ordered : p.0 < p.1
  ends : p.1 < j
  outside : All (IsOutside p) os

-- the invariant of the openers and pairs before index `j`
record AreLaid (j : ℕ) (os ps : List (ℕ × ℕ)) : Type 0 where
  falling : IsFalling j os
  past : All (IsPast j os) ps
  ordered : AreOrdered ps

all_insert : (P : ℕ × ℕ → Type 0) (p : ℕ × ℕ) (qs : List (ℕ × ℕ)) → P p → All P qs → All P (insert_pair p qs)
all_insert P p [] h a = All-cons P p [] h (All-nil P)
all_insert P p (q ∷ qs) h a = elim (nat_lt p.0 q.0) as
    (λ b. All P (elim b as (λ v. List (ℕ × ℕ)) [ true ↦ p ∷ q ∷ qs | false ↦ q ∷ insert_pair p qs ])) [
      | true ↦ All-cons P p (q ∷ qs) h a
      | false ↦ All-cons P q (insert_pair p qs) (All-head P q qs a) (all_insert P p qs h (All-tail P q qs a))
    ]

all_below : (P : ℕ × ℕ → Type 0) (f : ℕ × ℕ → Bool) (os : List (ℕ × ℕ)) → All P os → All P (below_first f os)
all_below P f [] a = a
all_below P f (o ∷ os) a = elim (f o) as (λ b. All P (elim b as (λ v. List (ℕ × ℕ)) [ true ↦ os | false ↦ below_first f os ])) [
  | true ↦ All-tail P o os a
  | false ↦ all_below P f os (All-tail P o os a)
]

of_found : (P : ℕ × ℕ → Type 0) (f : ℕ × ℕ → Bool) (os : List (ℕ × ℕ)) (o : ℕ × ℕ) → All P os → find f os ≡ Some o → P o
of_found P f [] o a e = absurd (cc)
of_found P f (x ∷ xs) o a e =
    (elim (f x) as (λ b. cond b (Some x) (find f xs) ≡ Some o → P o) [
      | true ↦ λ k. let q : x ≡ o = cc in subst P q (All-head P x xs a)
      | false ↦ λ k. of_found P f xs o (All-tail P x xs a) k
    ]) e

abbrev IsBefore : ℕ → ℕ × ℕ → Type 0
IsBefore j o = o.0 < j

falling_all : (j : ℕ) (os : List (ℕ × ℕ)) → IsFalling j os → All (IsBefore j) os
falling_all j [] h = All-nil (IsBefore j)
falling_all j (o ∷ os) h =
    let low : o.0 < j = h.0 in
    let more : All (IsBefore o.0) os = falling_all o.0 os h.1 in
    All-cons (IsBefore j) o os low (λ k d l. let m : (get_or os k d).0 < o.0 = more k d l in omega arith)

-- a pair from `a` to `j` among pairs that end before `j`
record IsClear (a j : ℕ) (p : ℕ × ℕ) : Type 0 where
  ordered : p.0 < p.1
  ends : p.1 < j
  apart : (a < p.0) ⊎ (p.1 < a)

outer_by : (q : ℕ × ℕ) (a j : ℕ) → q.0 < q.1 → q.0 ≤ a → (a < q.0) ⊎ (q.1 < a) → IsOuter q (a, j)
outer_by q a j o m (inl l) = absurd (omega arith)
outer_by q a j o m (inr r) = (omega arith, inr r)

insert_ordered : (a j : ℕ) (ps : List (ℕ × ℕ)) → All (IsClear a j) ps → AreOrdered ps → AreOrdered (insert_pair (a, j) ps)
insert_ordered a j [] c h = (All-nil (IsOuter (a, j)), tt)
insert_ordered a j (q ∷ qs) c h =
    let own : IsClear a j q = All-head (IsClear a j) q qs c in
    let later : All (IsClear a j) qs = All-tail (IsClear a j) q qs c in
    (elim (nat_lt a q.0) as (λ b. nat_lt a q.0 ≡ b
    → AreOrdered (elim b as (λ v. List (ℕ × ℕ)) [ true ↦ (a, j) ∷ q ∷ qs | false ↦ q ∷ insert_pair (a, j) qs ])) [
      | true ↦ λ e.
          let less : a < q.0 = grind (arith, nat_tests) in
          let outer : All (IsOuter (a, j)) (q ∷ qs) = All-cons (IsOuter (a, j)) q qs (less, inl own.ends) (λ k d l.
          let u : IsOuter q (get_or qs k d) = h.0 k d l in
          let v : IsClear a j (get_or qs k d) = later k d l in
          let first : a < (get_or qs k d).0 = omega (arith, u.0) in
          (first, inl v.ends)) in
          (outer, h)
      | false ↦ λ e.
          let more : q.0 ≤ a = grind (arith, nat_tests) in
          (all_insert (IsOuter q) (a, j) qs (outer_by q a j own.ordered more own.apart) h.0, insert_ordered a j qs later h.1)
    ]) refl

-- ---- a character more

laid_later : (j : ℕ) (os ps : List (ℕ × ℕ)) → AreLaid j os ps → AreLaid (j + 1) os ps
laid_later j os ps h = record {
  falling = falling_later j (j + 1) os (omega arith) h.falling;
  past = λ k d l. let w : IsPast j os (get_or ps k d) = h.past k d l in record { ordered = w.ordered; ends = omega (arith, w.ends); outside = w.outside };
  ordered = h.ordered;
}

laid_push : (j m : ℕ) (os ps : List (ℕ × ℕ)) → AreLaid j os ps → AreLaid (j + 1) ((j, m) ∷ os) ps
laid_push j m os ps h = record {
  falling = (omega arith, h.falling);
  past = λ k d l. let w : IsPast j os (get_or ps k d) = h.past k d l in record {
    ordered = w.ordered;
    ends = omega (arith, w.ends);
    outside = All-cons (IsOutside (get_or ps k d)) (j, m) os (inr w.ends) w.outside;
  };
  ordered = h.ordered;
}

laid_opened : (j m : ℕ) (os ps : List (ℕ × ℕ)) → AreLaid j os ps
    → AreLaid (j + 1) (elim (nat_lt (length os) bracket_room) as (λ v. List (ℕ × ℕ)) [ true ↦ (j, canonical m) ∷ os | false ↦ os ]) ps
laid_opened j m os ps h = elim (nat_lt (length os) bracket_room) as
    (λ b. AreLaid (j + 1) (elim b as (λ v. List (ℕ × ℕ)) [ true ↦ (j, canonical m) ∷ os | false ↦ os ]) ps)
    [ true ↦ laid_push j (canonical m) os ps h | false ↦ laid_later j os ps h ]

module _ (j c : ℕ) (os ps : List (ℕ × ℕ)) (h : AreLaid j os ps) where
  laid_closed : (b : Option (ℕ × ℕ)) → find (is_for c) os ≡ b → AreLaid (j + 1) (left_by b c os) (found_by b j ps)
  laid_closed None e = laid_later j os ps h
  laid_closed (Some o) e =
      let low : o.0 < j = found_below (is_for c) j os o h.falling e in
      let left : List (ℕ × ℕ) = below_first (is_for c) os in
      let f : IsFalling o.0 left = falling_below (is_for c) j os o h.falling e in
      let before : All (IsBefore o.0) left = falling_all o.0 left f in
      let clear : All (IsClear o.0 j) ps = λ k d l.
      let w : IsPast j os (get_or ps k d) = h.past k d l in
      record { ordered = w.ordered; ends = w.ends; apart = of_found (IsOutside (get_or ps k d)) (is_for c) os o w.outside e } in
      let old : All (IsPast (j + 1) left) ps = λ k d l.
      let w : IsPast j os (get_or ps k d) = h.past k d l in
      record { ordered = w.ordered; ends = omega (arith, w.ends); outside = all_below (IsOutside (get_or ps k d)) (is_for c) os w.outside } in
      let own : IsPast (j + 1) left (o.0, j) = record { ordered = low; ends = omega arith; outside = λ k d l. inl (before k d l) } in
      record {
        falling = falling_later o.0 (j + 1) left (omega arith) f;
        past = all_insert (IsPast (j + 1) left) (o.0, j) ps own old;
        ordered = insert_ordered o.0 j ps clear h.ordered;
      }

turn_laid : (j c : ℕ) (b : Option (Side × ℕ)) (p : Progress) → AreLaid j p.openers p.pairs → AreLaid (j + 1) (turn j c b p).openers (turn j c b p).pairs
turn_laid j c None p h = laid_later j p.openers p.pairs h
turn_laid j c (Some (Opener, m)) p h = laid_opened j m p.openers p.pairs h
turn_laid j c (Some (Closer, m)) p h = laid_closed j (canonical c) p.openers p.pairs h (find (is_for (canonical c)) p.openers) refl

after_laid : (j c : ℕ) (b : Option (Side × ℕ)) (p : Progress) → AreLaid j p.openers p.pairs → AreLaid (j + 1) (after j c b p).openers (after j c b p).pairs
after_laid j c b p h = elim p.is_over as
    (λ x. AreLaid (j + 1) (elim x as (λ v. Progress) [ true ↦ p | false ↦ turn j c b p ]).openers
    (elim x as (λ v. Progress) [ true ↦ p | false ↦ turn j c b p ]).pairs) [ true ↦ laid_later j p.openers p.pairs h | false ↦ turn_laid j c b p h ]

-- ---- all of them

all_pairs : (R : ℕ × ℕ → ℕ × ℕ → Type 0) → ((p q : ℕ × ℕ) → IsOuter p q → R p q) → (ps : List (ℕ × ℕ)) → AreOrdered ps → AllPairs R ps
all_pairs R f [] h = λ i j d l m. absurd (omega arith)
all_pairs R f (p ∷ ps) h = AllPairs-cons R p ps (λ k d l. f p (get_or ps k d) (h.0 k d l)) (all_pairs R f ps h.1)

uncross : (p q : ℕ × ℕ) → p.0 < q.0 → (q.1 < p.1) ⊎ (p.1 < q.0) → AreUncrossed p q
uncross p q less (inl l) = inl (less, l)
uncross p q less (inr r) = inr r

nested : (j : ℕ) (os ps : List (ℕ × ℕ)) → AreLaid j os ps → AreNested ps
nested j os ps h = record {
  open_first = λ k d l. (h.past k d l).ordered;
  rise = all_pairs (λ p q. p.0 < q.0) (λ p q o. o.0) ps h.ordered;
  uncrossed = all_pairs AreUncrossed (λ p q o. uncross p q o.0 o.1) ps h.ordered;
}

nested_after : (ucd : Data) (p : Progress) (j : ℕ) (cs : List ℕ) (ts : List Class) → AreLaid j p.openers p.pairs
    → AreNested (pairs_after ucd p j cs ts)
nested_after ucd p j [] ts h = nested j p.openers p.pairs h
nested_after ucd p j (c ∷ cs) [] h = nested j p.openers p.pairs h
nested_after ucd p j (c ∷ cs) (t ∷ ts) h =
    let b : Option (Side × ℕ) = bracket_at ucd c t in
    nested_after ucd (after j c b p) (j + 1) cs ts (after_laid j c b p h)

pub pairs_are_nested : PairsAreNested
pairs_are_nested ucd cs ts =
    let first : AreLaid 0 [] [] = record { falling = tt; past = All-nil (IsPast 0 []); ordered = tt } in
    subst AreNested (all_found ucd cs ts) (nested_after ucd (progress [] [] false) 0 cs ts first)
