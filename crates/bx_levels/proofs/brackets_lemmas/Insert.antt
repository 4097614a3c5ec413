-- Pairs that are ordered by their openers.
use Rattle.std.proofs.Common.{◌≡◌, ◌<◌, ◌≤◌, ◌+◌, ◌∙◌, ℕ, zero, suc, List, [], ◌∷◌, ◌++◌, length, get_or, take, drop, refl, ap, sym, arith, true, false}
use Rattle.std.proofs.Common.{Option, Some, None}
use Rattle.std.specs.Prelude.{All, nat_lt, find}
use Rattle.std.proofs.lemmas.Bool.Decides.{nat_tests}
use Rattle.std.proofs.lemmas.List.Elements.{All-nil, All-cons, All-head, All-tail}
use Rattle.bx_levels.specs.brackets.Pairs.{insert_pair}
use Rattle.bx_levels.specs.brackets.Search.{IsPairWithin, AreSorted, AreFound, is_for, index_of, left_by, found_by, below_first}
use Rattle.bx_levels.proofs.brackets_lemmas.Stack.{found_below, falling_later, falling_below}

pub insert_later : (p q : ℕ × ℕ) (qs : List (ℕ × ℕ)) → q.0 ≤ p.0 → insert_pair p (q ∷ qs) ≡ q ∷ insert_pair p qs
insert_later p q qs h = let e : nat_lt p.0 q.0 ≡ false = grind (arith, nat_tests) in rw (e, insert_pair)

insert_before : (p q : ℕ × ℕ) (qs : List (ℕ × ℕ)) → p.0 < q.0 → insert_pair p (q ∷ qs) ≡ p ∷ q ∷ qs
insert_before p q qs h = let e : nat_lt p.0 q.0 ≡ true = grind (arith, nat_tests) in rw (e, insert_pair)

sorted_at : (m i : ℕ) (ps : List (ℕ × ℕ)) → AreSorted m ps → i < length ps → m ≤ (get_or ps i (0, 0)).0
sorted_at m i [] h l = absurd (omega arith)
sorted_at m zero (p ∷ ps) h l = h.0
sorted_at m (suc i) (p ∷ ps) h l =
    let a : p.0 ≤ (get_or ps i (0, 0)).0 = sorted_at p.0 i ps h.1 (omega arith) in
    let b : m ≤ p.0 = h.0 in
    omega arith

insert_from : (m k : ℕ) (p : ℕ × ℕ) (ps : List (ℕ × ℕ)) → AreSorted m ps → k ≤ length ps → ((i : ℕ) → i < k → (get_or ps i (0, 0)).0 ≤ p.0)
    → (k < length ps → p.0 < (get_or ps k (0, 0)).0) → insert_pair p ps ≡ take k ps ++ p ∷ drop k ps
insert_from m zero p [] s l below above = refl
insert_from m (suc k) p [] s l below above = absurd (omega arith)
insert_from m zero p (q ∷ qs) s l below above = insert_before p q qs (above (omega arith))
insert_from m (suc k) p (q ∷ qs) s l below above = insert_later p q qs (below 0 (omega arith))
    ∙ ap (λ xs. q ∷ xs) (insert_from q.0 k p qs s.1 (omega arith) (λ i h. below (suc i) (omega arith)) (λ h. above (omega arith)))

all_below : (m k n : ℕ) (ps : List (ℕ × ℕ)) → AreSorted m ps → k < length ps → (get_or ps k (0, 0)).0 ≤ n → (i : ℕ) → i ≤ k → (get_or ps i (0, 0)).0 ≤ n
all_below m k n [] s l e i h = absurd (omega arith)
all_below m zero n (q ∷ qs) s l e zero h = e
all_below m zero n (q ∷ qs) s l e (suc i) h = absurd (omega arith)
all_below m (suc k) n (q ∷ qs) s l e zero h = let a : q.0 ≤ (get_or qs k (0, 0)).0 = sorted_at q.0 k qs s.1 (omega arith) in omega arith
all_below m (suc k) n (q ∷ qs) s l e (suc i) h = all_below q.0 k n qs s.1 (omega arith) e i (omega arith)

pub insert_here : (k : ℕ) (p : ℕ × ℕ) (ps : List (ℕ × ℕ)) → AreSorted 0 ps → k < length ps → (get_or ps k (0, 0)).0 ≤ p.0
    → (k + 1 < length ps → p.0 < (get_or ps (k + 1) (0, 0)).0) → insert_pair p ps ≡ take (k + 1) ps ++ p ∷ drop (k + 1) ps
insert_here k p ps s l e above = insert_from 0 (k + 1) p ps s (omega arith) (λ i h. all_below 0 k p.0 ps s l e i (omega arith)) above

pub insert_start : (p : ℕ × ℕ) (ps : List (ℕ × ℕ)) → AreSorted 0 ps → (0 < length ps → p.0 < (get_or ps 0 (0, 0)).0) → insert_pair p ps ≡ p ∷ ps
insert_start p ps s above = insert_from 0 0 p ps s (omega arith) (λ i h. absurd (omega arith)) above

pub sorted_insert : (m : ℕ) (p : ℕ × ℕ) (ps : List (ℕ × ℕ)) → m ≤ p.0 → AreSorted m ps → AreSorted m (insert_pair p ps)
sorted_insert m p [] h s = (h, tt)
sorted_insert m p (q ∷ qs) h s =
    (elim (nat_lt p.0 q.0) as (λ b. nat_lt p.0 q.0 ≡ b → AreSorted m (elim b as (λ v. List (ℕ × ℕ)) [ true ↦ p ∷ q ∷ qs | false ↦ q ∷ insert_pair p qs ])) [
      | true ↦ λ e. let l : p.0 ≤ q.0 = grind (arith, nat_tests) in (h, (l, s.1))
      | false ↦ λ e. let l : q.0 ≤ p.0 = grind (arith, nat_tests) in (s.0, sorted_insert q.0 p qs l s.1)
    ]) refl

pub within_insert : (n : ℕ) (p : ℕ × ℕ) (ps : List (ℕ × ℕ)) → IsPairWithin n p → All (IsPairWithin n) ps → All (IsPairWithin n) (insert_pair p ps)
within_insert n p [] h a = All-cons (IsPairWithin n) p [] h (All-nil (IsPairWithin n))
within_insert n p (q ∷ qs) h a = elim (nat_lt p.0 q.0) as
    (λ b. All (IsPairWithin n) (elim b as (λ v. List (ℕ × ℕ)) [ true ↦ p ∷ q ∷ qs | false ↦ q ∷ insert_pair p qs ])) [
      | true ↦ All-cons (IsPairWithin n) p (q ∷ qs) h a
      | false ↦ All-cons (IsPairWithin n) q (insert_pair p qs) (All-head (IsPairWithin n) q qs a)
          (within_insert n p qs h (All-tail (IsPairWithin n) q qs a))
    ]

pub within_later : (m n : ℕ) (ps : List (ℕ × ℕ)) → m ≤ n → All (IsPairWithin m) ps → All (IsPairWithin n) ps
within_later m n ps h a = λ k d l. let w : IsPairWithin m (get_or ps k d) = a k d l in record { ordered = w.ordered; ends = omega (arith, w.ends) }

pub found_later : (j : ℕ) (os ps : List (ℕ × ℕ)) → AreFound j os ps → AreFound (j + 1) os ps
found_later j os ps f = record {
  falling = falling_later j (j + 1) os (omega arith) f.falling;
  sorted = f.sorted;
  within = within_later j (j + 1) ps (omega arith) f.within;
}

pub found_push : (j c : ℕ) (os ps : List (ℕ × ℕ)) → AreFound j os ps → AreFound (j + 1) ((j, c) ∷ os) ps
found_push j c os ps f = record { falling = (omega arith, f.falling); sorted = f.sorted; within = within_later j (j + 1) ps (omega arith) f.within }

module _ (j c : ℕ) (os ps : List (ℕ × ℕ)) (f : AreFound j os ps) where
  close_by : (b : Option (ℕ × ℕ)) → find (is_for c) os ≡ b → AreFound (j + 1) (left_by b c os) (found_by b j ps)
  close_by None e = found_later j os ps f
  close_by (Some o) e =
      let low : o.0 < j = found_below (is_for c) j os o f.falling e in
      record {
        falling = falling_later o.0 (j + 1) (below_first (is_for c) os) (omega arith) (falling_below (is_for c) j os o f.falling e);
        sorted = sorted_insert 0 (o.0, j) ps (omega arith) f.sorted;
        within = within_insert (j + 1) (o.0, j) ps (record { ordered = low; ends = omega arith }) (within_later j (j + 1) ps (omega arith) f.within);
      }

  pub found_close : AreFound (j + 1) (left_by (find (is_for c) os) c os) (found_by (find (is_for c) os) j ps)
  found_close = close_by (find (is_for c) os) refl

found_none : (j : ℕ) (ps : List (ℕ × ℕ)) (b : Option (ℕ × ℕ)) → None ≡ index_of b → found_by b j ps ≡ ps
found_none j ps None e = refl
found_none j ps (Some o) e = absurd (cc)

found_some : (j k : ℕ) (ps : List (ℕ × ℕ)) (b : Option (ℕ × ℕ)) → Some k ≡ index_of b → found_by b j ps ≡ insert_pair (k, j) ps
found_some j k ps None e = absurd (cc)
found_some j k ps (Some o) e = let same : o.0 ≡ k = cc in ap (λ n. insert_pair (n, j) ps) same

module _ (j c : ℕ) (os ps new_os : List (ℕ × ℕ)) (f : AreFound j os ps) (l : new_os ≡ left_by (find (is_for c) os) c os) where
  close_is : (new_ps : List (ℕ × ℕ)) → found_by (find (is_for c) os) j ps ≡ new_ps → AreFound (j + 1) new_os new_ps
  close_is new_ps e = rw (l, ← e) (found_close j c os ps f)

  pub close_none : None ≡ index_of (find (is_for c) os) → AreFound (j + 1) new_os ps
  close_none e = close_is ps (found_none j ps (find (is_for c) os) e)

  pub close_some : (k : ℕ) (new_ps : List (ℕ × ℕ)) → Some k ≡ index_of (find (is_for c) os) → new_ps ≡ insert_pair (k, j) ps → AreFound (j + 1) new_os new_ps
  close_some k new_ps e n = close_is new_ps (found_some j k ps (find (is_for c) os) e ∙ sym n)
