-- The pairs by a list of closers, and the openers that have none.
use Rattle.std.proofs.Common.{◌≡◌, ◌≢◌, ◌<◌, ◌≤◌, ◌+◌, ◌∙◌, ℕ, zero, suc, List, []}
use Rattle.std.proofs.Common.{◌∷◌, length, get_or, set, replicate, refl, ap, sym, subst, arith, cond}
use Rattle.std.proofs.Common.{Option, Some, None, Bool, true, false, inl, inr}
use Rattle.std.specs.Prelude.{All, IfSome, find, nat_lt}
use Rattle.std.proofs.lemmas.Bool.Decides.{nat_tests}
use Rattle.std.proofs.lemmas.List.{get_or-set_other, length-replicate}
use Rattle.std.proofs.lemmas.List.Elements.{All-nil, All-cons, All-set}
use Rattle.std.proofs.Math.ListN.{length-set}
use Rattle.bx_ucd.specs.declared.data.Side.{Side}
use Rattle.bx_ucd.specs.declared.data.Side.TheVariants.{Opener, Closer}
use Rattle.bx_levels.specs.brackets.Pairs.{insert_pair}
use Rattle.bx_levels.specs.brackets.Search.{below_first, is_for, index_of, left_by, IsFalling, pairs_in}
use Rattle.bx_levels.specs.brackets.Search.{with_closer, found_by, turn, Progress, IsUnclosed, AreUnclosed, IsSearched}
use Rattle.bx_levels.proofs.brackets_lemmas.Stack.{found_below, falling_later, falling_below}
use Rattle.bx_levels.proofs.brackets_lemmas.Insert.{insert_later}

-- one index
pub next_pair : (k c : ℕ) (cs : List ℕ) → k < c → pairs_in k (c ∷ cs) ≡ (k, c) ∷ pairs_in (k + 1) cs
next_pair k c cs h = let e : nat_lt k c ≡ true = grind (arith, nat_tests) in rw (e, pairs_in)

pub no_pair : (k c : ℕ) (cs : List ℕ) → c ≤ k → pairs_in k (c ∷ cs) ≡ pairs_in (k + 1) cs
no_pair k c cs h = let e : nat_lt k c ≡ false = grind (arith, nat_tests) in rw (e, pairs_in)

pub pairs_none : (k n : ℕ) → pairs_in k (replicate n 0) ≡ []
pairs_none k zero = refl
pairs_none k (suc n) = no_pair k 0 (replicate n 0) (omega arith) ∙ pairs_none (k + 1) n

pub pairs_empty : (k : ℕ) (cs : List ℕ) → length cs ≡ 0 → pairs_in k cs ≡ []
pairs_empty k [] e = refl
pairs_empty k (c ∷ cs) e = absurd (omega arith)

-- pairs that begin at `k` or later
abbrev BeginsFrom : ℕ → List (ℕ × ℕ) → Type 0
BeginsFrom k [] = Unit {0}
BeginsFrom k (p ∷ ps) = k ≤ p.0

begins_later : (k m : ℕ) (ps : List (ℕ × ℕ)) → k ≤ m → BeginsFrom m ps → BeginsFrom k ps
begins_later k m [] l h = tt
begins_later k m (p ∷ ps) l h = omega arith

pairs_begin : (k : ℕ) (cs : List ℕ) → BeginsFrom k (pairs_in k cs)
pairs_begin k [] = tt
pairs_begin k (c ∷ cs) = elim (nat_lt k c) as
    (λ b. BeginsFrom k (elim b as (λ v. List (ℕ × ℕ)) [ true ↦ (k, c) ∷ pairs_in (k + 1) cs | false ↦ pairs_in (k + 1) cs ])) [
      | true ↦ omega arith
      | false ↦ begins_later k (k + 1) (pairs_in (k + 1) cs) (omega arith) (pairs_begin (k + 1) cs)
    ]

insert_first : (p : ℕ × ℕ) (ps : List (ℕ × ℕ)) → BeginsFrom (p.0 + 1) ps → insert_pair p ps ≡ p ∷ ps
insert_first p [] h = refl
insert_first p (q ∷ qs) h = let e : nat_lt p.0 q.0 ≡ true = grind (arith, nat_tests) in rw (e, insert_pair)

-- to write the closer of an opener is to insert the pair
pub write_inserts : (k i o j : ℕ) (cs : List ℕ) → k + i ≡ o → i < length cs → get_or cs i 0 ≤ o → o < j
    → pairs_in k (set cs i j) ≡ insert_pair (o, j) (pairs_in k cs)
write_inserts k i o j [] e h a l = absurd (omega arith)
write_inserts k zero o j (c ∷ cs) e h a l =
    let same : k ≡ o = omega arith in
    let after : BeginsFrom (o + 1) (pairs_in (k + 1) cs) = subst (λ m. BeginsFrom (m + 1) (pairs_in (k + 1) cs)) same (pairs_begin (k + 1) cs) in
    next_pair k j cs (omega arith) ∙ ap (λ m. (m, j) ∷ pairs_in (k + 1) cs) same
    ∙ sym (ap (insert_pair (o, j)) (no_pair k c cs (omega arith)) ∙ insert_first (o, j) (pairs_in (k + 1) cs) after)
write_inserts k (suc i) o j (c ∷ cs) e h a l =
    let ih : pairs_in (k + 1) (set cs i j) ≡ insert_pair (o, j) (pairs_in (k + 1) cs) = write_inserts (k + 1) i o j cs (omega arith) (omega arith) a l in
    elim (nat_lt k c) as (λ b. elim b as (λ v. List (ℕ × ℕ)) [ true ↦ (k, c) ∷ pairs_in (k + 1) (set cs i j) | false ↦ pairs_in (k + 1) (set cs i j) ]
    ≡ insert_pair (o, j) (elim b as (λ v. List (ℕ × ℕ)) [ true ↦ (k, c) ∷ pairs_in (k + 1) cs | false ↦ pairs_in (k + 1) cs ])) [
      | true ↦ ap (λ ps. (k, c) ∷ ps) ih ∙ sym (insert_later (o, j) (k, c) (pairs_in (k + 1) cs) (omega arith))
      | false ↦ ih
    ]

-- the openers that have no closer
unclosed_below : (p : ℕ × ℕ → Bool) (cs : List ℕ) (os : List (ℕ × ℕ)) → AreUnclosed cs os → AreUnclosed cs (below_first p os)
unclosed_below p cs [] a = tt
unclosed_below p cs (o ∷ os) a = elim (p o) as (λ b. AreUnclosed cs (elim b as (λ v. List (ℕ × ℕ)) [ true ↦ os | false ↦ below_first p os ]))
    [ true ↦ a.1 | false ↦ unclosed_below p cs os a.1 ]

found_unclosed : (p : ℕ × ℕ → Bool) (cs : List ℕ) (os : List (ℕ × ℕ)) (o : ℕ × ℕ) → AreUnclosed cs os → find p os ≡ Some o → IsUnclosed cs o.0
found_unclosed p cs [] o a e = absurd (cc)
found_unclosed p cs (x ∷ os) o a e =
    let ih : find p os ≡ Some o → IsUnclosed cs o.0 = found_unclosed p cs os o a.1 in
    (elim (p x) as (λ b. cond b (Some x) (find p os) ≡ Some o → IsUnclosed cs o.0) [
      | true ↦ λ k. let q : x ≡ o = cc in subst (λ (y : ℕ × ℕ). IsUnclosed cs y.0) q a.0
      | false ↦ λ k. ih k
    ]) e

found_in : (c : ℕ) (cs : List ℕ) (os : List (ℕ × ℕ)) → AreUnclosed cs os → (b : Option (ℕ × ℕ)) → find (is_for c) os ≡ b
    → IfSome (index_of b) (λ k. k < length cs)
found_in c cs os a None e = tt
found_in c cs os a (Some o) e = (found_unclosed (is_for c) cs os o a e).inside

pub found_pair : (count next c : ℕ) (cs : List ℕ) (os : List (ℕ × ℕ)) → IsSearched count next os cs
    → IfSome (index_of (find (is_for c) os)) (λ k. k < length cs)
found_pair count next c cs os s = found_in c cs os s.unclosed (find (is_for c) os) refl

unclosed_set : (i j n : ℕ) (cs : List ℕ) (os : List (ℕ × ℕ)) → n ≤ i → IsFalling n os → AreUnclosed cs os → AreUnclosed (set cs i j) os
unclosed_set i j n cs [] h f a = tt
unclosed_set i j n cs (o ∷ os) h f a =
    let low : o.0 < n = f.0 in
    let ne : o.0 ≢ i = omega arith in
    let first : IsUnclosed cs o.0 = a.0 in
    let inside : o.0 < length (set cs i j) = omega (arith, first.inside, length-set cs i j) in
    let same : get_or (set cs i j) o.0 0 ≡ get_or cs o.0 0 = get_or-set_other cs i o.0 j 0 ne in
    let none : get_or (set cs i j) o.0 0 ≤ o.0 = omega (arith, first.none, same) in
    (record { inside = inside; none = none }, unclosed_set i j o.0 cs os (omega arith) f.1 a.1)

unclosed_none : (n : ℕ) (cs : List ℕ) (os : List (ℕ × ℕ)) → length cs ≡ 0 → AreUnclosed cs os → AreUnclosed (replicate n 0) os
unclosed_none n cs [] e a = tt
unclosed_none n cs (o ∷ os) e a = let first : IsUnclosed cs o.0 = a.0 in absurd (omega (arith, first.inside))

all_none : (P : ℕ → Type 0) (n : ℕ) → P 0 → All P (replicate n 0)
all_none P zero h = All-nil P
all_none P (suc n) h = All-cons P 0 (replicate n 0) h (all_none P n h)

-- the invariant after one more character
pub searched_later : (count i j : ℕ) (os : List (ℕ × ℕ)) (cs : List ℕ) → i ≤ j → IsSearched count i os cs → IsSearched count j os cs
searched_later count i j os cs h s = record {
  falling = falling_later i j os h s.falling;
  unclosed = s.unclosed;
  long = s.long;
  within = s.within;
  met = λ k d l. let m : get_or cs k d ≤ i = s.met k d l in omega arith;
}

pub searched_entries : (count j : ℕ) (os : List (ℕ × ℕ)) (cs : List ℕ) → j < count → length cs ≡ 0 → IsSearched count j os cs
    → IsSearched count j os (replicate count 0)
searched_entries count j os cs h e s = record {
  falling = s.falling;
  unclosed = unclosed_none count cs os e s.unclosed;
  long = inr (length-replicate count 0);
  within = all_none (λ c. c < count) count (omega arith);
  met = all_none (λ c. c ≤ j) count (omega arith);
}

module _ (count j c : ℕ) (os : List (ℕ × ℕ)) (cs : List ℕ) (h : j < count) (s : IsSearched count j os cs) where
  closed_by : (b : Option (ℕ × ℕ)) → find (is_for c) os ≡ b → IsSearched count (j + 1) (left_by b c os) (with_closer (index_of b) j cs)
  closed_by None e = searched_later count j (j + 1) os cs (omega arith) s
  closed_by (Some o) e =
      let f : IsFalling o.0 (below_first (is_for c) os) = falling_below (is_for c) j os o s.falling e in
      let low : o.0 < j = found_below (is_for c) j os o s.falling e in
      let later : IsSearched count (j + 1) os cs = searched_later count j (j + 1) os cs (omega arith) s in
      record {
        falling = falling_later o.0 (j + 1) (below_first (is_for c) os) (omega arith) f;
        unclosed = unclosed_set o.0 j o.0 cs (below_first (is_for c) os) (omega arith) f (unclosed_below (is_for c) cs os s.unclosed);
        long = elim s.long [ inl x ↦ inl (length-set cs o.0 j ∙ x) | inr x ↦ inr (length-set cs o.0 j ∙ x) ];
        within = All-set (λ x. x < count) cs o.0 j h s.within;
        met = All-set (λ x. x ≤ j + 1) cs o.0 j (omega arith) later.met;
      }

  pub searched_close : IsSearched count (j + 1) (left_by (find (is_for c) os) c os) (with_closer (index_of (find (is_for c) os)) j cs)
  searched_close = closed_by (find (is_for c) os) refl

  pairs_by : (b : Option (ℕ × ℕ)) → find (is_for c) os ≡ b → pairs_in 0 (with_closer (index_of b) j cs) ≡ found_by b j (pairs_in 0 cs)
  pairs_by None e = refl
  pairs_by (Some o) e =
      let u : IsUnclosed cs o.0 = found_unclosed (is_for c) cs os o s.unclosed e in
      write_inserts 0 o.0 o.0 j cs (omega arith) u.inside u.none (found_below (is_for c) j os o s.falling e)

  pub pairs_close : pairs_in 0 (with_closer (index_of (find (is_for c) os)) j cs) ≡ found_by (find (is_for c) os) j (pairs_in 0 cs)
  pairs_close = pairs_by (find (is_for c) os) refl

-- a turn at an opener does not ask for the character
pub opener_turn : (j c : ℕ) (b : Side × ℕ) (p : Progress) → b.0 ≡ Opener → turn j 0 (Some (Opener, b.1)) p ≡ turn j c (Some b) p
opener_turn j c (Opener, m) p e = refl
opener_turn j c (Closer, m) p e = absurd (cc)
