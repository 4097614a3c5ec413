-- The indexes of pairs are at brackets, so not at a strong type, nor in a part without brackets.
use Rattle.std.proofs.Common.{◌≡◌, ◌<◌, ◌≤◌, ◌+◌, ◌∙◌, ◌⊎◌, inl, inr, ℕ, suc, List, [], ◌∷◌, ◌++◌, length, map, refl, ap, ap₂, sym, subst, arith, Bool}
use Rattle.std.proofs.Common.{true, false, cond, Option, Some, None, length-append}
use Rattle.std.specs.Prelude.{◌==◌, nat_lt, filter, find}
use Rattle.bx_ucd.specs.Data.{Data}
use Rattle.bx_ucd.specs.declared.class.Class.{Class}
use Rattle.bx_ucd.specs.declared.data.Side.{Side}
use Rattle.bx_ucd.specs.declared.data.Side.TheVariants.{Opener, Closer}
use Rattle.bx_levels.specs.brackets.Pairs.{Search, insert_pair, is_open, open_openers, bracket_room, meet, canonical, bracket_at, search_from, pairs}
use Rattle.bx_levels.specs.brackets.Pairs.{is_on}
use Rattle.bx_levels.proofs.resolve_lemmas.PlainPairs.{AreInside, pairs_inside}
use Rattle.bx_levels.proofs.resolve_lemmas.MovedPairs.{HasNoBracket, shift, shift_below, shift_from, moved_pair}
use Rattle.bx_levels.proofs.resolve_lemmas.MiddlePairs.{IsOutside, AreApart}

-- a property of the indexes of openers and of pairs
abbrev pub OpenersAt : (ℕ → Type 0) → List (ℕ × ℕ) → Type 0
OpenersAt P [] = Unit {0}
OpenersAt P (o ∷ os) = P o.0 × OpenersAt P os

abbrev pub PairsAt : (ℕ → Type 0) → List (ℕ × ℕ) → Type 0
PairsAt P [] = Unit {0}
PairsAt P (p ∷ ps) = P p.0 × P p.1 × PairsAt P ps

pub record SearchAt (P : ℕ → Type 0) (s : Search) : Type 0 where
  pub openers_at : OpenersAt P s.openers
  pub pairs_at : PairsAt P s.pairs

-- it holds at each bracket from index `j` on
abbrev pub BracketsAt : Data → (ℕ → Type 0) → ℕ → List ℕ → List Class → Type 0
BracketsAt ucd P j [] ts = Unit {0}
BracketsAt ucd P j (c ∷ cs) [] = Unit {0}
BracketsAt ucd P j (c ∷ cs) (t ∷ ts) = ((bracket_at ucd c t ≡ None) ⊎ P j) × BracketsAt ucd P (j + 1) cs ts

module _ (P : ℕ → Type 0) where
  filter_at : (test : ℕ × ℕ → Bool) (os : List (ℕ × ℕ)) → OpenersAt P os → OpenersAt P (filter test os)
  filter_at test [] h = tt
  filter_at test (o ∷ os) h = elim (test o) as (λ b. OpenersAt P (cond b (o ∷ filter test os) (filter test os))) [
    | true ↦ (h.0, filter_at test os h.1)
    | false ↦ filter_at test os h.1
  ]

  found_at : (test : ℕ × ℕ → Bool) (os : List (ℕ × ℕ)) (o : ℕ × ℕ) → OpenersAt P os → find test os ≡ Some o → P o.0
  found_at test [] o h e = absurd (cc)
  found_at test (x ∷ xs) o h e = (elim (test x) as (λ b. cond b (Some x) (find test xs) ≡ Some o → P o.0) [
    | true ↦ λ k. let same : x ≡ o = cc in subst (λ (z : ℕ × ℕ). P z.0) same h.0
    | false ↦ λ k. found_at test xs o h.1 k
  ]) e

  insert_at : (p : ℕ × ℕ) (ps : List (ℕ × ℕ)) → P p.0 → P p.1 → PairsAt P ps → PairsAt P (insert_pair p ps)
  insert_at p [] a b h = (a, b, tt)
  insert_at p (q ∷ qs) a b h = elim (nat_lt p.0 q.0) as
      (λ v. PairsAt P (elim v as (λ x. List (ℕ × ℕ)) [ true ↦ p ∷ q ∷ qs | false ↦ q ∷ insert_pair p qs ])) [
        | true ↦ (a, b, h)
        | false ↦ (h.0, h.1, insert_at p qs a b h.2)
      ]

  closer_at : (j c : ℕ) (s : Search) (b : Option (ℕ × ℕ)) → find (λ (o : ℕ × ℕ). o.1 == canonical c) (open_openers s) ≡ b → P j → SearchAt P s
      → SearchAt P (elim b as (λ x. Search) [ None ↦ s | Some o ↦ record s { pairs = insert_pair (o.0, j) s.pairs } ])
  closer_at j c s None e p h = h
  closer_at j c s (Some o) e p h = record {
    openers_at = h.openers_at;
    pairs_at = insert_at (o.0, j) s.pairs
        (found_at (λ (x : ℕ × ℕ). x.1 == canonical c) (open_openers s) o (filter_at (is_open s.pairs) s.openers h.openers_at) e) p h.pairs_at;
  }

  meet_at : (j c : ℕ) (s : Search) (b : Option (Side × ℕ)) → (b ≡ None) ⊎ P j → SearchAt P s → SearchAt P (meet s j c b)
  meet_at j c s None p h = h
  meet_at j c s (Some (Opener, m)) (inl e) h = absurd (cc)
  meet_at j c s (Some (Closer, m)) (inl e) h = absurd (cc)
  meet_at j c s (Some (Opener, m)) (inr p) h = elim (nat_lt (length (open_openers s)) bracket_room) as
      (λ b. SearchAt P (elim b as (λ x. Search) [ true ↦ record s { openers = (j, canonical m) ∷ s.openers } | false ↦ record s { is_over = true } ])) [
        | true ↦ record { openers_at = (p, h.openers_at); pairs_at = h.pairs_at }
        | false ↦ record { openers_at = h.openers_at; pairs_at = h.pairs_at }
      ]
  meet_at j c s (Some (Closer, m)) (inr p) h = closer_at j c s (find (λ (o : ℕ × ℕ). o.1 == canonical c) (open_openers s)) refl p h

  search_at : (ucd : Data) (s : Search) (j : ℕ) (cs : List ℕ) (ts : List Class) → BracketsAt ucd P j cs ts → SearchAt P s
      → SearchAt P (search_from ucd s j cs ts)
  search_at ucd s j [] ts b h = h
  search_at ucd s j (c ∷ cs) [] b h = h
  search_at ucd s j (c ∷ cs) (t ∷ ts) b h =
      let u : Search = meet s j c (bracket_at ucd c t) in
      elim (s.is_over) as (λ v. SearchAt P (elim v as (λ x. Search) [ true ↦ s | false ↦ search_from ucd u (j + 1) cs ts ])) [
        | true ↦ h
        | false ↦ search_at ucd u (j + 1) cs ts b.1 (meet_at j c s (bracket_at ucd c t) b.0 h)
      ]

  pub pairs_at : (ucd : Data) (cs : List ℕ) (ts : List Class) → BracketsAt ucd P 0 cs ts → PairsAt P (pairs ucd cs ts)
  pairs_at ucd cs ts b =
      let r : SearchAt P (search_from ucd (record { openers = []; pairs = []; is_over = false }) 0 cs ts) =
      search_at ucd (record { openers = []; pairs = []; is_over = false }) 0 cs ts b (record { openers_at = tt; pairs_at = tt }) in
      r.pairs_at

  none_at : (ucd : Data) (j : ℕ) (cs : List ℕ) (ts : List Class) → HasNoBracket ucd cs ts → BracketsAt ucd P j cs ts
  none_at ucd j [] ts h = tt
  none_at ucd j (c ∷ cs) [] h = tt
  none_at ucd j (c ∷ cs) (t ∷ ts) h = (inl h.0, none_at ucd (j + 1) cs ts h.1)

  all_at : (ucd : Data) (j : ℕ) (cs : List ℕ) (ts : List Class) → ((k : ℕ) → j ≤ k → k < j + length ts → P k)
      → BracketsAt ucd P j cs ts
  all_at ucd j [] ts h = tt
  all_at ucd j (c ∷ cs) [] h = tt
  all_at ucd j (c ∷ cs) (t ∷ ts) h =
      let rest : (k : ℕ) → j + 1 ≤ k → k < j + 1 + length ts → P k = λ k l m. h k (omega arith) (omega arith) in
      (inr (h j (omega arith) (omega arith)), all_at ucd (j + 1) cs ts rest)

  more_at : (ucd : Data) (j : ℕ) (cs ds : List ℕ) (ts us : List Class) → length cs ≡ length ts → BracketsAt ucd P j cs ts
      → BracketsAt ucd P (j + length ts) ds us → BracketsAt ucd P j (cs ++ ds) (ts ++ us)
  more_at ucd j [] ds [] us e a b = let z : j + 0 ≡ j = omega arith in subst (λ i. BracketsAt ucd P i ds us) z b
  more_at ucd j [] ds (t ∷ ts) us e a b = absurd (omega arith)
  more_at ucd j (c ∷ cs) ds [] us e a b = absurd (omega arith)
  more_at ucd j (c ∷ cs) ds (t ∷ ts) us e a b =
      let z : j + suc (length ts) ≡ j + 1 + length ts = omega arith in
      (a.0, more_at ucd (j + 1) cs ds ts us (omega arith) a.1 (subst (λ i. BracketsAt ucd P i ds us) z b))

pub no_bracket : (ucd : Data) (c : ℕ) (t : Class) → is_on t ≡ false → bracket_at ucd c t ≡ None
no_bracket ucd c t e = ap (λ b. elim b as (λ x. Option (Side × ℕ)) [ true ↦ ucd.bracket c | false ↦ None ]) e

-- no pair reaches over the middle, or one that does takes the same direction
abbrev pub Uncrossed : Data → List ℕ → List Class → List ℕ → List Class → Type 0 → Type 0
Uncrossed ucd cf front cb back same = same ⊎ (HasNoBracket ucd cf front ⊎ HasNoBracket ucd cb back)

-- the places of the brackets of a list with two types in its middle that are none
module _ (ucd : Data) (cf : List ℕ) (cx cy : ℕ) (cb : List ℕ) (front : List Class) (x y : Class) (back : List Class)
    (cf_is : length cf ≡ length front) (cb_is : length cb ≡ length back) (x_is : is_on x ≡ false) (y_is : is_on y ≡ false) where
  middle_at : (P : ℕ → Type 0) → BracketsAt ucd P 0 cf front → BracketsAt ucd P (length front + 2) cb back
      → BracketsAt ucd P 0 (cf ++ cx ∷ cy ∷ cb) (front ++ x ∷ y ∷ back)
  middle_at P a b =
      let z : length front + 2 ≡ 0 + length front + 1 + 1 = omega arith in
      more_at P ucd 0 cf (cx ∷ cy ∷ cb) front (x ∷ y ∷ back) cf_is a
      (inl (no_bracket ucd cx x x_is), (inl (no_bracket ucd cy y y_is), subst (λ i. BracketsAt ucd P i cb back) z b))

  apart : (same : Type 0) (P : ℕ → Type 0) → ((j : ℕ) → P j → IsOutside (length front) 2 j)
      → ((p q : ℕ) → P p → P q → p < length front → length front + 2 ≤ q → same)
      → (ps : List (ℕ × ℕ)) → PairsAt P ps → AreInside (length front + (2 + length back)) ps → AreApart (length front) 2 (length back) same ps
  apart same P out cross [] a i = tt
  apart same P out cross (p ∷ ps) a i = (
    record {
      ordered = i.0;
      ends = i.1;
      opener = out p.0 a.0;
      closer = out p.1 a.1;
      crossing = cross p.0 p.1 a.0 a.1;
    },
    apart same P out cross ps a.2 i.2,
  )

  inside : AreInside (length front + (2 + length back)) (pairs ucd (cf ++ cx ∷ cy ∷ cb) (front ++ x ∷ y ∷ back))
  inside =
      let l : length (front ++ x ∷ y ∷ back) ≡ length front + (2 + length back) = length-append front (x ∷ y ∷ back) ∙ omega arith in
      subst (λ n. AreInside n (pairs ucd (cf ++ cx ∷ cy ∷ cb) (front ++ x ∷ y ∷ back))) l
      (pairs_inside ucd (cf ++ cx ∷ cy ∷ cb) (front ++ x ∷ y ∷ back))

  pub pairs_apart : (same : Type 0) → Uncrossed ucd cf front cb back same
      → AreApart (length front) 2 (length back) same (pairs ucd (cf ++ cx ∷ cy ∷ cb) (front ++ x ∷ y ∷ back))
  pairs_apart same (inl s) =
      let P : ℕ → Type 0 = IsOutside (length front) 2 in
      apart same P (λ j h. h) (λ p q a b u v. s) (pairs ucd (cf ++ cx ∷ cy ∷ cb) (front ++ x ∷ y ∷ back))
      (pairs_at P ucd (cf ++ cx ∷ cy ∷ cb) (front ++ x ∷ y ∷ back)
      (middle_at P (all_at P ucd 0 cf front (λ k l m. inl (omega arith))) (all_at P ucd (length front + 2) cb back (λ k l m. inr l)))) inside
  pairs_apart same (inr (inl none)) =
      let P : ℕ → Type 0 = λ j. length front + 2 ≤ j in
      apart same P (λ j h. inr h) (λ p q a b u v. absurd (omega arith)) (pairs ucd (cf ++ cx ∷ cy ∷ cb) (front ++ x ∷ y ∷ back))
      (pairs_at P ucd (cf ++ cx ∷ cy ∷ cb) (front ++ x ∷ y ∷ back)
      (middle_at P (none_at P ucd 0 cf front none) (all_at P ucd (length front + 2) cb back (λ k l m. l)))) inside
  pairs_apart same (inr (inr none)) =
      let P : ℕ → Type 0 = λ j. j < length front in
      apart same P (λ j h. inl h) (λ p q a b u v. absurd (omega arith)) (pairs ucd (cf ++ cx ∷ cy ∷ cb) (front ++ x ∷ y ∷ back))
      (pairs_at P ucd (cf ++ cx ∷ cy ∷ cb) (front ++ x ∷ y ∷ back)
      (middle_at P (all_at P ucd 0 cf front (λ k l m. omega arith)) (none_at P ucd (length front + 2) cb back none))) inside

-- shifted from the first of the two types or from after both, a pair outside them gets the same indexes
outside_moved : (n m j : ℕ) → IsOutside n 2 j → shift (n + 1) m j ≡ shift (n + 2) m j
outside_moved n m j (inl h) = shift_below (n + 1) m j (omega arith) ∙ sym (shift_below (n + 2) m j (omega arith))
outside_moved n m j (inr h) = shift_from (n + 1) m j (omega arith) ∙ sym (shift_from (n + 2) m j h)

pub apart_moved : (n m l : ℕ) (same : Type 0) (ps : List (ℕ × ℕ)) → AreApart n 2 l same ps
    → map (moved_pair (shift (n + 1) m)) ps ≡ map (moved_pair (shift (n + 2) m)) ps
apart_moved n m l same [] h = refl
apart_moved n m l same (p ∷ ps) h =
    ap₂ (λ q r. q ∷ r) (ap₂ (λ a b. (a, b)) (outside_moved n m p.0 h.0.opener) (outside_moved n m p.1 h.0.closer)) (apart_moved n m l same ps h.1)
