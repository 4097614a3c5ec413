-- A pair of neighbours is found, and stays.
use Rattle.std.proofs.Common.{◌≡◌, ◌<◌, ◌≤◌, ◌+◌, ◌∙◌, ℕ, zero, suc, List, [], ◌∷◌, ◌++◌, length, refl, ap, sym, subst, arith, Bool, true, false, Option, Some, None}
use Rattle.std.specs.Prelude.{Contains, nat_lt, not, find, ◌==◌}
use Rattle.std.proofs.lemmas.Bool.Decides.{nat_tests}
use Rattle.bx_ucd.specs.Data.{Data}
use Rattle.bx_ucd.specs.declared.class.Class.{Class}
use Rattle.bx_ucd.specs.declared.class.Class.TheVariants.{ON}
use Rattle.bx_ucd.specs.declared.data.Side.{Side}
use Rattle.bx_ucd.specs.declared.data.Side.TheVariants.{Opener, Closer}
use Rattle.bx_levels.specs.brackets.Pairs.{bracket_room, canonical, bracket_at, insert_pair}
use Rattle.bx_levels.specs.brackets.Search.{below_first, is_for, left_by, Progress, progress, turn, after, pairs_after, found_by, opened}
use Rattle.bx_levels.specs.brackets.Laws.{NeighboursArePaired}
use Rattle.bx_levels.proofs.brackets_lemmas.Stack.{all_found}

-- ---- found pairs stay

in_tail : (p x : ℕ × ℕ) (ps : List (ℕ × ℕ)) → Contains ps x → Contains (p ∷ ps) x
in_tail p x ps h = let l : h.0 < length ps = h.1 in (suc h.0, omega arith, h.2)

insert_has : (p : ℕ × ℕ) (ps : List (ℕ × ℕ)) → Contains (insert_pair p ps) p
insert_has p [] = (0, omega arith, refl)
insert_has p (q ∷ qs) = elim (nat_lt p.0 q.0) as
    (λ b. Contains (elim b as (λ v. List (ℕ × ℕ)) [ true ↦ p ∷ q ∷ qs | false ↦ q ∷ insert_pair p qs ]) p)
    [ true ↦ (0, omega arith, refl) | false ↦ in_tail q p (insert_pair p qs) (insert_has p qs) ]

behind_first : (P : Type 0) (x q : ℕ × ℕ) (qs : List (ℕ × ℕ)) → Contains (q ∷ qs) x → (q ≡ x → P) → (Contains qs x → P) → P
behind_first P x q qs (zero, l, e) first later = first e
behind_first P x q qs (suc k, l, e) first later = later (k, omega arith, e)

insert_keeps : (p x : ℕ × ℕ) (ps : List (ℕ × ℕ)) → Contains ps x → Contains (insert_pair p ps) x
insert_keeps p x [] h = let l : h.0 < 0 = h.1 in absurd (omega arith)
insert_keeps p x (q ∷ qs) h = elim (nat_lt p.0 q.0) as
    (λ b. Contains (elim b as (λ v. List (ℕ × ℕ)) [ true ↦ p ∷ q ∷ qs | false ↦ q ∷ insert_pair p qs ]) x) [
      | true ↦ in_tail p x (q ∷ qs) h
      | false ↦ behind_first (Contains (q ∷ insert_pair p qs) x) x q qs h (λ e. (0, omega arith, e))
          (λ k. in_tail q x (insert_pair p qs) (insert_keeps p x qs k))
    ]

found_keeps : (o : Option (ℕ × ℕ)) (j : ℕ) (ps : List (ℕ × ℕ)) (x : ℕ × ℕ) → Contains ps x → Contains (found_by o j ps) x
found_keeps None j ps x h = h
found_keeps (Some o) j ps x h = insert_keeps (o.0, j) x ps h

turn_keeps : (j c : ℕ) (b : Option (Side × ℕ)) (p : Progress) (x : ℕ × ℕ) → Contains p.pairs x → Contains (turn j c b p).pairs x
turn_keeps j c None p x h = h
turn_keeps j c (Some (Opener, m)) p x h = h
turn_keeps j c (Some (Closer, m)) p x h = found_keeps (find (is_for (canonical c)) p.openers) j p.pairs x h

after_keeps : (j c : ℕ) (b : Option (Side × ℕ)) (p : Progress) (x : ℕ × ℕ) → Contains p.pairs x → Contains (after j c b p).pairs x
after_keeps j c b p x h = elim p.is_over as (λ v. Contains (elim v as (λ w. Progress) [ true ↦ p | false ↦ turn j c b p ]).pairs x)
    [ true ↦ h | false ↦ turn_keeps j c b p x h ]

search_keeps : (ucd : Data) (p : Progress) (j : ℕ) (cs : List ℕ) (ts : List Class) (x : ℕ × ℕ) → Contains p.pairs x
    → Contains (pairs_after ucd p j cs ts) x
search_keeps ucd p j [] ts x h = h
search_keeps ucd p j (c ∷ cs) [] x h = h
search_keeps ucd p j (c ∷ cs) (t ∷ ts) x h =
    let b : Option (Side × ℕ) = bracket_at ucd c t in
    search_keeps ucd (after j c b p) (j + 1) cs ts x (after_keeps j c b p x h)

-- ---- the stack has room if few characters come before

record IsRoomy (j : ℕ) (p : Progress) : Type 0 where
  few : length p.openers ≤ j
  goes_on : p.is_over ≡ false

below_few : (f : ℕ × ℕ → Bool) (os : List (ℕ × ℕ)) → length (below_first f os) ≤ length os
below_few f [] = omega arith
below_few f (o ∷ os) =
    let ih : length (below_first f os) ≤ length os = below_few f os in
    elim (f o) as (λ b. length (elim b as (λ v. List (ℕ × ℕ)) [ true ↦ os | false ↦ below_first f os ]) ≤ suc (length os))
    [ true ↦ omega arith | false ↦ omega arith ]

left_few : (o : Option (ℕ × ℕ)) (c : ℕ) (os : List (ℕ × ℕ)) → length (left_by o c os) ≤ length os
left_few None c os = omega arith
left_few (Some o) c os = below_few (is_for c) os

opened_few : (j m : ℕ) (os : List (ℕ × ℕ)) → length (opened j m os) ≤ length os + 1
opened_few j m os = elim (nat_lt (length os) bracket_room) as
    (λ b. length (elim b as (λ v. List (ℕ × ℕ)) [ true ↦ (j, canonical m) ∷ os | false ↦ os ]) ≤ length os + 1)
    [ true ↦ omega arith | false ↦ omega arith ]

has_room : (os : List (ℕ × ℕ)) (j : ℕ) → length os ≤ j → j < bracket_room → nat_lt (length os) bracket_room ≡ true
has_room os j f l = grind (arith, nat_tests)

turn_roomy : (j c : ℕ) (b : Option (Side × ℕ)) (p : Progress) → j < bracket_room → IsRoomy j p → IsRoomy (j + 1) (turn j c b p)
turn_roomy j c None p l h = let f : length p.openers ≤ j = h.few in record { few = omega arith; goes_on = h.goes_on }
turn_roomy j c (Some (Opener, m)) p l h =
    let f : length p.openers ≤ j = h.few in
    let g : length (opened j m p.openers) ≤ length p.openers + 1 = opened_few j m p.openers in
    record { few = omega arith; goes_on = ap not (has_room p.openers j f l) }
turn_roomy j c (Some (Closer, m)) p l h =
    let f : length p.openers ≤ j = h.few in
    let o : Option (ℕ × ℕ) = find (is_for (canonical c)) p.openers in
    let g : length (left_by o (canonical c) p.openers) ≤ length p.openers = left_few o (canonical c) p.openers in
    record { few = omega arith; goes_on = h.goes_on }

after_is : (j c : ℕ) (b : Option (Side × ℕ)) (p : Progress) → p.is_over ≡ false → after j c b p ≡ turn j c b p
after_is j c b p e = ap (λ v. elim v as (λ w. Progress) [ true ↦ p | false ↦ turn j c b p ]) e

-- ---- neighbours

-- the openers after an opener, if the stack has room
opened_is : (j o m : ℕ) (p : Progress) → j < bracket_room → IsRoomy j p
    → turn j o (Some (Opener, m)) p ≡ progress ((j, canonical m) ∷ p.openers) p.pairs false
opened_is j o m p l h = ap (λ b. progress (elim b as (λ v. List (ℕ × ℕ)) [ true ↦ (j, canonical m) ∷ p.openers | false ↦ p.openers ]) p.pairs (not b))
    (has_room p.openers j h.few l)

meets_first : (j m c : ℕ) (os : List (ℕ × ℕ)) → canonical m ≡ canonical c → find (is_for (canonical c)) ((j, canonical m) ∷ os) ≡ Some (j, canonical m)
meets_first j m c os e = let same : (canonical m == canonical c) ≡ true = grind (arith, nat_tests) in rw same

paired : (j o c m k : ℕ) (p : Progress) → j < bracket_room → IsRoomy j p → canonical m ≡ canonical c
    → Contains (after (j + 1) c (Some (Closer, k)) (after j o (Some (Opener, m)) p)).pairs (j, j + 1)
paired j o c m k p l h e =
    let q : Progress = progress ((j, canonical m) ∷ p.openers) p.pairs false in
    let first : after j o (Some (Opener, m)) p ≡ q = after_is j o (Some (Opener, m)) p h.goes_on ∙ opened_is j o m p l h in
    let found : (turn (j + 1) c (Some (Closer, k)) q).pairs ≡ insert_pair (j, j + 1) p.pairs =
    ap (λ x. found_by x (j + 1) p.pairs) (meets_first j m c p.openers e) in
    subst (λ x. Contains (after (j + 1) c (Some (Closer, k)) x).pairs (j, j + 1)) (sym first)
    (subst (λ ps. Contains ps (j, j + 1)) (sym found) (insert_has (j, j + 1) p.pairs))

module _ (ucd : Data) (o c m k : ℕ) (opens : ucd.bracket o ≡ Some (Opener, m)) (closes : ucd.bracket c ≡ Some (Closer, k))
    (match : canonical m ≡ canonical c) (rest : List ℕ) (ts : List Class) where
  found_from : (before : List ℕ) (us : List Class) (j n : ℕ) (p : Progress) → length us ≡ length before → n ≡ j + length before → n < bracket_room → IsRoomy j p
      → Contains (pairs_after ucd p j (before ++ o ∷ c ∷ rest) (us ++ ON ∷ ON ∷ ts)) (n, n + 1)
  found_from [] (u ∷ us) j n p e at l h = absurd (omega arith)
  found_from (d ∷ before) [] j n p e at l h = absurd (omega arith)
  found_from [] [] j n p e at l h =
      let both : Progress = after (j + 1) c (ucd.bracket c) (after j o (ucd.bracket o) p) in
      let has : Contains both.pairs (j, j + 1) = subst (λ x. Contains (after (j + 1) c x (after j o (ucd.bracket o) p)).pairs (j, j + 1)) (sym closes)
      (subst (λ x. Contains (after (j + 1) c (Some (Closer, k)) (after j o x p)).pairs (j, j + 1)) (sym opens)
      (paired j o c m k p (omega arith) h match)) in
      let same : j ≡ n = omega arith in
      subst (λ i. Contains (pairs_after ucd both (j + 1 + 1) rest ts) (i, i + 1)) same (search_keeps ucd both (j + 1 + 1) rest ts (j, j + 1) has)
  found_from (d ∷ before) (u ∷ us) j n p e at l h =
      let b : Option (Side × ℕ) = bracket_at ucd d u in
      let roomy : IsRoomy (j + 1) (after j d b p) = subst (IsRoomy (j + 1)) (sym (after_is j d b p h.goes_on)) (turn_roomy j d b p (omega arith) h) in
      found_from before us (j + 1) n (after j d b p) (omega arith) (omega arith) l roomy

pub neighbours_are_paired : NeighboursArePaired
neighbours_are_paired ucd before rest o c m k us ts e l opens closes match =
    subst (λ ps. Contains ps (length before, length before + 1)) (all_found ucd (before ++ o ∷ c ∷ rest) (us ++ ON ∷ ON ∷ ts))
    (found_from ucd o c m k opens closes match rest ts before us 0 (length before) (progress [] [] false) e (omega arith) l
    (record { few = omega arith; goes_on = refl }))
