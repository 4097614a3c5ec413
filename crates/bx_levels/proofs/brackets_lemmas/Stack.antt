-- The openers that are open, as a stack.
use Rattle.std.proofs.Common.{◌≡◌, ◌<◌, ◌≤◌, ◌+◌, ◌∙◌, ℕ, List, [], ◌∷◌, length, refl, ap}
use Rattle.std.proofs.Common.{sym, arith, Option, Some, None, Bool, true, false, cond, subst, get_or, drop}
use Rattle.std.proofs.lemmas.Bool.Decides.{nat_tests}
use Rattle.std.specs.Prelude.{filter, find, not, nat_le, nat_lt, ◌&&◌, ◌==◌, ◌||◌}
use Rattle.std.specs.List.{list_any}
use Rattle.bx_ucd.specs.Data.{Data}
use Rattle.bx_levels.specs.brackets.Search.{below_first, is_for, left_by, IsFalling, Progress, progress, turn, after, pairs_after, found_by}
use Rattle.bx_levels.specs.brackets.Pairs.{bracket_room, Search, insert_pair, is_open, open_openers, meet, meet_opener, meet_closer, canonical, bracket_at}
use Rattle.bx_levels.specs.brackets.Pairs.{search_from, pairs}
use Rattle.bx_ucd.specs.declared.class.Class.{Class}
use Rattle.bx_ucd.specs.declared.class.Class.TheVariants.{L}
use Rattle.std.proofs.lemmas.List.{at_drop_more}
use Rattle.bx_ucd.specs.declared.data.Side.{Side}
use Rattle.bx_ucd.specs.declared.data.Side.TheVariants.{Opener, Closer}

abbrev pub OpenEntry : Type 0
OpenEntry = ℕ × ℕ

-- each pair ends before `j`
abbrev pub EndsBelow : ℕ → List OpenEntry → Type 0
EndsBelow j [] = Unit {0}
EndsBelow j (p ∷ ps) = (p.1 < j) × EndsBelow j ps

pub falling_later : (i j : ℕ) (os : List OpenEntry) → i ≤ j → IsFalling i os → IsFalling j os
falling_later i j [] h f = tt
falling_later i j (o ∷ os) h f = (omega (arith, f.0), f.1)

filter_step : (f : OpenEntry → Bool) (o : OpenEntry) (os : List OpenEntry) (b : Bool) → f o ≡ b
    → filter f (o ∷ os) ≡ elim b [ true ↦ o ∷ filter f os | false ↦ filter f os ]
filter_step f o os true e = rw e
filter_step f o os false e = rw e

pub falling_filter : (f : OpenEntry → Bool) (j : ℕ) (os : List OpenEntry) → IsFalling j os → IsFalling j (filter f os)
falling_filter f j [] h = tt
falling_filter f j (o ∷ os) h = let a : IsFalling o.0 (filter f os) = falling_filter f o.0 os h.1 in let lt : o.0 < j =
    h.0 in elim (f o) as (λ b. IsFalling j (cond b (o ∷ filter f os) (filter f os)))
    [ true ↦ (lt, a) | false ↦ falling_later o.0 j (filter f os) (omega arith) a ]

-- a filter of a filter
filter_both : (f g : OpenEntry → Bool) (os : List OpenEntry) → filter (λ x. f x && g x) os ≡ filter g (filter f os)
filter_both f g [] = refl
filter_both f g (o ∷ os) = let ih : filter (λ x. f x && g x) os ≡ filter g (filter f os) = filter_both f g os in
    elim (f o) as (λ b. cond (b && g o) (o ∷ filter (λ x. f x && g x) os) (filter (λ x. f x && g x) os) ≡ filter g (cond b (o ∷ filter f os) (filter f os)))
    [ true ↦ ap (λ r. cond (g o) (o ∷ r) r) ih | false ↦ ih ]

filter_same : (f g : OpenEntry → Bool) → ((x : OpenEntry) → f x ≡ g x) → (os : List OpenEntry) → filter f os ≡ filter g os
filter_same f g h [] = refl
filter_same f g h (o ∷ os) = rw (h o) (ap (λ r. cond (g o) (o ∷ r) r) (filter_same f g h os))

not_or : (a b : Bool) → not (a || b) ≡ (not a && not b)
not_or true b = refl
not_or false b = refl

and_false : (a : Bool) → (a && false) ≡ false
and_false true = refl
and_false false = refl

or_false : (a : Bool) → (a || false) ≡ a
or_false true = refl
or_false false = refl

or_swap : (a b c : Bool) → (a || (b || c)) ≡ (b || (a || c))
or_swap true true c = refl
or_swap true false c = refl
or_swap false b c = refl

or_turn : (a b : Bool) → (a || b) ≡ (b || a)
or_turn true true = refl
or_turn true false = refl
or_turn false b = sym (or_false b)

-- an insertion changes the order alone
any_insert : (f : OpenEntry → Bool) (p : OpenEntry) (ps : List OpenEntry) → list_any f (insert_pair p ps) ≡ (f p || list_any f ps)
any_insert f p [] = refl
any_insert f p (q ∷ qs) = elim (nat_lt p.0 q.0) as
    (λ b. list_any f (elim b as (λ x. List OpenEntry) [ true ↦ p ∷ q ∷ qs | false ↦ q ∷ insert_pair p qs ]) ≡ (f p || (f q || list_any f qs))) [
      | true ↦ refl
      | false ↦ ap (λ b. f q || b) (any_insert f p qs) ∙ or_swap (f q) (f p) (list_any f qs)
    ]

-- one pair more
open_more : (ps : List OpenEntry) (p x : OpenEntry) → is_open (insert_pair p ps) x ≡ (is_open ps x && not (nat_le p.0 x.0 && nat_lt x.0 p.1))
open_more ps p x = ap not (any_insert (λ q. nat_le q.0 x.0 && nat_lt x.0 q.1) p ps
    ∙ or_turn (nat_le p.0 x.0 && nat_lt x.0 p.1) (list_any (λ q. nat_le q.0 x.0 && nat_lt x.0 q.1) ps))
    ∙ not_or (list_any (λ q. nat_le q.0 x.0 && nat_lt x.0 q.1) ps) (nat_le p.0 x.0 && nat_lt x.0 p.1)

-- not from `a` on
abbrev is_outside : ℕ → ℕ → OpenEntry → Bool
is_outside a j x = not (nat_le a x.0 && nat_lt x.0 j)

outside_below : (a j : ℕ) (x : OpenEntry) → x.0 < a → is_outside a j x ≡ true
outside_below a j x h = let e : nat_le a x.0 ≡ false = grind (arith, nat_tests) in rw e

outside_from : (a j : ℕ) (x : OpenEntry) → a ≤ x.0 → x.0 < j → is_outside a j x ≡ false
outside_from a j x h k = let e : nat_le a x.0 ≡ true = grind (arith, nat_tests) in let f : nat_lt x.0 j ≡ true = grind (arith, nat_tests) in rw (e, f)

filter_all_below : (a j : ℕ) (os : List OpenEntry) → IsFalling a os → filter (is_outside a j) os ≡ os
filter_all_below a j [] h = refl
filter_all_below a j (o ∷ os) h = let lt : o.0 < a = h.0 in filter_step (is_outside a j) o os true (outside_below a j o lt)
    ∙ ap (λ r. o ∷ r) (filter_all_below a j os (falling_later o.0 a os (omega arith) h.1))

pub found_below : (p : OpenEntry → Bool) (j : ℕ) (os : List OpenEntry) (o : OpenEntry) → IsFalling j os → find p os ≡ Some o → o.0 < j
found_below p j [] o h e = absurd (cc)
found_below p j (x ∷ xs) o h e =
    let ih : find p xs ≡ Some o → o.0 < x.0 = found_below p x.0 xs o h.1 in
    let lt : x.0 < j = h.0 in
    (elim (p x) as (λ b. cond b (Some x) (find p xs) ≡ Some o → o.0 < j) [
      | true ↦ λ k. let q : x ≡ o = cc in subst (λ (y : OpenEntry). y.0 < j) q lt
      | false ↦ λ k. let z : o.0 < x.0 = ih k in omega arith
    ]) e

pub falling_below : (p : OpenEntry → Bool) (j : ℕ) (os : List OpenEntry) (o : OpenEntry) → IsFalling j os → find p os ≡ Some o
    → IsFalling o.0 (below_first p os)
falling_below p j [] o h e = absurd (cc)
falling_below p j (x ∷ xs) o h e =
    let ih : find p xs ≡ Some o → IsFalling o.0 (below_first p xs) = falling_below p x.0 xs o h.1 in
    (elim (p x) as (λ b. cond b (Some x) (find p xs) ≡ Some o → IsFalling o.0 (elim b as (λ v. List OpenEntry) [ true ↦ xs | false ↦ below_first p xs ])) [
      | true ↦ λ k. let q : x ≡ o = cc in subst (λ (y : OpenEntry). IsFalling y.0 xs) q h.1
      | false ↦ λ k. ih k
    ]) e

-- to close an opener pops it and the openers above it
pub through : (p : OpenEntry → Bool) (j : ℕ) (os : List OpenEntry) (o : OpenEntry) → IsFalling j os → find p os ≡ Some o
    → filter (is_outside o.0 j) os ≡ below_first p os
through p j [] o h e = refl
through p j (x ∷ xs) o h e =
    let lt : x.0 < j = h.0 in
    let later : IsFalling j xs = falling_later x.0 j xs (omega arith) h.1 in
    let ih : find p xs ≡ Some o → filter (is_outside o.0 j) xs ≡ below_first p xs = through p j xs o later in
    let fb : find p xs ≡ Some o → o.0 < x.0 = found_below p x.0 xs o h.1 in
    (elim (p x) as (λ b. cond b (Some x) (find p xs) ≡ Some o
    → filter (is_outside o.0 j) (x ∷ xs) ≡ elim b as (λ v. List OpenEntry) [ true ↦ xs | false ↦ below_first p xs ]) [
      | true ↦ λ k. let q : x ≡ o = cc in let n : x.0 ≡ o.0 =
          ap (λ (y : OpenEntry). y.0) q in filter_step (is_outside o.0 j) x xs false (outside_from o.0 j x (omega arith) lt)
          ∙ filter_all_below o.0 j xs (falling_later x.0 o.0 xs (omega arith) h.1)
      | false ↦ λ k. let z : o.0 < x.0 = fb k in filter_step (is_outside o.0 j) x xs false (outside_from o.0 j x (omega arith) lt) ∙ ih k
    ]) e

-- an opener is open while no pair reaches it
open_new : (ps : List OpenEntry) (j c : ℕ) → EndsBelow j ps → is_open ps (j, c) ≡ true
open_new [] j c h = refl
open_new (p ∷ ps) j c h = let lt : p.1 < j = h.0 in let e : nat_lt j p.1 ≡ false = grind (arith, nat_tests) in let z : (nat_le p.0 j && nat_lt j p.1) ≡ false =
    rw e (and_false (nat_le p.0 j)) in rw z (open_new ps j c h.1)

-- the open openers after a closer at `j` that matches `o`
pub open_after_pair : (s : Search) (j c : ℕ) (o : OpenEntry) → IsFalling j s.openers → find (λ (x : OpenEntry). x.1 == canonical c) (open_openers s) ≡ Some o
    → open_openers (meet_closer s j c) ≡ below_first (λ x. x.1 == canonical c) (open_openers s)
open_after_pair s j c o h e = rw (e, meet_closer)
    (filter_same (is_open (insert_pair (o.0, j) s.pairs)) (λ x. is_open s.pairs x && is_outside o.0 j x) (open_more s.pairs (o.0, j)) s.openers
    ∙ filter_both (is_open s.pairs) (is_outside o.0 j) s.openers
    ∙ through (λ x. x.1 == canonical c) j (open_openers s) o (falling_filter (is_open s.pairs) j s.openers h) e)

-- the search by a stack: a turn, and then the rest
abbrev pub stack_turn : (List OpenEntry → List OpenEntry → List OpenEntry) → List OpenEntry → List OpenEntry → ℕ → ℕ → Option (Side × ℕ) → List OpenEntry
stack_turn k st ps j c None = k st ps
stack_turn k st ps j c (Some (Opener, m)) = elim (nat_lt (length st) bracket_room) [ true ↦ k ((j, canonical m) ∷ st) ps | false ↦ ps ]
stack_turn k st ps j c (Some (Closer, m)) = elim (find (is_for (canonical c)) st)
    [ None ↦ k st ps | Some o ↦ k (below_first (is_for (canonical c)) st) (insert_pair (o.0, j) ps) ]

abbrev pub stack_run : Data → List OpenEntry → List OpenEntry → ℕ → List ℕ → List Class → List OpenEntry
stack_run ucd st ps j [] ts = ps
stack_run ucd st ps j (c ∷ cs) [] = ps
stack_run ucd st ps j (c ∷ cs) (t ∷ ts) = stack_turn (λ a b. stack_run ucd a b (j + 1) cs ts) st ps j c (bracket_at ucd c t)

ends_later : (i j : ℕ) (ps : List OpenEntry) → i ≤ j → EndsBelow i ps → EndsBelow j ps
ends_later i j [] h e = tt
ends_later i j (p ∷ ps) h e = (omega (arith, e.0), ends_later i j ps h e.1)

ends_push : (j : ℕ) (ps : List OpenEntry) (p : OpenEntry) → EndsBelow j ps → p.1 < j → EndsBelow j (insert_pair p ps)
ends_push j [] p e h = (h, tt)
ends_push j (q ∷ ps) p e h =
    elim (nat_lt p.0 q.0) as (λ b. EndsBelow j (elim b as (λ x. List OpenEntry) [ true ↦ p ∷ q ∷ ps | false ↦ q ∷ insert_pair p ps ])) [
      | true ↦ (h, e)
      | false ↦ (e.0, ends_push j ps p e.1 h)
    ]

search_over : (ucd : Data) (s : Search) (j : ℕ) (cs : List ℕ) (ts : List Class) → s.is_over ≡ true
    → (search_from ucd s j cs ts).pairs ≡ s.pairs
search_over ucd s j [] ts e = refl
search_over ucd s j (c ∷ cs) [] e = refl
search_over ucd s j (c ∷ cs) (t ∷ ts) e = rw (e, search_from)

-- the search and the stack agree on the rest
abbrev Agrees : Data → ℕ → List ℕ → List Class → Type 0
Agrees ucd j cs ts = (s : Search) → s.is_over ≡ false → IsFalling j s.openers → EndsBelow j s.pairs
    → (search_from ucd s j cs ts).pairs ≡ stack_run ucd (open_openers s) s.pairs j cs ts

module _ (ucd : Data) (j : ℕ) (cs : List ℕ) (ts : List Class) (c : ℕ) (ih : Agrees ucd (j + 1) cs ts) (s : Search)
    (o : s.is_over ≡ false) (f : IsFalling j s.openers) (e : EndsBelow j s.pairs) where
  opener_agrees : (m : ℕ) (b : Bool) → nat_lt (length (open_openers s)) bracket_room ≡ b
      → (search_from ucd (meet_opener s j m) (j + 1) cs ts).pairs
      ≡ stack_turn (λ x y. stack_run ucd x y (j + 1) cs ts) (open_openers s) s.pairs j c (Some (Opener, m))
  opener_agrees m true q =
      let u : Search = record s { openers = (j, canonical m) ∷ s.openers } in
      let m1 : meet_opener s j m ≡ u = rw (q, meet_opener) in
      let t1 : stack_turn (λ x y. stack_run ucd x y (j + 1) cs ts) (open_openers s) s.pairs j c (Some (Opener, m))
      ≡ stack_run ucd ((j, canonical m) ∷ open_openers s) s.pairs (j + 1) cs ts = rw (q, stack_turn) in
      let n1 : open_openers u ≡ (j, canonical m) ∷ open_openers s =
      filter_step (is_open s.pairs) (j, canonical m) s.openers true (open_new s.pairs j (canonical m) e) in
      ap (λ (v : Search). (search_from ucd v (j + 1) cs ts).pairs) m1 ∙ ih u o (omega arith, f) (ends_later j (j + 1) s.pairs (omega arith) e)
      ∙ ap (λ st. stack_run ucd st s.pairs (j + 1) cs ts) n1 ∙ sym t1
  opener_agrees m false q =
      let u : Search = record s { is_over = true } in
      let m1 : meet_opener s j m ≡ u = rw (q, meet_opener) in
      let t1 : stack_turn (λ x y. stack_run ucd x y (j + 1) cs ts) (open_openers s) s.pairs j c (Some (Opener, m)) ≡ s.pairs = rw (q, stack_turn) in
      ap (λ (v : Search). (search_from ucd v (j + 1) cs ts).pairs) m1 ∙ search_over ucd u (j + 1) cs ts refl ∙ sym t1

  closer_agrees : (m : ℕ) (b : Option OpenEntry) → find (λ (x : OpenEntry). x.1 == canonical c) (open_openers s) ≡ b
      → (search_from ucd (meet_closer s j c) (j + 1) cs ts).pairs
      ≡ stack_turn (λ x y. stack_run ucd x y (j + 1) cs ts) (open_openers s) s.pairs j c (Some (Closer, m))
  closer_agrees m None q =
      let m1 : meet_closer s j c ≡ s = rw (q, meet_closer) in
      let t1 : stack_turn (λ x y. stack_run ucd x y (j + 1) cs ts) (open_openers s) s.pairs j c (Some (Closer, m))
      ≡ stack_run ucd (open_openers s) s.pairs (j + 1) cs ts = rw (q, stack_turn) in
      ap (λ (v : Search). (search_from ucd v (j + 1) cs ts).pairs) m1
      ∙ ih s o (falling_later j (j + 1) s.openers (omega arith) f) (ends_later j (j + 1) s.pairs (omega arith) e) ∙ sym t1
  closer_agrees m (Some a) q =
      let u : Search = record s { pairs = insert_pair (a.0, j) s.pairs } in
      let m1 : meet_closer s j c ≡ u = rw (q, meet_closer) in
      let t1 : stack_turn (λ x y. stack_run ucd x y (j + 1) cs ts) (open_openers s) s.pairs j c (Some (Closer, m))
      ≡ stack_run ucd (below_first (λ x. x.1 == canonical c) (open_openers s)) (insert_pair (a.0, j) s.pairs) (j + 1) cs ts = rw (q, stack_turn) in
      let n1 : open_openers u ≡ below_first (λ x. x.1 == canonical c) (open_openers s) = ap open_openers (sym m1) ∙ open_after_pair s j c a f q in
      ap (λ (v : Search). (search_from ucd v (j + 1) cs ts).pairs) m1
      ∙ ih u o (falling_later j (j + 1) s.openers (omega arith) f)
      (ends_push (j + 1) s.pairs (a.0, j) (ends_later j (j + 1) s.pairs (omega arith) e) (omega arith))
      ∙ ap (λ st. stack_run ucd st (insert_pair (a.0, j) s.pairs) (j + 1) cs ts) n1 ∙ sym t1

turn_agrees : (ucd : Data) (j : ℕ) (cs : List ℕ) (ts : List Class) (c : ℕ) → Agrees ucd (j + 1) cs ts
    → (b : Option (Side × ℕ)) (s : Search) → s.is_over ≡ false → IsFalling j s.openers → EndsBelow j s.pairs
    → (search_from ucd (meet s j c b) (j + 1) cs ts).pairs ≡ stack_turn (λ x y. stack_run ucd x y (j + 1) cs ts) (open_openers s) s.pairs j c b
turn_agrees ucd j cs ts c ih None s o f e = ih s o (falling_later j (j + 1) s.openers (omega arith) f) (ends_later j (j + 1) s.pairs (omega arith) e)
turn_agrees ucd j cs ts c ih (Some (Opener, m)) s o f e = opener_agrees ucd j cs ts c ih s o f e m (nat_lt (length (open_openers s)) bracket_room) refl
turn_agrees ucd j cs ts c ih (Some (Closer, m)) s o f e =
    closer_agrees ucd j cs ts c ih s o f e m (find (λ (x : OpenEntry). x.1 == canonical c) (open_openers s)) refl

search_is_stack : (ucd : Data) (j : ℕ) (cs : List ℕ) (ts : List Class) → Agrees ucd j cs ts
search_is_stack ucd j [] ts s o f e = refl
search_is_stack ucd j (c ∷ cs) [] s o f e = refl
search_is_stack ucd j (c ∷ cs) (t ∷ ts) s o f e =
    rw (o, search_from) (turn_agrees ucd j cs ts c (search_is_stack ucd (j + 1) cs ts) (bracket_at ucd c t) s o f e)

-- a search that is over finds no more
pub over_after : (ucd : Data) (p : Progress) (j : ℕ) (cs : List ℕ) (ts : List Class) → p.is_over ≡ true
    → pairs_after ucd p j cs ts ≡ p.pairs
over_after ucd p j [] ts e = refl
over_after ucd p j (c ∷ cs) [] e = refl
over_after ucd p j (c ∷ cs) (t ∷ ts) e =
    let same : after j c (bracket_at ucd c t) p ≡ p = ap (λ x. elim x as (λ v. Progress) [ true ↦ p | false ↦ turn j c (bracket_at ucd c t) p ]) e in
    ap (λ q. pairs_after ucd q (j + 1) cs ts) same ∙ over_after ucd p (j + 1) cs ts e

-- the turns and the stack agree on the rest
abbrev AreOne : Data → ℕ → List ℕ → List Class → Type 0
AreOne ucd j cs ts = (p : Progress) → p.is_over ≡ false → pairs_after ucd p j cs ts ≡ stack_run ucd p.openers p.pairs j cs ts

module _ (ucd : Data) (j c : ℕ) (cs : List ℕ) (ts : List Class) (ih : AreOne ucd (j + 1) cs ts) (p : Progress)
    (e : p.is_over ≡ false) where
  abbrev go : List OpenEntry → List OpenEntry → List OpenEntry
  go x y = stack_run ucd x y (j + 1) cs ts

  opener_is_turn : (m : ℕ) (b : Bool) → nat_lt (length p.openers) bracket_room ≡ b
      → pairs_after ucd (turn j c (Some (Opener, m)) p) (j + 1) cs ts ≡ stack_turn go p.openers p.pairs j c (Some (Opener, m))
  opener_is_turn m true q =
      let u : Progress = record p { openers = (j, canonical m) ∷ p.openers; is_over = false } in
      let t : turn j c (Some (Opener, m)) p ≡ u =
      ap (λ b. record p { openers = elim b as (λ v. List OpenEntry) [ true ↦ (j, canonical m) ∷ p.openers | false ↦ p.openers ]; is_over = not b }) q in
      let s : stack_turn go p.openers p.pairs j c (Some (Opener, m)) ≡ go ((j, canonical m) ∷ p.openers) p.pairs = rw (q, stack_turn) in
      ap (λ v. pairs_after ucd v (j + 1) cs ts) t ∙ ih u refl ∙ sym s
  opener_is_turn m false q =
      let u : Progress = record p { is_over = true } in
      let t : turn j c (Some (Opener, m)) p ≡ u =
      ap (λ b. record p { openers = elim b as (λ v. List OpenEntry) [ true ↦ (j, canonical m) ∷ p.openers | false ↦ p.openers ]; is_over = not b }) q in
      let s : stack_turn go p.openers p.pairs j c (Some (Opener, m)) ≡ p.pairs = rw (q, stack_turn) in
      ap (λ v. pairs_after ucd v (j + 1) cs ts) t ∙ over_after ucd u (j + 1) cs ts refl ∙ sym s

  closer_is_turn : (m : ℕ) (b : Option OpenEntry) → find (is_for (canonical c)) p.openers ≡ b
      → pairs_after ucd (turn j c (Some (Closer, m)) p) (j + 1) cs ts ≡ stack_turn go p.openers p.pairs j c (Some (Closer, m))
  closer_is_turn m b q =
      let u : Progress = record p { openers = left_by b (canonical c) p.openers; pairs = found_by b j p.pairs } in
      let t : turn j c (Some (Closer, m)) p ≡ u = rw (q, turn) in
      let s : stack_turn go p.openers p.pairs j c (Some (Closer, m)) ≡ go (left_by b (canonical c) p.openers) (found_by b j p.pairs) =
      rw (q, stack_turn) (elim b as (λ x. elim x as (λ v. List OpenEntry) [
        | None ↦ go p.openers p.pairs
        | Some o ↦ go (below_first (is_for (canonical c)) p.openers) (insert_pair (o.0, j) p.pairs)
      ] ≡ go (left_by x (canonical c) p.openers) (found_by x j p.pairs)) [ None ↦ refl | Some o ↦ refl ]) in
      ap (λ v. pairs_after ucd v (j + 1) cs ts) t ∙ ih u e ∙ sym s

  turn_is_one : (b : Option (Side × ℕ)) → pairs_after ucd (turn j c b p) (j + 1) cs ts ≡ stack_turn go p.openers p.pairs j c b
  turn_is_one None = ih p e
  turn_is_one (Some (Opener, m)) = opener_is_turn m (nat_lt (length p.openers) bracket_room) refl
  turn_is_one (Some (Closer, m)) = closer_is_turn m (find (is_for (canonical c)) p.openers) refl

turns_are_stack : (ucd : Data) (j : ℕ) (cs : List ℕ) (ts : List Class) → AreOne ucd j cs ts
turns_are_stack ucd j [] ts p e = refl
turns_are_stack ucd j (c ∷ cs) [] p e = refl
turns_are_stack ucd j (c ∷ cs) (t ∷ ts) p e =
    let on : after j c (bracket_at ucd c t) p ≡ turn j c (bracket_at ucd c t) p =
    ap (λ x. elim x as (λ v. Progress) [ true ↦ p | false ↦ turn j c (bracket_at ucd c t) p ]) e in
    ap (λ q. pairs_after ucd q (j + 1) cs ts) on ∙ turn_is_one ucd j c cs ts (turns_are_stack ucd (j + 1) cs ts) p e (bracket_at ucd c t)

-- all turns together find the pairs of the definition
pub all_found : (ucd : Data) (cs : List ℕ) (ts : List Class) → pairs_after ucd (progress [] [] false) 0 cs ts ≡ pairs ucd cs ts
all_found ucd cs ts = turns_are_stack ucd 0 cs ts (progress [] [] false) refl
    ∙ sym (search_is_stack ucd 0 cs ts (record { openers = []; pairs = []; is_over = false }) refl tt tt)

-- the pairs found from index `i` on, given the progress after the turn there
pub turn_more : (ucd : Data) (os ps new_os new_ps : List OpenEntry) (over : Bool) (cs : List ℕ) (ts : List Class) (i x : ℕ)
    (b : Option (Side × ℕ)) → i < length cs → i < length ts → x ≡ get_or cs i x → b ≡ bracket_at ucd x (get_or ts i L)
    → progress new_os new_ps over ≡ turn i x b (progress os ps false)
    → pairs_after ucd (progress os ps false) i (drop i cs) (drop i ts)
    ≡ pairs_after ucd (progress new_os new_ps over) (i + 1) (drop (i + 1) cs) (drop (i + 1) ts)
turn_more ucd os ps new_os new_ps over cs ts i x b h l at is new =
    let p : Progress = progress os ps false in
    let rest : Progress → List OpenEntry = λ q. pairs_after ucd q (i + 1) (drop (i + 1) cs) (drop (i + 1) ts) in
    at_drop_more (λ xs. pairs_after ucd p i xs (drop i ts)) cs i x h
    ∙ at_drop_more (λ ys. pairs_after ucd p i (get_or cs i x ∷ drop (i + 1) cs) ys) ts i L l
    ∙ ap (λ y. rest (turn i y (bracket_at ucd y (get_or ts i L)) p)) (sym at) ∙ ap (λ y. rest (turn i x y p)) (sym is) ∙ ap rest (sym new)
