-- A place searched in the whole text is in the row of the offset, or it is the first of the next row or the last of the
-- previous one.
use Rattle.std.proofs.Common.{◌≡◌, ℕ, zero, suc, ◌+◌, ◌-◌, ◌<◌, ◌≤◌, nat_le, nat_lt, cond, Bool, true, false, List, [], ◌∷◌, ◌++◌, map, length, take, drop}
use Rattle.std.proofs.Common.{reverse, find, Option, Some, None, option_map, unwrap_or, refl, sym, ap, subst, ◌∙◌, arith, append-nil, ⊎_elim}
use Rattle.std.specs.Option.{option_or}
use Rattle.std.proofs.lemmas.Bool.{cases_lt}
use Rattle.std.proofs.lemmas.Bool.Decides.{nat_tests}
use Rattle.std.proofs.lemmas.Grind.{flat_map-append}
use Rattle.std.proofs.lemmas.List.{drop_all, drop_more, get_or-map, length-map, map-append, reverse-append, take-append-drop, take_more}
use Rattle.std.proofs.lemmas.List.Concat.{flat_map-cons}
use Rattle.std.proofs.lemmas.List.Folds.{find-append}
use Rattle.bx_paragraph.specs.BodyRows.{last_of, last_offset, offsets_of}
use Rattle.bx_view.specs.Moves.{place_at, place_from}
use Rattle.bx_view.specs.TextRows.{TextRow, first, no_text_row, places, places_of, row_at, row_of}
use Rattle.bx_view.proofs.PlacesRise.{AllHeads, IsHead, firsts-of}
use Rattle.bx_view.proofs.Rising.{Rises, rank, rank-few, rank-here, rank-not-here, rises-ahead, rises-behind, rises-within}

-- ---- searches among increasing offsets

-- none of some offsets passes
abbrev Fails : (ℕ → Bool) → List ℕ → Type 0
Fails p [] = Prim.Unit {0}
Fails p (o ∷ os) = (p o ≡ false) × Fails p os

none-found : (p : ℕ → Bool) (os : List ℕ) → Fails p os → find p os ≡ None
none-found p [] f = refl
none-found p (o ∷ os) f = ap (λ b. cond b (Some o) (find p os)) f.0 ∙ none-found p os f.1

fails-append : (p : ℕ → Bool) (os ps : List ℕ) → Fails p os → Fails p ps → Fails p (os ++ ps)
fails-append p [] ps f g = g
fails-append p (o ∷ os) ps f g = (f.0, fails-append p os ps f.1 g)

fails-reverse : (p : ℕ → Bool) (os : List ℕ) → Fails p os → Fails p (reverse os)
fails-reverse p [] f = tt
fails-reverse p (o ∷ os) f =
    subst (Fails p) (sym (reverse-append (o ∷ []) os)) (fails-append p (reverse os) (o ∷ []) (fails-reverse p os f.1) (f.0, tt))

fails-below : (p : ℕ → Bool) (low : ℕ) (os : List ℕ) (high : ℕ) → ((o : ℕ) → o < high → p o ≡ false) → Rises low os high → Fails p os
fails-below p low [] high f r = tt
fails-below p low (o ∷ os) high f r = (f o (omega (arith, rises-within (o + 1) os high r.1)), fails-below p (o + 1) os high f r.1)

fails-above : (p : ℕ → Bool) (low : ℕ) (os : List ℕ) (high : ℕ) → ((o : ℕ) → low ≤ o → p o ≡ false) → Rises low os high → Fails p os
fails-above p low [] high f r = tt
fails-above p low (o ∷ os) high f r = (f o r.0, fails-above p (o + 1) os high (λ q h. f q (omega (arith, h, r.0))) r.1)

-- ---- the last of some offsets

last-append : (os : List ℕ) (q : ℕ) (qs : List ℕ) → last_offset (os ++ q ∷ qs) ≡ last_offset (q ∷ qs)
last-append [] q qs = refl
last-append (o ∷ []) q qs = refl
last-append (o ∷ p ∷ os) q qs = last-append (p ∷ os) q qs

last-moved : (start : ℕ) (os : List ℕ) → 0 < length os → last_offset (map (λ o. start + o) os) ≡ start + last_offset os
last-moved start [] h = absurd (omega (arith, h))
last-moved start (o ∷ []) h = refl
last-moved start (o ∷ p ∷ os) h = last-moved start (p ∷ os) (omega arith)

last-below : (low : ℕ) (os : List ℕ) (high : ℕ) → Rises low os high → 0 < length os → last_offset os < high
last-below low [] high r h = absurd (omega (arith, h))
last-below low (o ∷ []) high r h = omega (arith, r.1)
last-below low (o ∷ p ∷ os) high r h = last-below (o + 1) (p ∷ os) high r.1 (omega arith)

last-first : (os : List ℕ) → 0 < length os → (ps : List ℕ) × (reverse os ≡ last_offset os ∷ ps)
last-first [] h = absurd (omega (arith, h))
last-first (o ∷ []) h = ([], refl)
last-first (o ∷ p ∷ os) h =
    let (ps, e) = last-first (p ∷ os) (omega arith) in
    (ps ++ o ∷ [], reverse-append (o ∷ []) (p ∷ os) ∙ ap (λ qs. qs ++ o ∷ []) e)

last-found : (p : ℕ → Bool) (os : List ℕ) → 0 < length os → p (last_offset os) ≡ true → find p (reverse os) ≡ Some (last_offset os)
last-found p os h passes =
    let (ps, e) = last-first os h in ap (find p) e ∙ ap (λ b. cond b (Some (last_offset os)) (find p ps)) passes

or-one : (x : Option ℕ) (o : ℕ) → (q : ℕ) × (option_or x (Some o) ≡ Some q)
or-one None o = (o, refl)
or-one (Some q) o = (q, refl)

-- the last that passes, if the first does
some-last : (p : ℕ → Bool) (o : ℕ) (os : List ℕ) → p o ≡ true → (q : ℕ) × (find p (reverse (o ∷ os)) ≡ Some q)
some-last p o os passes =
    let rest = find p (reverse os) in
    let e : find p (reverse (o ∷ os)) ≡ option_or rest (Some o) =
    ap (find p) (reverse-append (o ∷ []) os) ∙ find-append p (reverse os) (o ∷ []) ∙ ap (λ b. option_or rest (cond b (Some o) None)) passes in
    subst (λ x. (q : ℕ) × (x ≡ Some q)) (sym e) (or-one rest o)

-- ---- offsets of a body, as offsets of the text

moved-at : (start : ℕ) (b : Bool) (o : ℕ) (x y : Option ℕ) → x ≡ option_map (λ k. start + k) y
    → cond b (Some (start + o)) x ≡ option_map (λ k. start + k) (cond b (Some o) y)
moved-at start true o x y e = refl
moved-at start false o x y e = e

find-moved : (start : ℕ) (p q : ℕ → Bool) → ((o : ℕ) → p (start + o) ≡ q o) → (os : List ℕ)
    → find p (map (λ k. start + k) os) ≡ option_map (λ k. start + k) (find q os)
find-moved start p q same [] = refl
find-moved start p q same (o ∷ os) =
    ap (λ b. cond b (Some (start + o)) (find p (map (λ k. start + k) os))) (same o)
    ∙ moved-at start (q o) o (find p (map (λ k. start + k) os)) (find q os) (find-moved start p q same os)

reverse-moved : (start : ℕ) (os : List ℕ) → reverse (map (λ k. start + k) os) ≡ map (λ k. start + k) (reverse os)
reverse-moved start [] = refl
reverse-moved start (o ∷ os) =
    reverse-append ((start + o) ∷ []) (map (λ k. start + k) os) ∙ ap (λ ps. ps ++ (start + o) ∷ []) (reverse-moved start os)
    ∙ sym (map-append (λ k. start + k) (reverse os) (o ∷ [])) ∙ ap (map (λ k. start + k)) (sym (reverse-append (o ∷ []) os))

module _ (start offset : ℕ) (order : start ≤ offset) (os : List ℕ) (o : Option ℕ) where
  pub moved-from : o ≡ find (nat_le (offset - start)) os → option_map (λ k. start + k) o ≡ find (nat_le offset) (map (λ k. start + k) os)
  moved-from e =
      ap (option_map (λ k. start + k)) e
      ∙ sym (find-moved start (nat_le offset) (nat_le (offset - start)) (λ k. grind (arith, nat_tests)) os)

  pub moved-behind : o ≡ find (nat_lt (offset - start)) os → option_map (λ k. start + k) o ≡ find (nat_lt offset) (map (λ k. start + k) os)
  moved-behind e =
      ap (option_map (λ k. start + k)) e
      ∙ sym (find-moved start (nat_lt offset) (nat_lt (offset - start)) (λ k. grind (arith, nat_tests)) os)

  pub moved-at-most : o ≡ find (λ k. nat_le k (offset - start)) (reverse os)
      → option_map (λ k. start + k) o ≡ find (λ k. nat_le k offset) (reverse (map (λ k. start + k) os))
  moved-at-most e =
      ap (option_map (λ k. start + k)) e
      ∙ sym (find-moved start (λ k. nat_le k offset) (λ k. nat_le k (offset - start)) (λ k. grind (arith, nat_tests)) (reverse os))
      ∙ ap (find (λ k. nat_le k offset)) (sym (reverse-moved start os))

  pub moved-before : o ≡ find (λ k. nat_lt k (offset - start)) (reverse os)
      → option_map (λ k. start + k) o ≡ find (λ k. nat_lt k offset) (reverse (map (λ k. start + k) os))
  moved-before e =
      ap (option_map (λ k. start + k)) e
      ∙ sym (find-moved start (λ k. nat_lt k offset) (λ k. nat_lt k (offset - start)) (λ k. grind (arith, nat_tests)) (reverse os))
      ∙ ap (find (λ k. nat_lt k offset)) (sym (reverse-moved start os))

-- ---- a row, the rows before it and those after it

pub head-some : (r : TextRow) → IsHead r → 0 < length (offsets_of r.row)
head-some r head = omega (arith, ap length head.1, length-map (offsets_of r.row) (λ o. r.start + o))

last-place : (r : TextRow) → IsHead r → last_offset (places_of r) ≡ r.start + last_of r.row
last-place r head = last-moved r.start (offsets_of r.row) (head-some r head)

-- the last of rows that end with one
last-of-rows : (rs : List TextRow) (r : TextRow) → IsHead r → last_offset (places (rs ++ r ∷ [])) ≡ r.start + last_of r.row
last-of-rows rs r head =
    let os = places rs in
    ap last_offset (flat_map-append places_of rs (r ∷ []) ∙ ap (λ ps. os ++ ps) (flat_map-cons places_of r [] ∙ append-nil (places_of r)))
    ∙ ap (λ ps. last_offset (os ++ ps)) head.1 ∙ last-append os (first r) head.0 ∙ ap last_offset (sym head.1) ∙ last-place r head

some-of-rows : (rs : List TextRow) (r : TextRow) → IsHead r → (q : ℕ) × ((qs : List ℕ) × (places (rs ++ r ∷ []) ≡ places rs ++ q ∷ qs))
some-of-rows rs r head = (
  first r,
  (
    head.0,
    flat_map-append places_of rs (r ∷ []) ∙ ap (λ ps. places rs ++ ps) (flat_map-cons places_of r [] ∙ append-nil (places_of r) ∙ head.1),
  ),
)

longer : (os : List ℕ) (q : ℕ) (qs : List ℕ) → 0 < length (os ++ q ∷ qs)
longer [] q qs = omega arith
longer (o ∷ os) q qs = omega arith

module _ (before : List TextRow) (r : TextRow) (after : List TextRow) (high : ℕ) (rise : Rises 0 (places (before ++ r ∷ after)) high) (head : IsHead r)
    (p : ℕ → Bool) where
  abbrev all : List ℕ
  all = places (before ++ r ∷ after)

  whole : all ≡ places before ++ (places_of r ++ places after)
  whole = flat_map-append places_of before (r ∷ after) ∙ ap (λ os. places before ++ os) (flat_map-cons places_of r after)

  rise-parts : Rises 0 (places before ++ (first r ∷ (head.0 ++ places after))) high
  rise-parts = subst (λ os. Rises 0 os high) (whole ∙ ap (λ os. places before ++ (os ++ places after)) head.1) rise

  rise-before : Rises 0 (places before) (first r)
  rise-before = rises-ahead 0 (places before) (first r) (head.0 ++ places after) high rise-parts

  -- ---- from an offset on

  module _ (below : (o : ℕ) → o < first r → p o ≡ false) where
    forward : find p all ≡ option_or (find p (places_of r)) (find p (places after))
    forward =
        let rest = places_of r ++ places after in
        ap (find p) whole ∙ find-append p (places before) rest
        ∙ ap (λ o. option_or o (find p rest)) (none-found p (places before) (fails-below p 0 (places before) (first r) below rise-before))
        ∙ find-append p (places_of r) (places after)

    forward-here : (o : ℕ) → find p (places_of r) ≡ Some o → find p all ≡ Some o
    forward-here o e = forward ∙ ap (λ x. option_or x (find p (places after))) e

    forward-next : (s : TextRow) (ss : List TextRow) → find p (places_of r) ≡ None → after ≡ s ∷ ss → IsHead s → p (first s) ≡ true
        → find p all ≡ Some (first s)
    forward-next s ss none e next passes =
        forward ∙ ap (λ x. option_or x (find p (places after))) none ∙ ap (λ rs. find p (places rs)) e ∙ ap (find p) (flat_map-cons places_of s ss)
        ∙ ap (λ os. find p (os ++ places ss)) next.1 ∙ ap (λ b. cond b (Some (first s)) (find p (next.0 ++ places ss))) passes

    forward-none : find p (places_of r) ≡ None → after ≡ [] → find p all ≡ None
    forward-none none e = forward ∙ ap (λ x. option_or x (find p (places after))) none ∙ ap (λ rs. find p (places rs)) e

  -- ---- back from an offset

  fails-behind : (s : TextRow) (ss : List TextRow) → after ≡ s ∷ ss → IsHead s → ((o : ℕ) → first s ≤ o → p o ≡ false) → Fails p (places after)
  fails-behind s ss e next none =
      let opened : places after ≡ first s ∷ (next.0 ++ places ss) = ap places e ∙ flat_map-cons places_of s ss ∙ ap (λ os. os ++ places ss) next.1 in
      let from : Rises 0 (places after) high =
      rises-behind 0 (first r ∷ head.0) (places after) high (rises-behind 0 (places before) (first r ∷ (head.0 ++ places after)) high rise-parts) in
      let from-first : Rises 0 (first s ∷ (next.0 ++ places ss)) high = subst (λ os. Rises 0 os high) opened from in
      subst (Fails p) (sym opened) (fails-above p (first s) (first s ∷ (next.0 ++ places ss)) high none (omega arith, from-first.1))

  module _ (behind : Fails p (places after)) where
    back : find p (reverse all) ≡ option_or (find p (reverse (places_of r))) (find p (reverse (places before)))
    back =
        let a = places before in
        let b = places_of r in
        let c = places after in
        ap (λ os. find p (reverse os)) whole ∙ ap (find p) (reverse-append a (b ++ c)) ∙ find-append p (reverse (b ++ c)) (reverse a)
        ∙ ap (λ os. option_or (find p os) (find p (reverse a))) (reverse-append b c)
        ∙ ap (λ o. option_or o (find p (reverse a))) (find-append p (reverse c) (reverse b)
        ∙ ap (λ o. option_or o (find p (reverse b))) (none-found p (reverse c) (fails-reverse p c behind)))

    back-here : (o : ℕ) → find p (reverse (places_of r)) ≡ Some o → find p (reverse all) ≡ Some o
    back-here o e = back ∙ ap (λ x. option_or x (find p (reverse (places before)))) e

    back-before : (s : TextRow) (ss : List TextRow) → find p (reverse (places_of r)) ≡ None → before ≡ ss ++ s ∷ [] → IsHead s
        → ((o : ℕ) → o < first r → p o ≡ true) → find p (reverse all) ≡ Some (s.start + last_of s.row)
    back-before s ss none e above passes =
        let some = some-of-rows ss s above in
        let os = places before in
        let last : last_offset os ≡ s.start + last_of s.row = ap (λ rs. last_offset (places rs)) e ∙ last-of-rows ss s above in
        let longer-is : 0 < length os = subst (λ ps. 0 < length ps) (sym (ap places e ∙ some.1.1)) (longer (places ss) some.0 some.1.0) in
        back ∙ ap (λ x. option_or x (find p (reverse os))) none
        ∙ last-found p os longer-is (passes (last_offset os) (last-below 0 os (first r) rise-before longer-is)) ∙ ap Some last

    back-none : find p (reverse (places_of r)) ≡ None → before ≡ [] → find p (reverse all) ≡ None
    back-none none e = back ∙ ap (λ x. option_or x (find p (reverse (places before)))) none ∙ ap (λ rs. find p (reverse (places rs))) e

-- ---- the row that an offset falls in

pub heads-at : (rows : List TextRow) (n : ℕ) → AllHeads rows → n < length rows → IsHead (row_at rows n)
heads-at [] n a h = absurd (omega (arith, h))
heads-at (r ∷ rs) zero a h = a.0
heads-at (r ∷ rs) (suc n) a h = heads-at rs n a.1 (omega (arith, h))

module _ (rows : List TextRow) (high : ℕ) (rise : Rises 0 (places rows) high) (heads : AllHeads rows) (offset : ℕ)
    (some : 1 ≤ rank offset (map first rows)) where
  abbrev n : ℕ
  n = row_of rows offset

  abbrev here : TextRow
  here = row_at rows n

  few : rank offset (map first rows) ≤ length rows
  few = omega (arith, rank-few offset (map first rows), length-map rows first)

  within : n < length rows
  within = omega (arith, some, few)

  firsts : Rises 0 (map first rows) high
  firsts = firsts-of 0 rows high heads rise

  not-past : first here ≤ offset
  not-past =
      omega (
        arith,
        rank-here offset 0 0 (map first rows) high n firsts (omega (arith, some)),
        get_or-map first rows n no_text_row 0 within,
      )

  past-offset : n + 1 < length rows → offset < first (row_at rows (n + 1))
  past-offset more =
      omega (
        arith,
        rank-not-here offset 0 0 (map first rows) high (n + 1) firsts (omega (arith, some)) (omega (arith, more, length-map rows first)),
        get_or-map first rows (n + 1) no_text_row 0 more,
      )

  abbrev ahead : List TextRow
  ahead = take n rows

  abbrev behind : List TextRow
  behind = drop (n + 1) rows

  split : rows ≡ ahead ++ here ∷ behind
  split = sym (take-append-drop n rows) ∙ ap (λ rs. ahead ++ rs) (drop_more rows n no_text_row within)

  rise-split : Rises 0 (places (ahead ++ here ∷ behind)) high
  rise-split = subst (λ rs. Rises 0 (places rs) high) split rise

  head : IsHead here
  head = heads-at rows n heads within

  next-head : n + 1 < length rows → IsHead (row_at rows (n + 1))
  next-head more = heads-at rows (n + 1) heads more

  -- an offset that passes is not before the row
  abbrev PassesFrom : (ℕ → Bool) → Type 0
  PassesFrom p = (o : ℕ) → o < first here → p o ≡ false

  module _ (p : ℕ → Bool) (from : PassesFrom p) where
    pub found-here : (o : ℕ) → find p (places_of here) ≡ Some o → find p (places rows) ≡ Some o
    found-here o e = ap (λ rs. find p (places rs)) split ∙ forward-here ahead here behind high rise-split head p from o e

    pub found-next : n + 1 < length rows → find p (places_of here) ≡ None → p (first (row_at rows (n + 1))) ≡ true
        → find p (places rows) ≡ Some (first (row_at rows (n + 1)))
    found-next more none passes =
        ap (λ rs. find p (places rs)) split
        ∙ forward-next ahead here behind high rise-split head p from (row_at rows (n + 1)) (drop (n + 1 + 1) rows) none
        (drop_more rows (n + 1) no_text_row more) (next-head more) passes

    pub found-nowhere : n + 1 ≡ length rows → find p (places_of here) ≡ None → find p (places rows) ≡ None
    found-nowhere last none =
        ap (λ rs. find p (places rs)) split
        ∙ forward-none ahead here behind high rise-split head p from none (drop_all (n + 1) rows (omega (arith, last)))

  -- ---- as the calls ask

  before-fails : PassesFrom (nat_le offset)
  before-fails = let below = not-past in λ o h. grind (arith, nat_tests)

  pub from-here : (o : ℕ) → find (nat_le offset) (places_of here) ≡ Some o → o ≡ place_from rows offset
  from-here o e = sym (ap (λ x. unwrap_or x (last_offset (places rows))) (found-here (nat_le offset) before-fails o e))

  pub from-next : n + 1 < length rows → find (nat_le offset) (places_of here) ≡ None → first (row_at rows (n + 1)) ≡ place_from rows offset
  from-next more none =
      let past = past-offset more in
      let passes : nat_le offset (first (row_at rows (n + 1))) ≡ true = grind (arith, nat_tests) in
      sym (ap (λ x. unwrap_or x (last_offset (places rows))) (found-next (nat_le offset) before-fails more none passes))

  pub from-last : n + 1 ≡ length rows → find (nat_le offset) (places_of here) ≡ None → here.start + last_of here.row ≡ place_from rows offset
  from-last last none =
      let only : rows ≡ ahead ++ here ∷ [] = split ∙ ap (λ rs. ahead ++ here ∷ rs) (drop_all (n + 1) rows (omega (arith, last))) in
      sym (ap (λ x. unwrap_or x (last_offset (places rows))) (found-nowhere (nat_le offset) before-fails last none)
      ∙ ap (λ rs. last_offset (places rs)) only ∙ last-of-rows ahead here head)

  behind-fails : PassesFrom (nat_lt offset)
  behind-fails = let below = not-past in λ o h. grind (arith, nat_tests)

  pub forward-in-row : (o : ℕ) → find (nat_lt offset) (places_of here) ≡ Some o → o ≡ unwrap_or (find (nat_lt offset) (places rows)) offset
  forward-in-row o e = sym (ap (λ x. unwrap_or x offset) (found-here (nat_lt offset) behind-fails o e))

  pub forward-to-next : n + 1 < length rows → find (nat_lt offset) (places_of here) ≡ None
      → first (row_at rows (n + 1)) ≡ unwrap_or (find (nat_lt offset) (places rows)) offset
  forward-to-next more none =
      let past = past-offset more in
      let passes : nat_lt offset (first (row_at rows (n + 1))) ≡ true = grind (arith, nat_tests) in
      sym (ap (λ x. unwrap_or x offset) (found-next (nat_lt offset) behind-fails more none passes))

  pub forward-stays : n + 1 ≡ length rows → find (nat_lt offset) (places_of here) ≡ None → offset ≡ unwrap_or (find (nat_lt offset) (places rows)) offset
  forward-stays last none = sym (ap (λ x. unwrap_or x offset) (found-nowhere (nat_lt offset) behind-fails last none))

  -- ---- and back

  module _ (p : ℕ → Bool) (none : (o : ℕ) → offset < o → p o ≡ false) where
    fails-after : Fails p (places behind)
    fails-after = ⊎_elim
        (λ more.
        let past = past-offset more in
        fails-behind ahead here behind high rise-split head p (row_at rows (n + 1)) (drop (n + 1 + 1) rows)
        (drop_more rows (n + 1) no_text_row more) (next-head more) (λ o h. none o (omega (arith, past, h))))
        (λ last. subst (λ rs. Fails p (places rs)) (sym (drop_all (n + 1) rows last)) tt) (cases_lt (n + 1) (length rows))

    found-back : (o : ℕ) → find p (reverse (places_of here)) ≡ Some o → find p (reverse (places rows)) ≡ Some o
    found-back o e =
        ap (λ rs. find p (reverse (places rs))) split ∙ back-here ahead here behind high rise-split head p fails-after o e

  abbrev at-most : ℕ → Bool
  at-most o = nat_le o offset

  -- the row begins at or before the offset
  pub last-in-row : (x : Option ℕ) → x ≡ find at-most (reverse (places_of here)) → unwrap_or x 0 ≡ place_at rows offset
  last-in-row x e =
      let below = not-past in
      let passes : at-most (first here) ≡ true = grind (arith, nat_tests) in
      let some : (q : ℕ) × (find at-most (reverse (places_of here)) ≡ Some q) =
      subst (λ os. (q : ℕ) × (find at-most (reverse os) ≡ Some q)) (sym head.1) (some-last at-most (first here) head.0 passes) in
      ap (λ y. unwrap_or y 0) (e ∙ some.1)
      ∙ sym (ap (λ y. unwrap_or y 0) (found-back at-most (λ o h. grind (arith, nat_tests)) some.0 some.1))

  abbrev earlier : ℕ → Bool
  earlier o = nat_lt o offset

  fails-later : Fails earlier (places behind)
  fails-later = fails-after earlier (λ o h. grind (arith, nat_tests))

  pub back-in-row : (o : ℕ) → find earlier (reverse (places_of here)) ≡ Some o → o ≡ unwrap_or (find earlier (reverse (places rows))) offset
  back-in-row o e = sym (ap (λ x. unwrap_or x offset) (found-back earlier (λ p h. grind (arith, nat_tests)) o e))

  pub back-to-row : 0 < n → find earlier (reverse (places_of here)) ≡ None
      → (row_at rows (n - 1)).start + last_of (row_at rows (n - 1)).row ≡ unwrap_or (find earlier (reverse (places rows))) offset
  back-to-row above none =
      let below = not-past in
      let within-before : n - 1 < length rows = omega (arith, within) in
      let same : n ≡ n - 1 + 1 = omega (arith, above) in
      let parts : ahead ≡ take (n - 1) rows ++ row_at rows (n - 1) ∷ [] = ap (λ k. take k rows) same ∙ take_more rows (n - 1) no_text_row within-before in
      sym (ap (λ x. unwrap_or x offset) (ap (λ rs. find earlier (reverse (places rs))) split
      ∙ back-before ahead here behind high rise-split head earlier fails-later (row_at rows (n - 1)) (take (n - 1) rows) none parts
      (heads-at rows (n - 1) heads within-before) (λ o h. grind (arith, nat_tests))))

  pub back-stays : n ≡ 0 → find earlier (reverse (places_of here)) ≡ None → offset ≡ unwrap_or (find earlier (reverse (places rows))) offset
  back-stays e none =
      sym (ap (λ x. unwrap_or x offset) (ap (λ rs. find earlier (reverse (places rs))) split
      ∙ back-none ahead here behind high rise-split head earlier fails-later none (ap (λ k. take k rows) e)))
