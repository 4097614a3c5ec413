-- Units that begin with joined letters touch, since the row and the body have the same characters between them.
use Rattle.std.proofs.Common.{◌≡◌, ℕ, zero, suc, ◌+◌, ◌-◌, ◌%◌, ◌<◌, ◌≤◌, Bool, true, false, List, [], ◌∷◌, ◌++◌, length, map, get_or, take, drop, slice_range, chars, IsUtf8, All, Option, Some, None}
use Rattle.std.proofs.Common.{refl, sym, ap, ap₂, subst, ◌∙◌, arith, inl, inr, take-append-drop, append_assoc, length-append, length-drop}
use Rattle.std.specs.Prelude.{◌&&◌, ◌||◌, not, HoldsAt, encode_utf8_all, flat_map}
use Rattle.std.specs.List.{list_any, zip}
use Rattle.std.proofs.Math.Seq.{drop-append_seam}
use Rattle.std.proofs.lemmas.Bool.{and_parts, cases_lt, eqb-true, lt-ltb, or_parts}
use Rattle.std.proofs.lemmas.List.{drop-append-le, drop-drop, get_or_default, get_or-append-add, get_or-map, get_or_append_left, length-map, length-take-le, map-append}
use Rattle.std.proofs.lemmas.List.Elements.{All-cons, All-head, All-nil, All-tail}
use Rattle.std.proofs.lemmas.Str.{IsUtf8-between, IsUtf8-take, chars-append, encodes-chars}
use Rattle.std.specs.Str.{IsCharBoundary}
use Rattle.bx_ucd.specs.Data.{Data}
use Rattle.bx_ucd.specs.declared.class.Class.{Class}
use Rattle.bx_rows.specs.declared.cells.unit.Face.TheVariants.{Tab}
use Rattle.bx_rows.specs.declared.cells.unit.Unit.{Unit}
use Rattle.bx_rows.specs.cells.Units.{unit_chars, unit_text}
use Rattle.bx_rows.specs.cells.UnitFacts.{StandsIn}
use Rattle.bx_rows.specs.joining.Joining.{are_one_odd, is_lower, is_transparent, joins_back, joins_on, none_is_lower}
use Rattle.bx_rows_laws.specs.Laws.{StandInTurn}
use Rattle.bx_rows.specs.RowLevels.{CharLevel, chars_before, is_segment_separator, is_trailing, l1, level_at, levels_or_before, only_trailing, row_chars, row_levels, trails, unit_levels}
use Rattle.bx_rows_laws.specs.TouchingLetters.{BeginJoined, IsPassedOver, JoinedLettersTouch, LettersKeepLevels, joiner}
use Rattle.bx_rows.proofs.RowUnits.{chars-behind}
use Rattle.bx_rows_laws.proofs.LevelsBetween.{HasLetters, IsBetween, before, l1-behind, none-lower, unit-own}
use Rattle.bx_rows_laws.proofs.TouchingUnits.{all-at, equal-odd-touch}

-- ---- letters that join

not-false : (b : Bool) → not b ≡ true → b ≡ false
not-false true e = sym e
not-false false e = refl

not-lower : (m n : ℕ) → is_lower (Some m) (Some n) ≡ false → n ≤ m
not-lower m n e =
    elim (cases_lt m n) as (λ _. n ≤ m) [ inl h ↦ absurd (let yes = lt-ltb m n h in cc) | inr h ↦ h ]

-- the class and the level of a character
abbrev classed : Data → ℕ × Option ℕ → CharLevel
classed ucd c = (ucd.class c.0, c.1)

not-lower-at : (n l : ℕ) (o : Option ℕ) → (is_lower o (Some n) || is_lower o (Some n)) ≡ false → o ≡ Some l → n ≤ l
not-lower-at n l o e f =
    let here = (or_parts (is_lower o (Some n)) (is_lower o (Some n)) e).0 in
    not-lower l n (subst (λ p. is_lower p (Some n) ≡ false) f here)

none-between-lower : (ucd : Data) (n : ℕ) (cs : List (ℕ × Option ℕ)) → All (IsPassedOver ucd) cs
    → list_any (λ x. is_lower x.1 (Some n) || is_lower x.1 (Some n)) (map (joiner ucd) cs) ≡ false → All (IsBetween n) (map (classed ucd) cs)
none-between-lower ucd n [] a e = All-nil (IsBetween n)
none-between-lower ucd n (c ∷ cs) a e =
    let parts = or_parts (is_lower c.1 (Some n) || is_lower c.1 (Some n)) (list_any (λ x. is_lower x.1 (Some n) || is_lower x.1 (Some n)) (map (joiner ucd) cs)) e in
    let own = All-head (IsPassedOver ucd) c cs a in
    All-cons (IsBetween n) (classed ucd c) (map (classed ucd) cs) (own.1, λ l f. not-lower-at n l c.1 parts.0 f)
    (none-between-lower ucd n cs (All-tail (IsPassedOver ucd) c cs a) parts.1)

record Joins (ucd : Data) (n : ℕ) (between : List (ℕ × Option ℕ)) : Type 0 where
  odd : n % 2 ≡ 1
  least : All (IsBetween n) (map (classed ucd) between)

joins-of : (ucd : Data) (body : List ℕ) (each : List (Option ℕ)) (us : List Unit) (i j n : ℕ) (s : BeginJoined ucd body each us i j n) → Joins ucd n s.between
joins-of ucd body each us i j n s =
    let first = joiner ucd (s.first, Some n) in
    let second = joiner ucd (s.second, Some n) in
    let inside = map (joiner ucd) s.between in
    let parts = and_parts (joins_on first.0 && joins_back second.0 && are_one_odd first.1 second.1) (none_is_lower inside first second) s.joined in
    let levels = (and_parts (joins_on first.0 && joins_back second.0) (are_one_odd first.1 second.1) parts.0).1 in
    record {
      odd = eqb-true (n % 2) 1 (and_parts _ _ levels).0;
      least = none-between-lower ucd n s.between s.passed (not-false _ parts.1);
    }

-- ---- the units of a row in its body

abbrev counts : List ℕ → List Unit → List ℕ
counts body us = map (λ u. length (unit_chars body u)) us

abbrev spans : List Unit → List (ℕ × ℕ)
spans us = map (λ u. (u.start, u.stop)) us

text-split : (body : List ℕ) (start stop : ℕ) → start ≤ stop → slice_range body start stop ++ drop stop body ≡ drop start body
text-split body start stop h =
    let count : start + (stop - start) ≡ stop = omega (arith, h) in
    ap (λ x. slice_range body start stop ++ x) (ap (λ k. drop k body) (sym count) ∙ sym (drop-drop (stop - start) start body))
    ∙ take-append-drop (stop - start) (drop start body)

some-chars : (cs text : List ℕ) → encode_utf8_all cs ≡ text → 0 < length text → 0 < length cs
some-chars [] text e h = absurd (let none : 0 ≡ length text = ap length e in omega (arith, none, h))
some-chars (c ∷ cs) text e h = omega arith

module _ (body : List ℕ) (valid : IsUtf8 body) where
  unit-valid : (u : Unit) → StandsIn body u → IsUtf8 (unit_text body u)
  unit-valid u s = IsUtf8-between body u.start u.stop valid s.0 s.1 s.2

  units-chars : (us : List Unit) (start stop : ℕ) → All (StandsIn body) us → StandInTurn start (spans us) stop
      → chars (drop start body) ≡ flat_map (unit_chars body) us ++ chars (drop stop body)
  units-chars [] start stop a t = ap (λ n. chars (drop n body)) t
  units-chars (u ∷ us) start stop a t =
      let s = All-head (StandsIn body) u us a in
      ap (λ n. chars (drop n body)) (sym t.0) ∙ ap chars (sym (text-split body u.start u.stop s.0))
      ∙ chars-append (unit_text body u) (drop u.stop body) (unit-valid u s)
      ∙ ap (λ x. unit_chars body u ++ x) (units-chars us u.stop stop (All-tail (StandsIn body) u us a) t.2)
      ∙ sym (append_assoc (unit_chars body u) (flat_map (unit_chars body) us) (chars (drop stop body)))

  -- the characters before a unit
  unit-start : (us : List Unit) (start stop k : ℕ) (d : Unit) → All (StandsIn body) us → StandInTurn start (spans us) stop → k < length us
      → length (chars (take (get_or us k d).start body)) ≡ length (chars (take start body)) + before k (counts body us)
  unit-start [] start stop k d a t h = absurd (omega (arith, h))
  unit-start (u ∷ us) start stop zero d a t h =
      let same = ap (λ n. length (chars (take n body))) t.0 in omega (arith, same)
  unit-start (u ∷ us) start stop (suc k) d a t h =
      let s = All-head (StandsIn body) u us a in
      let rest = unit-start us u.stop stop k d (All-tail (StandsIn body) u us a) t.2 (omega (arith, h)) in
      let own = chars-behind body u.start u.stop valid s.1 s.0 in
      let same = ap (λ n. length (chars (take n body))) t.0 in omega (arith, rest, own, same)

  unit-some : (us : List Unit) (start stop k : ℕ) → All (StandsIn body) us → StandInTurn start (spans us) stop → k < length us
      → 0 < get_or (counts body us) k 0
  unit-some [] start stop k a t h = absurd (omega (arith, h))
  unit-some (u ∷ us) start stop zero a t h =
      let s = All-head (StandsIn body) u us a in
      let within = s.2.0 in
      let some = t.1 in
      let begins = t.0 in
      let size : length (unit_text body u) ≡ u.stop - u.start =
      length-take-le (u.stop - u.start) (drop u.start body) (omega (arith, length-drop u.start body, within, s.0)) in
      some-chars (unit_chars body u) (unit_text body u) (encodes-chars (unit_text body u) (unit-valid u s)) (omega (arith, size, some, begins))
  unit-some (u ∷ us) start stop (suc k) a t h =
      unit-some us u.stop stop k (All-tail (StandsIn body) u us a) t.2 (omega (arith, h))

  -- a unit's characters are among those of all
  before-within : (us : List Unit) (k : ℕ) → k < length us → before k (counts body us) + get_or (counts body us) k 0 ≤ length (flat_map (unit_chars body) us)
  before-within [] k h = absurd (omega (arith, h))
  before-within (u ∷ us) zero h = omega (arith, length-append (unit_chars body u) (flat_map (unit_chars body) us))
  before-within (u ∷ us) (suc k) h =
      omega (arith, length-append (unit_chars body u) (flat_map (unit_chars body) us), before-within us k (omega (arith, h)))

  char-of-unit : (us : List Unit) (k x : ℕ) (d : Unit) (e : ℕ) → k < length us → x < length (unit_chars body (get_or us k d))
      → get_or (flat_map (unit_chars body) us) (before k (counts body us) + x) e ≡ get_or (unit_chars body (get_or us k d)) x e
  char-of-unit [] k x d e h g = absurd (omega (arith, h))
  char-of-unit (u ∷ us) zero x d e h g =
      let none : 0 + x ≡ x = omega arith in
      ap (λ y. get_or (flat_map (unit_chars body) (u ∷ us)) y e) none ∙ get_or_append_left (unit_chars body u) (flat_map (unit_chars body) us) e x g
  char-of-unit (u ∷ us) (suc k) x d e h g =
      let c = length (unit_chars body u) in
      let more : c + before k (counts body us) + x ≡ c + (before k (counts body us) + x) = omega arith in
      ap (λ y. get_or (flat_map (unit_chars body) (u ∷ us)) y e) more
      ∙ get_or-append-add (unit_chars body u) (flat_map (unit_chars body) us) (before k (counts body us) + x) e
      ∙ char-of-unit us k x d e (omega (arith, h)) g

-- a later unit begins after an earlier one
before-later : (k j : ℕ) (cs : List ℕ) → k < j → k < length cs → before k cs + get_or cs k 0 ≤ before j cs
before-later k j [] h g = absurd (omega (arith, g))
before-later k zero (c ∷ cs) h g = absurd (omega (arith, h))
before-later zero (suc j) (c ∷ cs) h g = omega arith
before-later (suc k) (suc j) (c ∷ cs) h g = omega (arith, before-later k j cs (omega (arith, h)) (omega (arith, g)))

-- ---- lists of pairs

module _ {X Y : Type 0} where
  zip-nil : (xs : List X) → zip xs (let ys : List Y = [] in ys) ≡ []
  zip-nil [] = refl
  zip-nil (x ∷ xs) = refl

  drop-nil : (n : ℕ) → drop n (let ps : List (X × Y) = [] in ps) ≡ []
  drop-nil zero = refl
  drop-nil (suc n) = refl

  zip-drop : (n : ℕ) (xs : List X) (ys : List Y) → drop n (zip xs ys) ≡ zip (drop n xs) (drop n ys)
  zip-drop zero xs ys = refl
  zip-drop (suc n) [] ys = refl
  zip-drop (suc n) (x ∷ xs) [] = sym (zip-nil (drop n xs))
  zip-drop (suc n) (x ∷ xs) (y ∷ ys) = zip-drop n xs ys

  -- pairs up to one of the first list
  zip-front : (xs rest : List X) (ys : List Y) (front : List (X × Y)) (p : X × Y) (post : List (X × Y)) → zip (xs ++ rest) ys ≡ front ++ (p ∷ post)
      → length front < length xs → (other : List (X × Y)) × (zip xs ys ≡ front ++ (p ∷ other))
  zip-front [] rest ys front p post e h = absurd (omega (arith, h))
  zip-front (x ∷ xs) rest [] [] p post e h = absurd (cc e)
  zip-front (x ∷ xs) rest [] (q ∷ front) p post e h = absurd (cc e)
  zip-front (x ∷ xs) rest (y ∷ ys) [] p post e h = let head : (x, y) ≡ p = cc e in (zip xs ys, ap (λ q. q ∷ zip xs ys) head)
  zip-front (x ∷ xs) rest (y ∷ ys) (q ∷ front) p post e h =
      let head : (x, y) ≡ q = cc e in
      let tail : zip (xs ++ rest) ys ≡ front ++ (p ∷ post) = cc e in
      let r = zip-front xs rest ys front p post tail (omega (arith, h)) in
      (r.0, ap₂ (λ a b. a ∷ b) head r.1)

  zip-first : (xs : List X) (ys : List Y) (front more : List (X × Y)) (k : ℕ) (d : X) (e : Y) → zip xs ys ≡ front ++ more → k < length front
      → get_or xs k d ≡ (get_or front k (d, e)).0
  zip-first xs ys [] more k d e f h = absurd (omega (arith, h))
  zip-first [] ys (q ∷ front) more k d e f h = absurd (cc f)
  zip-first (x ∷ xs) [] (q ∷ front) more k d e f h = absurd (cc f)
  zip-first (x ∷ xs) (y ∷ ys) (q ∷ front) more zero d e f h = let head : (x, y) ≡ q = cc f in ap (λ p. p.0) head
  zip-first (x ∷ xs) (y ∷ ys) (q ∷ front) more (suc k) d e f h =
      let tail : zip xs ys ≡ front ++ more = cc f in zip-first xs ys front more k d e tail (omega (arith, h))

classed-zip : (ucd : Data) (cs : List ℕ) (ls : List (Option ℕ)) → zip (map ucd.class cs) ls ≡ map (classed ucd) (zip cs ls)
classed-zip ucd [] ls = refl
classed-zip ucd (c ∷ cs) [] = refl
classed-zip ucd (c ∷ cs) (l ∷ ls) = ap (λ x. (ucd.class c, l) ∷ x) (classed-zip ucd cs ls)

-- ---- the letters among the characters of the row

levels-length : (b : ℕ) (ns : List ℕ) (ls : List (Option ℕ)) → length (levels_or_before b (unit_levels ns ls)) ≡ length ns
levels-length b [] ls = refl
levels-length b (n ∷ ns) ls = ap suc (levels-length _ ns (drop n ls))

begins-where : (body : List ℕ) (us : List Unit) (start stop : ℕ) → StandInTurn start (spans us) stop → 0 < length us
    → chars_before body us ≡ length (chars (take start body))
begins-where body [] start stop t h = absurd (omega (arith, h))
begins-where body (u ∷ us) start stop t h = ap (λ n. length (chars (take n body))) t.0

begins-well : (body : List ℕ) (us : List Unit) (start stop : ℕ) → All (StandsIn body) us → StandInTurn start (spans us) stop → 0 < length us
    → IsCharBoundary body start
begins-well body [] start stop a t h = absurd (omega (arith, h))
begins-well body (u ∷ us) start stop a t h = subst (IsCharBoundary body) t.0 (All-head (StandsIn body) u us a).1

-- the characters of a body with their levels, from a row's start on
from-row : (body : List ℕ) (each : List (Option ℕ)) (us : List Unit) (start stop : ℕ) → IsUtf8 body → All (StandsIn body) us
    → StandInTurn start (spans us) stop → 0 < length us → (front all : List (ℕ × Option ℕ)) → zip (chars body) each ≡ front ++ all
    → length (chars (take start body)) ≤ length front
    → zip (flat_map (unit_chars body) us ++ chars (drop stop body)) (drop (length (chars (take start body))) each)
    ≡ drop (length (chars (take start body))) front ++ all
from-row body each us start stop valid a t some front all e h =
    let number = length (chars (take start body)) in
    let rest = flat_map (unit_chars body) us ++ chars (drop stop body) in
    let boundary = begins-well body us start stop a t some in
    let split : chars body ≡ chars (take start body) ++ rest =
    ap chars (sym (take-append-drop start body)) ∙ chars-append (take start body) (drop start body) (IsUtf8-take body start valid boundary)
    ∙ ap (λ x. chars (take start body) ++ x) (units-chars body valid us start stop a t) in
    ap (λ x. zip x (drop number each)) (sym (ap (drop number) split ∙ drop-append_seam (chars (take start body)) rest))
    ∙ sym (zip-drop number (chars body) each) ∙ ap (drop number) e ∙ drop-append-le number front all h

-- the row's characters with their levels, from its start up to the second letter
record InRow (body : List ℕ) (each : List (Option ℕ)) (us : List Unit) (i j n first second : ℕ) (between : List (ℕ × Option ℕ)) : Type 0 where
  own : List ℕ
  levels : List (Option ℕ)
  front : List (ℕ × Option ℕ)
  rest : List (ℕ × Option ℕ)
  own_is : own ≡ flat_map (unit_chars body) us
  levels_are : levels ≡ drop (chars_before body us) each
  are : zip own levels ≡ (front ++ ((first, Some n) ∷ between)) ++ ((second, Some n) ∷ rest)
  at_one : before i (counts body us) ≡ length front
  at_other : before j (counts body us) ≡ length front + (1 + length between)

in-row : (ucd : Data) (body : List ℕ) (each : List (Option ℕ)) (us : List Unit) (start stop i j n : ℕ) → IsUtf8 body → All (StandsIn body) us
    → StandInTurn start (spans us) stop → i < j → j < length us → (s : BeginJoined ucd body each us i j n)
    → InRow body each us i j n s.first s.second s.between
in-row ucd body each us start stop i j n valid a t h within s =
    let d : Unit = get_or us 0 (record { start = 0; stop = 0; face = Tab }) in
    let all = (s.first, Some n) ∷ (s.between ++ ((s.second, Some n) ∷ s.after)) in
    let own = flat_map (unit_chars body) us in
    let number = length (chars (take start body)) in
    let begins = begins-where body us start stop t (omega (arith, within)) in
    let one = sym (unit-start body valid us start stop i d a t (omega (arith, h, within))) ∙ s.one d in
    let other = sym (unit-start body valid us start stop j d a t within) ∙ s.other d in
    let front = drop number s.before in
    let size : length front ≡ length s.before - number = length-drop number s.before in
    let behind : zip (own ++ chars (drop stop body)) (drop number each) ≡ (front ++ ((s.first, Some n) ∷ s.between)) ++ ((s.second, Some n) ∷ s.after) =
    from-row body each us start stop valid a t (omega (arith, within)) s.before all s.body_is (omega (arith, one))
    ∙ sym (append_assoc front ((s.first, Some n) ∷ s.between) ((s.second, Some n) ∷ s.after)) in
    let count : length (front ++ ((s.first, Some n) ∷ s.between)) ≡ length front + suc (length s.between) = length-append front ((s.first, Some n) ∷ s.between) in
    let inside = before-within body valid us j within in
    let some = unit-some body valid us start stop j a t within in
    let found = zip-front own (chars (drop stop body)) (drop number each) (front ++ ((s.first, Some n) ∷ s.between)) (s.second, Some n) s.after behind
    (omega (arith, count, size, one, other, inside, some)) in
    record {
      own = own;
      levels = drop number each;
      front = front;
      rest = found.0;
      own_is = refl;
      levels_are = ap (λ k. drop k each) (sym begins);
      are = found.1;
      at_one = omega (arith, size, one);
      at_other = omega (arith, size, one, other);
    }

letters-of : (ucd : Data) (body : List ℕ) (each : List (Option ℕ)) (us : List Unit) (i j n first second : ℕ) (between : List (ℕ × Option ℕ))
    → All (IsBetween n) (map (classed ucd) between) → InRow body each us i j n first second between
    → HasLetters n i j (counts body us) (row_chars ucd body each us)
letters-of ucd body each us i j n first second between least r =
    let f = classed ucd in record {
      front = map f r.front;
      one = ucd.class first;
      inside = map f between;
      other = ucd.class second;
      rest = map f r.rest;
      are = sym (ap₂ (λ cs ls. zip (map ucd.class cs) ls) r.own_is r.levels_are) ∙ classed-zip ucd r.own r.levels ∙ ap (map f) r.are
          ∙ map-append f (r.front ++ ((first, Some n) ∷ between)) ((second, Some n) ∷ r.rest)
          ∙ ap (λ x. x ++ (f (second, Some n) ∷ map f r.rest)) (map-append f r.front ((first, Some n) ∷ between))
          ∙ append_assoc (map f r.front) (f (first, Some n) ∷ map f between) (f (second, Some n) ∷ map f r.rest);
      at_one = r.at_one ∙ sym (length-map r.front f);
      at_other = r.at_other ∙ ap₂ (λ x y. x + (1 + y)) (sym (length-map r.front f)) (sym (length-map between f));
      least = least;
    }

-- the characters of the units between
passed-over : (ucd : Data) (body : List ℕ) (each : List (Option ℕ)) (us : List Unit) (start stop i j n first second : ℕ) (between : List (ℕ × Option ℕ))
    → IsUtf8 body → All (StandsIn body) us → StandInTurn start (spans us) stop → j < length us → All (IsPassedOver ucd) between
    → InRow body each us i j n first second between
    → (k : ℕ) → i < k → k < j → HoldsAt (λ u. All (λ c. is_transparent (ucd.joining c) ≡ true) (unit_chars body u)) us k
passed-over ucd body each us start stop i j n first second between valid a t within passed r k h g d x e w =
    let cs = counts body us in
    let size : length cs ≡ length us = length-map us (λ u. length (unit_chars body u)) in
    let own : get_or cs k 0 ≡ length (unit_chars body (get_or us k d)) = get_or-map (λ u. length (unit_chars body u)) us k d 0 (omega (arith, g, within)) in
    let first_some = unit-some body valid us start stop i a t (omega (arith, h, g, within)) in
    let behind = before-later i k cs h (omega (arith, h, g, within, size)) in
    let ahead = before-later k j cs g (omega (arith, g, within, size)) in
    let at_one = r.at_one in
    let at_other = r.at_other in
    let y = before k cs + x - length r.front - 1 in
    let there : before k cs + x ≡ length r.front + suc y = omega (arith, behind, first_some, at_one) in
    let inside : y < length between = omega (arith, there, ahead, at_other, own, w) in
    let front = r.front ++ ((first, Some n) ∷ between) in
    let count : length front ≡ length r.front + suc (length between) = length-append r.front ((first, Some n) ∷ between) in
    let letter : get_or (unit_chars body (get_or us k d)) x e ≡ (get_or between y (e, None)).0 =
    sym (char-of-unit body valid us k x d e (omega (arith, g, within)) w) ∙ ap (λ zs. get_or zs (before k cs + x) e) (sym r.own_is)
    ∙ zip-first r.own r.levels front ((second, Some n) ∷ r.rest) (before k cs + x) e None r.are (omega (arith, there, inside, count))
    ∙ ap (λ z. (get_or front z (e, None)).0) there ∙ ap (λ p. p.0) (get_or-append-add r.front ((first, Some n) ∷ between) (suc y) (e, None)) in
    subst (λ c. is_transparent (ucd.joining c) ≡ true) (sym letter) (passed y (e, None) inside).0

pub joined-touch : JoinedLettersTouch
joined-touch ucd body paragraph each us start stop i j n valid a t h within s one other =
    let levels = row_levels ucd body paragraph each us in
    let joins = joins-of ucd body each us i j n s in
    let r = in-row ucd body each us start stop i j n valid a t h within s in
    let letters = letters-of ucd body each us i j n s.first s.second s.between joins.least r in
    let cs = counts body us in
    let size : length cs ≡ length us = length-map us (λ u. length (unit_chars body u)) in
    let count : length levels ≡ length us = levels-length paragraph cs (l1 paragraph (row_chars ucd body each us)) ∙ size in
    let least = all-at n levels i j (omega (arith, h)) (omega (arith, within, count))
    (λ k f g. none-lower paragraph n i j k cs (row_chars ucd body each us) letters h (omega (arith, within, size))
    (unit-some body valid us start stop i a t (omega (arith, h, within))) (unit-some body valid us start stop j a t within) (one 0) (other 0) f g) in
    record {
      touch = equal-odd-touch levels i j n h (omega (arith, within, count)) joins.odd (record { one = one; other = other; least = least });
      passed = passed-over ucd body each us start stop i j n s.first s.second s.between valid a t within s.passed r;
    }

-- ---- a letter that L1 leaves

stays : (p n : ℕ) (class : Class) (b : Bool) → is_segment_separator class ≡ false → is_trailing class ≡ false
    → level_at p (class, Some n) (trails (class, Some n) b) ≡ Some n
stays p n class b e f =
    ap (λ x. level_at p (class, Some n) (elim x as (λ _. Bool) [ true ↦ true | false ↦ is_trailing class && b ])) e
    ∙ ap (λ x. level_at p (class, Some n) (x && b)) f

pub letters-keep-levels : LettersKeepLevels
letters-keep-levels ucd body paragraph each us start stop i n valid a t within s d =
    let f = classed ucd in
    let none : Unit = record { start = 0; stop = 0; face = Tab } in
    let own = flat_map (unit_chars body) us in
    let number = length (chars (take start body)) in
    let front = drop number s.before in
    let some = unit-some body valid us start stop i a t within in
    let one = sym (unit-start body valid us start stop i none a t within) ∙ s.begins none in
    let size : length front ≡ length s.before - number = length-drop number s.before in
    let behind = from-row body each us start stop valid a t (omega (arith, within)) s.before ((s.letter, Some n) ∷ s.after) s.body_is (omega (arith, one)) in
    let found = zip-front own (chars (drop stop body)) (drop number each) front (s.letter, Some n) s.after behind
    (omega (arith, size, one, before-within body valid us i within, some)) in
    let cs = counts body us in
    let ls = l1 paragraph (row_chars ucd body each us) in
    let rest = map f found.0 in
    let are : row_chars ucd body each us ≡ map f front ++ (f (s.letter, Some n) ∷ rest) =
    ap (λ k. zip (map ucd.class own) (drop k each)) (begins-where body us start stop t (omega (arith, within)))
    ∙ classed-zip ucd own (drop number each) ∙ ap (map f) found.1 ∙ map-append f front ((s.letter, Some n) ∷ found.0) in
    let place : before i cs ≡ length (map f front) + 0 = omega (arith, one, size, length-map front f) in
    let here : get_or ls (before i cs) None ≡ Some n =
    ap (λ x. get_or ls x None) place ∙ ap (λ ys. get_or (l1 paragraph ys) (length (map f front) + 0) None) are
    ∙ l1-behind paragraph 0 (map f front) (f (s.letter, Some n) ∷ rest)
    ∙ stays paragraph n (ucd.class s.letter) (only_trailing rest) s.no_separator s.no_blank in
    let count = length-map us (λ u. length (unit_chars body u)) in
    let all = levels-length paragraph cs ls in
    get_or_default (levels_or_before paragraph (unit_levels cs ls)) i d 0 (omega (arith, within, count, all))
    ∙ unit-own paragraph i n cs ls (omega (arith, within, count)) some here
