-- The level of a unit, from its cluster and the levels of the characters from there on.
use Rattle.std.proofs.Common.{◌≡◌, ℕ, zero, suc, ◌+◌, ◌-◌, ◌<◌, ◌≤◌, true, false, List, [], ◌∷◌, ◌++◌, length, take, drop, get_or, slice_get}
use Rattle.std.proofs.Common.{Option, Some, None, IsUtf8, IsCharBoundary, refl, sym, ap, subst, ◌∙◌, ⊎_elim, arith, chars, length-append, append_assoc}
use Rattle.std.proofs.Common.{eq-eqb, ne_eqb}
use Rattle.std.specs.Prelude.{Contains}
use Rattle.std.specs.List.{concat}
use Rattle.std.proofs.lemmas.List.{drop-drop, length-take-le, take_at, take-append-drop}
use Rattle.std.proofs.lemmas.List.Elements.{Contains-append_cases}
use Rattle.std.proofs.lemmas.Str.{IsCharBoundary-from_drop, IsCharBoundary-start, IsUtf8-drop, IsUtf8-take, chars-append, chars-nil}
use Rattle.unicode_segmentation.specs.Grapheme.{graphemes}
use Rattle.bx_rows.specs.RowLevels.{first_level}
use Rattle.bx_rows.proofs.cells_lemmas.Rest.{cluster-grows, first-cluster}
use Rattle.bx_view.specs.Numbers.{boundaries}
use Rattle.bx_document.specs.PlaceLevel.{level_from, unit_level}
use Rattle.bx_document.specs.UnitLevels.{IsFirstLevel}

-- ---- boundaries

one-at : (x v k : ℕ) → k < 1 → get_or (x ∷ []) k v ≡ v → x ≡ v
one-at x v zero h e = e
one-at x v (suc k) h e = absurd (omega (arith, h))

the-one : (x v : ℕ) → Contains (x ∷ []) v → x ≡ v
the-one x v c = one-at x v c.0 c.1 c.2

bounds-from : (start : ℕ) (gs : List (List ℕ)) (x : ℕ) → Contains (boundaries start gs) x → start ≤ x
bounds-from start [] x c = omega (arith, the-one start x c)
bounds-from start (g ∷ gs) x c =
    let next = start + length g in ⊎_elim (λ first. omega (arith, the-one start x first)) (λ later. omega (arith, bounds-from next gs x later))
    (Contains-append_cases (start ∷ []) (boundaries next gs) x c)

-- boundaries of a body within a text
pub bounds-in-body : (start at place : ℕ) (gs : List (List ℕ)) → Contains (boundaries (start + at) gs) place → Contains (boundaries at gs) (place - start)
bounds-in-body start at place [] c =
    let same : at ≡ place - start = omega (arith, the-one (start + at) place c) in (0, omega arith, same)
bounds-in-body start at place (g ∷ gs) c =
    let next : start + at + length g ≡ start + (at + length g) = omega arith in
    ⊎_elim (λ first. let same : at ≡ place - start = omega (arith, the-one (start + at) place first) in (0, omega arith, same))
    (λ later.
    let (k, h, e) = bounds-in-body start (at + length g) place gs (subst (λ n. Contains (boundaries n gs) place) next later) in
    (suc k, omega (arith, h), e))
    (Contains-append_cases ((start + at) ∷ []) (boundaries (start + at + length g) gs) place c)

-- ---- levels from an offset of a body on

module _ (body : List ℕ) (utf8 : IsUtf8 body) (each : List (Option ℕ)) where
  -- the levels of the characters from an offset on
  abbrev pub left : ℕ → List (Option ℕ)
  left at = drop (length (chars (take at body))) each

  -- the level of the first of some clusters, whose characters have these levels
  abbrev pub level_first : List (List ℕ) → List (Option ℕ) → Option ℕ
  level_first [] ls = None
  level_first (u ∷ us) ls = first_level (take (length (chars u)) ls)

  module _ (at : ℕ) (p : List ℕ) (ps : List (List ℕ)) (bound : IsCharBoundary body at) (is : graphemes true (drop at body) ≡ p ∷ ps) where
    bytes-are : body ≡ (take at body ++ p) ++ drop (length p) (drop at body)
    bytes-are =
        let f = first-cluster (drop at body) p ps (IsUtf8-drop body at utf8 bound) is in
        sym (take-append-drop at body) ∙ ap (λ x. take at body ++ x) f.bytes ∙ sym (append_assoc (take at body) p (drop (length p) (drop at body)))

    count : length (take at body ++ p) ≡ at + length p
    count =
        let within : at ≤ length body = bound.0 in
        omega (arith, length-append (take at body) p, length-take-le at body within)

    upto : take (at + length p) body ≡ take at body ++ p
    upto = ap (take (at + length p)) bytes-are ∙ take_at (take at body ++ p) (drop (length p) (drop at body)) (at + length p) count

    more : length (chars (take (at + length p) body)) ≡ length (chars p) + length (chars (take at body))
    more =
        ap (λ x. length (chars x)) upto ∙ ap length (chars-append (take at body) p (IsUtf8-take body at utf8 bound))
        ∙ length-append (chars (take at body)) (chars p) ∙ omega arith

    pub left-next : drop (length (chars p)) (left at) ≡ left (at + length p)
    left-next = drop-drop (length (chars p)) (length (chars (take at body))) each ∙ ap (λ n. drop n each) (omega (arith, more))

    pub next-is : graphemes true (drop (at + length p) body) ≡ ps
    next-is =
        let f = first-cluster (drop at body) p ps (IsUtf8-drop body at utf8 bound) is in
        sym (f.own ∙ ap (graphemes true) (drop-drop (length p) at body))

    pub next-bounds : IsCharBoundary body (at + length p)
    next-bounds =
        let f = first-cluster (drop at body) p ps (IsUtf8-drop body at utf8 bound) is in
        let within : at ≤ length body = bound.0 in
        IsCharBoundary-from_drop body (at + length p)
        (omega (arith, ap length bytes-are, length-append (take at body ++ p) (drop (length p) (drop at body)), count))
        (subst IsUtf8 (drop-drop (length p) at body) f.utf8)

  here-level : (at : ℕ) (p : List ℕ) (ps : List (List ℕ)) (ls : List (Option ℕ)) → level_from at (p ∷ ps) ls at ≡ first_level (take (length (chars p)) ls)
  here-level at p ps ls =
      ap (λ b. elim b [ true ↦ first_level (take (length (chars p)) ls) | false ↦ level_from (at + length p) ps (drop (length (chars p)) ls) at ])
      (eq-eqb at at refl)

  later-level : (at place : ℕ) (p : List ℕ) (ps : List (List ℕ)) (ls : List (Option ℕ)) → at < place
      → level_from at (p ∷ ps) ls place ≡ level_from (at + length p) ps (drop (length (chars p)) ls) place
  later-level at place p ps ls h =
      ap (λ b. elim b [ true ↦ first_level (take (length (chars p)) ls) | false ↦ level_from (at + length p) ps (drop (length (chars p)) ls) place ])
      (ne_eqb at place (λ e. omega (arith, e, h)))

  pub record IsLevelAt (at place : ℕ) (ps : List (List ℕ)) : Type 0 where
    pub level : level_from at ps (left at) place ≡ level_first (graphemes true (drop place body)) (left place)
    pub bounds : IsCharBoundary body place

  level-here : (at place : ℕ) (ps : List (List ℕ)) → at ≡ place → IsCharBoundary body at → graphemes true (drop at body) ≡ ps → IsLevelAt at place ps
  level-here at place [] same bound is = record {
    level = sym (ap (λ gs. level_first gs (left place)) (ap (λ n. graphemes true (drop n body)) (sym same) ∙ is));
    bounds = subst (IsCharBoundary body) same bound;
  }
  level-here at place (p ∷ ps) same bound is = record {
    level = ap (λ n. level_from at (p ∷ ps) (left at) n) (sym same) ∙ here-level at p ps (left at)
        ∙ sym (ap (λ gs. level_first gs (left at)) is) ∙ ap (λ n. level_first (graphemes true (drop n body)) (left n)) same;
    bounds = subst (IsCharBoundary body) same bound;
  }

  -- the level of the unit at a boundary
  level-at : (at place : ℕ) (ps : List (List ℕ)) → IsCharBoundary body at → graphemes true (drop at body) ≡ ps → Contains (boundaries at ps) place
      → IsLevelAt at place ps
  level-at at place [] bound is c = level-here at place [] (the-one at place c) bound is
  level-at at place (p ∷ ps) bound is c =
      let next = at + length p in
      ⊎_elim (λ first. level-here at place (p ∷ ps) (the-one at place first) bound is)
      (λ later.
      let past : at < place = omega (arith, bounds-from next ps place later, cluster-grows body at p ps is) in
      let l = level-at next place ps (next-bounds at p ps bound is) (next-is at p ps bound is) later in
      record {
        level = later-level at place p ps (left at) past ∙ ap (λ ls. level_from next ps ls place) (left-next at p ps bound is) ∙ l.level;
        bounds = l.bounds;
      })
      (Contains-append_cases (at ∷ []) (boundaries next ps) place c)

  left-first : left 0 ≡ each
  left-first = ap (λ cs. drop (length cs) each) chars-nil

  pub unit-at : (place : ℕ) → Contains (boundaries 0 (graphemes true body)) place
      → unit_level body each place ≡ level_first (graphemes true (drop place body)) (left place)
  unit-at place c =
      sym (ap (λ ls. level_from 0 (graphemes true body) ls place) left-first)
      ∙ (level-at 0 place (graphemes true body) (IsCharBoundary-start body utf8) refl c).level

  pub bound-at : (place : ℕ) → Contains (boundaries 0 (graphemes true body)) place → IsCharBoundary body place
  bound-at place c = (level-at 0 place (graphemes true body) (IsCharBoundary-start body utf8) refl c).bounds

  -- the level of the unit after some clusters
  behind-clusters : (front : List (List ℕ)) (at : ℕ) (unit : List ℕ) (rest : List (List ℕ)) → IsCharBoundary body at
      → graphemes true (drop at body) ≡ front ++ unit ∷ rest
      → level_from at (front ++ unit ∷ rest) (left at) (at + length (concat front))
      ≡ first_level (take (length (chars unit)) (left (at + length (concat front))))
  behind-clusters [] at unit rest bound is =
      let none : at ≡ at + 0 = omega arith in
      ap (level_from at (unit ∷ rest) (left at)) (sym none) ∙ here-level at unit rest (left at) ∙ ap (λ n. first_level (take (length (chars unit)) (left n))) none
  behind-clusters (p ∷ front) at unit rest bound is =
      let ps = front ++ unit ∷ rest in
      let next = at + length p in
      let place = at + length (concat (p ∷ front)) in
      let sum : next + length (concat front) ≡ place = omega (arith, length-append p (concat front)) in
      let past : at < place = omega (arith, sum, cluster-grows body at p ps is) in
      later-level at place p ps (left at) past ∙ ap (λ ls. level_from next ps ls place) (left-next at p ps bound is)
      ∙ ap (level_from next ps (left next)) (sym sum)
      ∙ behind-clusters front next unit rest (next-bounds at p ps bound is) (next-is at p ps bound is)
      ∙ ap (λ n. first_level (take (length (chars unit)) (left n))) sum

  pub unit-behind : (front rest : List (List ℕ)) (unit : List ℕ) → graphemes true body ≡ front ++ unit ∷ rest
      → unit_level body each (length (concat front)) ≡ first_level (take (length (chars unit)) (left (length (concat front))))
  unit-behind front rest unit is =
      let place = length (concat front) in
      let none : place ≡ 0 + place = omega arith in
      ap (λ gs. level_from 0 gs each place) is ∙ ap (λ ls. level_from 0 (front ++ unit ∷ rest) ls place) (sym left-first)
      ∙ ap (level_from 0 (front ++ unit ∷ rest) (left 0)) none ∙ behind-clusters front 0 unit rest (IsCharBoundary-start body utf8) is
      ∙ ap (λ n. first_level (take (length (chars unit)) (left n))) (sym none)

-- ---- the first level

-- one level later
pub first-none : (ls : List (Option ℕ)) (i : ℕ) → slice_get ls i ≡ Some None → first_level (drop i ls) ≡ first_level (drop (suc i) ls)
first-none [] i e = cc
first-none (l ∷ ls) zero e = let none : l ≡ None = cc in ap (λ (x : Option ℕ). first_level (x ∷ ls)) none
first-none (l ∷ ls) (suc i) e = first-none ls i e

pub first-some : (ls : List (Option ℕ)) (i level : ℕ) → slice_get ls i ≡ Some (Some level) → first_level (drop i ls) ≡ Some level
first-some [] i level e = cc
first-some (l ∷ ls) zero level e = let some : l ≡ Some level = cc in ap (λ (x : Option ℕ). first_level (x ∷ ls)) some
first-some (l ∷ ls) (suc i) level e = first-some ls i level e

first-taken : (ls : List (Option ℕ)) (i n level : ℕ) → i < n → ((j : ℕ) → j < i → slice_get ls j ≡ Some None) → slice_get ls i ≡ Some (Some level)
    → first_level (take n ls) ≡ Some level
first-taken ls i zero level h none e = absurd (omega (arith, h))
first-taken [] i (suc n) level h none e = cc
first-taken (l ∷ ls) zero (suc n) level h none e = let some : l ≡ Some level = cc in ap (λ (x : Option ℕ). first_level (x ∷ take n ls)) some
first-taken (l ∷ ls) (suc i) (suc n) level h none e =
    let first : slice_get (l ∷ ls) 0 ≡ Some None = none 0 (omega arith) in
    let gone : l ≡ None = cc in
    ap (λ (x : Option ℕ). first_level (x ∷ take n ls)) gone
    ∙ first-taken ls i n level (omega (arith, h)) (λ j k. none (suc j) (omega (arith, k))) e

get-drop : (k : ℕ) (ls : List (Option ℕ)) (j : ℕ) → slice_get (drop k ls) j ≡ slice_get ls (k + j)
get-drop zero ls j = let same : j ≡ 0 + j = omega arith in ap (slice_get ls) same
get-drop (suc k) [] j = refl
get-drop (suc k) (l ∷ ls) j =
    let same : suc (k + j) ≡ suc k + j = omega arith in get-drop k ls j ∙ ap (slice_get (l ∷ ls)) same

pub first-in : (each : List (Option ℕ)) (k i n level : ℕ) → i < n → IsFirstLevel each k i level → first_level (take n (drop k each)) ≡ Some level
first-in each k i n level h f =
    first-taken (drop k each) i n level h (λ j l. get-drop k each j ∙ f.none_before j l) (get-drop k each i ∙ f.level_is)
