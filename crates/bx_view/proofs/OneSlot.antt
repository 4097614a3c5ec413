-- Each place occurs once in the slots of the row that it falls in, and in no other row's slots.
use Rattle.std.proofs.Common.{◌≡◌, ◌≢◌, ℕ, zero, suc, ◌+◌, ◌<◌, ◌≤◌, ◌==◌, Bool, true, false, List, [], ◌∷◌, ◌++◌, map, length}
use Rattle.std.proofs.Common.{cond, IsUtf8, refl, ap, subst, ◌∙◌, arith, ⊎_elim, ne_eqb}
use Rattle.std.specs.Prelude.{Contains, IsPermutation}
use Rattle.std.proofs.lemmas.Bool.{cases_lt, eqb-true}
use Rattle.std.proofs.lemmas.List.Concat.{flat_map-cons}
use Rattle.std.proofs.lemmas.List.Sorted.{IsPermutation-map, sum_by-IsPermutation}
use Rattle.std.proofs.lemmas.List.Sums.{sum_by-append, sum_by-cons}
use Rattle.bx_ucd.specs.Data.{Data}
use Rattle.bx_common.specs.declared.base.Base.{Base}
use Rattle.bx_paragraph.specs.BodyRows.{offsets_of}
use Rattle.bx_paragraph.specs.Slots.{slot_offsets}
use Rattle.bx_paragraph.proofs.OnceEach.{once-each}
use Rattle.bx_view.specs.Cells.{HasOneSlot, times}
use Rattle.bx_view.specs.TextRows.{IsPlace, TextRow, first, no_text_row, places, places_of, row_at, row_of, slots, text_rows}
use Rattle.bx_view.proofs.KeptPlaces.{HasLevels, one-at, contains-counted, counted-contains, rows-leveled}
use Rattle.bx_view.proofs.PlacesRise.{AllHeads, firsts-of, places-rise, rows-headed-in}
use Rattle.bx_view.proofs.Rising.{Rises, none-rank, rank, rank-first, rises-behind}

-- ---- offsets that rise

none-times : (low : ℕ) (os : List ℕ) (high p : ℕ) → Rises low os high → p < low → times p os ≡ 0
none-times low [] high p r h = refl
none-times low (o ∷ os) high p r h =
    let other : (o == p) ≡ false = ne_eqb o p (λ same. omega (arith, same, h, r.0)) in
    let here : one-at p o ≡ 0 = ap (λ b. cond b 1 0) other in
    omega (arith, sum_by-cons (one-at p) o os, here, none-times (o + 1) os high p r.1 (omega (arith, h, r.0)))

once-more : (o : ℕ) (os : List ℕ) (high p : ℕ) (b : Bool) → (o == p) ≡ b → Rises (o + 1) os high → times p os ≤ 1 → times p (o ∷ os) ≤ 1
once-more o os high p true e r few =
    let same : o ≡ p = eqb-true o p e in
    let here : one-at p o ≡ 1 = ap (λ t. cond t 1 0) e in
    omega (arith, sum_by-cons (one-at p) o os, here, none-times (o + 1) os high p r (omega (arith, same)))
once-more o os high p false e r few =
    let here : one-at p o ≡ 0 = ap (λ t. cond t 1 0) e in omega (arith, sum_by-cons (one-at p) o os, here, few)

-- an offset occurs at most once among increasing offsets
once-at-most : (low : ℕ) (os : List ℕ) (high p : ℕ) → Rises low os high → times p os ≤ 1
once-at-most low [] high p r = omega arith
once-at-most low (o ∷ os) high p r = once-more o os high p (o == p) refl r.1 (once-at-most (o + 1) os high p r.1)

-- a member of them is not below, and those after it are above
not-below : (low : ℕ) (os : List ℕ) (high p : ℕ) → Rises low os high → 0 < times p os → low ≤ p
not-below low os high p r h =
    ⊎_elim (λ below. absurd (omega (arith, h, none-times low os high p r below))) (λ not. not) (cases_lt p low)

above-at : (o : ℕ) (os ps : List ℕ) (high p : ℕ) (b : Bool) → (o == p) ≡ b → Rises (o + 1) (os ++ ps) high → 0 < times p (o ∷ os)
    → (0 < times p os → Rises (p + 1) ps high) → Rises (p + 1) ps high
above-at o os ps high p true e r h rest =
    let same : o ≡ p = eqb-true o p e in subst (λ k. Rises (k + 1) ps high) same (rises-behind (o + 1) os ps high r)
above-at o os ps high p false e r h rest =
    let here : one-at p o ≡ 0 = ap (λ t. cond t 1 0) e in rest (omega (arith, h, sum_by-cons (one-at p) o os, here))

above : (low : ℕ) (os ps : List ℕ) (high p : ℕ) → Rises low (os ++ ps) high → 0 < times p os → Rises (p + 1) ps high
above low [] ps high p r h = absurd (omega (arith, h))
above low (o ∷ os) ps high p r h = above-at o os ps high p (o == p) refl r.1 h (λ more. above (o + 1) os ps high p r.1 more)

-- ---- the row of a place

times-rows : (p : ℕ) (r : TextRow) (rs : List TextRow) → times p (places (r ∷ rs)) ≡ times p (places_of r) + times p (places rs)
times-rows p r rs =
    ap (times p) (flat_map-cons places_of r rs) ∙ sum_by-append (one-at p) (places_of r) (places rs)

times-few : (p : ℕ) (rs : List TextRow) (k : ℕ) → k < length rs → times p (places_of (row_at rs k)) ≤ times p (places rs)
times-few p [] k h = absurd (omega (arith, h))
times-few p (r ∷ rs) zero h = omega (arith, times-rows p r rs)
times-few p (r ∷ rs) (suc k) h = omega (arith, times-rows p r rs, times-few p rs k (omega (arith, h)))

-- row `k` has the place, no other has it, and it is the row that the place falls in
record IsRowOfPlace (p : ℕ) (rows : List TextRow) (k : ℕ) : Type 0 where
  within : k < length rows
  rank_is : rank p (map first rows) ≡ k + 1
  there : 0 < times p (places_of (row_at rows k))
  elsewhere : (j : ℕ) → j < length rows → j ≢ k → times p (places_of (row_at rows j)) ≡ 0

module _ (p high : ℕ) where
  abbrev Found : List TextRow → Type 0
  Found rows = (k : ℕ) × IsRowOfPlace p rows k

  first-below : (low : ℕ) (r : TextRow) (rs : List TextRow) → AllHeads (r ∷ rs) → Rises low (places (r ∷ rs)) high → 0 < times p (places (r ∷ rs)) → first r ≤ p
  first-below low r rs heads rise h =
      let opened : places (r ∷ rs) ≡ first r ∷ (heads.0.0 ++ places rs) =
      flat_map-cons places_of r rs ∙ ap (λ os. os ++ places rs) heads.0.1 in
      let all : Rises low (first r ∷ (heads.0.0 ++ places rs)) high = subst (λ os. Rises low os high) opened rise in
      let some : 0 < times p (first r ∷ (heads.0.0 ++ places rs)) = omega (arith, h, ap (times p) opened) in
      not-below (first r) (first r ∷ (heads.0.0 ++ places rs)) high p (omega arith, all.1) some

  in-first-alone : (r : TextRow) (rs : List TextRow) → times p (places rs) ≡ 0 → (j : ℕ) → j < length (r ∷ rs) → j ≢ 0
      → times p (places_of (row_at (r ∷ rs) j)) ≡ 0
  in-first-alone r rs none zero h not = absurd (not refl)
  in-first-alone r rs none (suc j) h not = omega (arith, none, times-few p rs j (omega (arith, h)))

  in-first : (low : ℕ) (r : TextRow) (rs : List TextRow) → AllHeads (r ∷ rs) → Rises low (places (r ∷ rs)) high → 0 < times p (places_of r)
      → IsRowOfPlace p (r ∷ rs) 0
  in-first low r rs heads rise h =
      let split : Rises low (places_of r ++ places rs) high = subst (λ os. Rises low os high) (flat_map-cons places_of r rs) rise in
      let past : Rises (p + 1) (places rs) high = above low (places_of r) (places rs) high p split h in
      let begins = first-below low r rs heads rise (omega (arith, h, times-rows p r rs)) in
      let none : times p (places rs) ≡ 0 = none-times (p + 1) (places rs) high p past (omega arith) in
      let others : rank p (map first rs) ≡ 0 = none-rank p (p + 1) (map first rs) high (firsts-of (p + 1) rs high heads.1 past) (omega arith) in
      record {
        within = omega arith;
        rank_is = omega (arith, rank-first p (first r) (map first rs) begins, others);
        there = h;
        elsewhere = in-first-alone r rs none;
      }

  behind-alone : (r : TextRow) (rs : List TextRow) (k : ℕ) → times p (places_of r) ≡ 0
      → ((j : ℕ) → j < length rs → j ≢ k → times p (places_of (row_at rs j)) ≡ 0)
      → (j : ℕ) → j < length (r ∷ rs) → j ≢ suc k → times p (places_of (row_at (r ∷ rs) j)) ≡ 0
  behind-alone r rs k none each zero h not = none
  behind-alone r rs k none each (suc j) h not = each j (omega (arith, h)) (λ same. not (ap suc same))

  not-in-first : (low : ℕ) (r : TextRow) (rs : List TextRow) → Rises low (places (r ∷ rs)) high → 0 < times p (places rs) → times p (places_of r) ≡ 0
  not-in-first low r rs rise h =
      let split : Rises low (places_of r ++ places rs) high = subst (λ os. Rises low os high) (flat_map-cons places_of r rs) rise in
      ⊎_elim
      (λ here. absurd (omega (arith, h, none-times (p + 1) (places rs) high p (above low (places_of r) (places rs) high p split here) (omega arith))))
      (λ none. omega (arith, none)) (cases_lt 0 (times p (places_of r)))

  behind : (low : ℕ) (r : TextRow) (rs : List TextRow) (k : ℕ) → AllHeads (r ∷ rs) → Rises low (places (r ∷ rs)) high → IsRowOfPlace p rs k
      → IsRowOfPlace p (r ∷ rs) (suc k)
  behind low r rs k heads rise found =
      let some : 0 < times p (places rs) = omega (arith, found.there, times-few p rs k found.within) in
      let begins = first-below low r rs heads rise (omega (arith, some, times-rows p r rs)) in record {
        within = omega (arith, found.within);
        rank_is = omega (arith, rank-first p (first r) (map first rs) begins, found.rank_is);
        there = found.there;
        elsewhere = behind-alone r rs k (not-in-first low r rs rise some) found.elsewhere;
      }

  find-row : (low : ℕ) (rows : List TextRow) → AllHeads rows → Rises low (places rows) high → 0 < times p (places rows) → Found rows
  find-row low [] heads rise h = absurd (omega (arith, h))
  find-row low (r ∷ rs) heads rise h =
      let split : Rises low (places_of r ++ places rs) high = subst (λ os. Rises low os high) (flat_map-cons places_of r rs) rise in
      ⊎_elim (λ here. (0, in-first low r rs heads rise here))
      (λ none.
      let rest = find-row low rs heads.1 (rises-behind low (places_of r) (places rs) high split) (omega (arith, h, none, times-rows p r rs)) in
      (suc rest.0, behind low r rs rest.0 heads rise rest.1)) (cases_lt 0 (times p (places_of r)))

-- ---- slots

-- the slots of a row are its places
pub slots-reordered : (w : ℕ) (r : TextRow) → HasLevels r.row → IsPermutation (places_of r) (slots w r)
slots-reordered w r levels =
    IsPermutation-map (λ o. r.start + o) (offsets_of r.row) (slot_offsets w r.row) (once-each w r.row levels)

module _ (ucd : Data) (base : Base) (w : ℕ) (some : 1 ≤ w) (text : List ℕ) (utf8 : IsUtf8 text) where
  abbrev rows : List TextRow
  rows = text_rows ucd base w text

  pub row-slots : (k : ℕ) → k < length rows → IsPermutation (places_of (row_at rows k)) (slots w (row_at rows k))
  row-slots k within = slots-reordered w (row_at rows k) (rows-leveled ucd base w text k no_text_row within)

  pub same-times : (p k : ℕ) → k < length rows → times p (slots w (row_at rows k)) ≡ times p (places_of (row_at rows k))
  same-times p k within = sum_by-IsPermutation (one-at p) (places_of (row_at rows k)) (slots w (row_at rows k)) (row-slots k within)

  abbrev own : ℕ → ℕ
  own p = row_of rows p

  found : (p : ℕ) → IsPlace rows p → Found p (length text + 1) rows
  found p place =
      find-row p (length text + 1) 0 rows (rows-headed-in ucd base w some text utf8) (places-rise ucd base w some text utf8)
      (counted-contains (places rows) p place)

  row-of-place : (p : ℕ) → IsPlace rows p → IsRowOfPlace p rows (own p)
  row-of-place p place =
      let f = found p place in
      let same : f.0 ≡ own p = omega (arith, f.1.rank_is) in subst (IsRowOfPlace p rows) same f.1

  -- the row that a place falls in has it
  pub in-own-row : (p : ℕ) → IsPlace rows p → Contains (places_of (row_at rows (own p))) p
  in-own-row p place = contains-counted (places_of (row_at rows (own p))) p (row-of-place p place).there

  pub one-slot : (p : ℕ) → IsPlace rows p → HasOneSlot w rows p
  one-slot p place =
      let is = row-of-place p place in
      let few = once-at-most 0 (places rows) (length text + 1) p (places-rise ucd base w some text utf8) in record {
        row = is.within;
        once = omega (arith, same-times p (own p) is.within, is.there, few, times-few p rows (own p) is.within);
        elsewhere = λ k within not. same-times p k within ∙ is.elsewhere k within not;
      }
