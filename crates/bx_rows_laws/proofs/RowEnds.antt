-- Rows end with the last unit, after a unit that allows a break, or where no more units fit, as late as possible.
use Rattle.std.proofs.Common.{◌≡◌, ◌⊎◌, ℕ, zero, suc, ◌+◌, ◌-◌, ◌<◌, ◌≤◌, ◌==◌, ◌&&◌, nat_lt, nat_le, Bool, true, false, List, [], ◌∷◌, length, take, drop, get_or, All}
use Rattle.std.proofs.Common.{refl, sym, ap, subst, ◌∙◌, arith, inl, inr}
use Rattle.std.specs.Prelude.{HoldsAt}
use Rattle.std.proofs.lemmas.Bool.{and_from, cases_lt, eqb-false, eqb-true, le-leb, lt-ltb}
use Rattle.std.proofs.lemmas.List.{get_or-drop, get_or-take, length-drop, length-take-le}
use Rattle.std.proofs.lemmas.List.Elements.{All-cons, All-nil, All-tail}
use Rattle.std.proofs.lemmas.List.Sums.{sum_by-cons}
use Rattle.bx_ucd.specs.Data.{Data}
use Rattle.bx_rows.specs.declared.cells.unit.Unit.{Unit}
use Rattle.bx_rows_laws.specs.Laws.{EndsWell, IsFull}
use Rattle.bx_rows.specs.Wrapping.{columns_at, fit_count, fit_count_from, is_break, row_len, row_units, rows_from, up_to_break, up_to_last, wrap}
use Rattle.bx_rows.specs.UnitPlaces.{FitsWindow}
use Rattle.bx_rows.specs.RowPicture.{columns_used, unit_columns}
use Rattle.bx_rows.proofs.EachRow.{row-some}
use Rattle.bx_rows.proofs.PictureSums.{sum_by-same}
use Rattle.bx_rows.proofs.RowsFit.{fit-length, last-length, rest-of, take-length, total}

-- ---- no more units fit

-- the first `n` have all columns, or one more unit would have more
abbrev AreFull : ℕ → ℕ → List Unit → ℕ → Type 0
AreFull w c us n = (w ≤ c + total w c (take n us)) ⊎ (w < c + total w c (take (suc n) us))

no-room : (w c end : ℕ) → (nat_lt c w && nat_le end w) ≡ false → (w ≤ c) ⊎ (w < end)
no-room w c end e =
    elim (cases_lt c w) as (λ _. (w ≤ c) ⊎ (w < end)) [
      | inr h ↦ inl h
      | inl h ↦ elim (cases_lt w end) as (λ _. (w ≤ c) ⊎ (w < end)) [
        | inl k ↦ inr k
        | inr k ↦ let both = and_from (nat_lt c w) (nat_le end w) (lt-ltb c w h) (le-leb end w k) in absurd (cc)
      ]
    ]

full-first : (w c : ℕ) (u : Unit) (us : List Unit) → (w ≤ c) ⊎ (w < c + columns_at w c u.face) → AreFull w c (u ∷ us) 0
full-first w c u us (inl h) = inl (omega (arith, h))
full-first w c u us (inr h) =
    let n = columns_at w c u.face in
    let one : total w c (u ∷ []) ≡ n + total w (c + n) [] = sum_by-cons (λ m. m) n [] in inr (omega (arith, h, one))

full-more : (w c n : ℕ) (u : Unit) (us : List Unit) → AreFull w (c + columns_at w c u.face) us n → AreFull w c (u ∷ us) (suc n)
full-more w c n u us (inl h) = inl (omega (arith, h, sum_by-cons (λ m. m) (columns_at w c u.face) (unit_columns w (c + columns_at w c u.face) (take n us))))
full-more w c n u us (inr h) =
    inr (omega (arith, h, sum_by-cons (λ m. m) (columns_at w c u.face) (unit_columns w (c + columns_at w c u.face) (take (suc n) us))))

full-either : (w c : ℕ) (u : Unit) (us : List Unit) (b : Bool) → (nat_lt c w && nat_le (c + columns_at w c u.face) w) ≡ b
    → (fit_count_from w (c + columns_at w c u.face) us < length us
    → AreFull w (c + columns_at w c u.face) us (fit_count_from w (c + columns_at w c u.face) us))
    → elim b [ true ↦ suc (fit_count_from w (c + columns_at w c u.face) us) | false ↦ 0 ] < suc (length us)
    → AreFull w c (u ∷ us) (elim b [ true ↦ suc (fit_count_from w (c + columns_at w c u.face) us) | false ↦ 0 ])
full-either w c u us true e rest h = full-more w c (fit_count_from w (c + columns_at w c u.face) us) u us (rest (omega (arith, h)))
full-either w c u us false e rest h = full-first w c u us (no-room w c (c + columns_at w c u.face) e)

are-full : (w c : ℕ) (us : List Unit) → fit_count_from w c us < length us → AreFull w c us (fit_count_from w c us)
are-full w c [] h = absurd (omega (arith, h))
are-full w c (u ∷ us) h =
    full-either w c u us (nat_lt c w && nat_le (c + columns_at w c u.face) w) refl (are-full w (c + columns_at w c u.face) us) h

-- ---- the last unit after which a row may end

last-either : (p : Unit → Bool) (u : Unit) (us : List Unit) (b : Bool) (k : ℕ) → p u ≡ b → elim b [ true ↦ 1 | false ↦ 0 ] ≡ suc k
    → HoldsAt (λ v. p v ≡ true) (u ∷ us) k
last-either p u us true zero e h = λ d. e
last-either p u us true (suc k) e h = absurd (omega (arith, h))
last-either p u us false k e h = absurd (omega (arith, h))

last-by : (p : Unit → Bool) (u : Unit) (us : List Unit) (m k : ℕ) → ((n : ℕ) → m ≡ suc n → HoldsAt (λ v. p v ≡ true) us n)
    → elim m [ suc n ↦ suc (suc n) | zero ↦ elim (p u) [ true ↦ 1 | false ↦ 0 ] ] ≡ suc k → HoldsAt (λ v. p v ≡ true) (u ∷ us) k
last-by p u us zero k rest h = last-either p u us (p u) k refl h
last-by p u us (suc n) k rest h =
    let e : suc n ≡ k = omega (arith, h) in subst (HoldsAt (λ v. p v ≡ true) (u ∷ us)) e (λ d. rest n refl d)

last-passes : (p : Unit → Bool) (us : List Unit) (k : ℕ) → up_to_last p us ≡ suc k → HoldsAt (λ v. p v ≡ true) us k
last-passes p [] k h = absurd (omega (arith, h))
last-passes p (u ∷ us) k h = last-by p u us (up_to_last p us) k (λ n e. last-passes p us n e) h

-- ---- a row

-- how a row of this many units ends that begins with the first of these
abbrev EndsAfter : (Unit → Bool) → ℕ → List Unit → ℕ → Type 0
EndsAfter p w us n = (n ≡ length us) ⊎ ((HoldsAt (λ u. p u ≡ true) us (n - 1)) ⊎ (AreFull w 0 us n))

ends-by : (p : Unit → Bool) (w : ℕ) (us : List Unit) (last : ℕ) → fit_count w us < length us → up_to_last p (take (fit_count w us) us) ≡ last
    → EndsAfter p w us (elim last [ zero ↦ fit_count w us | suc k ↦ suc k ])
ends-by p w us zero h e = inr (inr (are-full w 0 us h))
ends-by p w us (suc k) h e =
    let n = fit_count w us in
    let within : k < n = omega (arith, e, last-length p (take n us), take-length n us) in
    let before : suc k - 1 ≡ k = omega arith in
    inr (inl (λ d. ap (λ i. p (get_or us i d)) before ∙ ap p (sym (get_or-take n us k d within)) ∙ last-passes p (take n us) k e d))

ends-either : (p : Unit → Bool) (w : ℕ) (us : List Unit) (b : Bool) → (fit_count w us == length us) ≡ b
    → EndsAfter p w us (elim b [ true ↦ fit_count w us | false ↦ up_to_break p (fit_count w us) us ])
ends-either p w us true e = inl (eqb-true (fit_count w us) (length us) e)
ends-either p w us false e =
    let other : fit_count w us ≡ length us → ⊥ = eqb-false (fit_count w us) (length us) e in
    ends-by p w us (up_to_last p (take (fit_count w us) us)) (omega (arith, other, fit-length w 0 us)) refl

row-ends : (p : Unit → Bool) (w : ℕ) (us : List Unit) → EndsAfter p w us (row_len p w us)
row-ends p w us = ends-either p w us (fit_count w us == length us) refl

-- ---- no longer row is one

grows : (w c a b : ℕ) (us : List Unit) → a ≤ b → total w c (take a us) ≤ total w c (take b us)
grows w c zero b us h = let none : total w c [] ≡ 0 = refl in omega (arith, none)
grows w c (suc a) zero us h = absurd (omega (arith, h))
grows w c (suc a) (suc b) [] h = omega arith
grows w c (suc a) (suc b) (u ∷ us) h =
    let n = columns_at w c u.face in
    omega (
      arith,
      grows w (c + n) a b us (omega (arith, h)),
      sum_by-cons (λ m. m) n (unit_columns w (c + n) (take a us)),
      sum_by-cons (λ m. m) n (unit_columns w (c + n) (take b us)),
    )

full-later : (w c n k : ℕ) (us : List Unit) → n ≤ k → AreFull w c us n → AreFull w c us k
full-later w c n k us h (inl f) = inl (omega (arith, f, grows w c n k us h))
full-later w c n k us h (inr f) =
    elim (cases_lt n k) as (λ _. AreFull w c us k) [
      | inl l ↦ inl (omega (arith, f, grows w c (suc n) k us (omega (arith, l))))
      | inr l ↦ let same : n ≡ k = omega (arith, h, l) in inr (subst (λ m. w < c + total w c (take (suc m) us)) same f)
    ]

one-passes : (m : ℕ) (b : Bool) → b ≡ true → 1 ≤ elim m [ suc n ↦ suc (suc n) | zero ↦ elim b [ true ↦ 1 | false ↦ 0 ] ]
one-passes (suc m) b e = omega arith
one-passes zero true e = omega arith
one-passes zero false e = absurd (cc)

one-later : (m k : ℕ) (b : Bool) → suc k ≤ m → suc (suc k) ≤ elim m [ suc n ↦ suc (suc n) | zero ↦ elim b [ true ↦ 1 | false ↦ 0 ] ]
one-later zero k b h = absurd (omega (arith, h))
one-later (suc m) k b h = omega (arith, h)

last-behind : (p : Unit → Bool) (us : List Unit) (k : ℕ) → k < length us → HoldsAt (λ u. p u ≡ true) us k → suc k ≤ up_to_last p us
last-behind p [] k h e = absurd (omega (arith, h))
last-behind p (u ∷ us) zero h e = one-passes (up_to_last p us) (p u) (e u)
last-behind p (u ∷ us) (suc k) h e = one-later (up_to_last p us) k (p u) (last-behind p us k (omega (arith, h)) (λ d. e d))

last-or-more : (last n k : ℕ) → suc k ≤ last → suc k ≤ elim last [ zero ↦ n | suc j ↦ suc j ]
last-or-more zero n k h = absurd (omega (arith, h))
last-or-more (suc j) n k h = h

longest-by : (p : Unit → Bool) (w k : ℕ) (us : List Unit) → fit_count w us < length us → up_to_break p (fit_count w us) us ≤ k → k < length us
    → (k + 1 ≡ length us) ⊎ HoldsAt (λ u. p u ≡ true) us k → AreFull w 0 us k
longest-by p w k us h m l place =
    let n = fit_count w us in
    elim (cases_lt k n) as (λ _. AreFull w 0 us k) [
      | inr g ↦ full-later w 0 n k us g (are-full w 0 us h)
      | inl g ↦ elim place as (λ _. AreFull w 0 us k) [
        | inl e ↦ absurd (omega (arith, h, g, e))
        | inr e ↦
            let count : length (take n us) ≡ n = length-take-le n us (omega (arith, h)) in
            let last = last-behind p (take n us) k (omega (arith, g, count)) (λ d. ap p (get_or-take n us k d g) ∙ e d) in
            absurd (omega (arith, m, last-or-more (up_to_last p (take n us)) n k last))
      ]
    ]

longest-either : (p : Unit → Bool) (w k : ℕ) (us : List Unit) (b : Bool) → (fit_count w us == length us) ≡ b
    → elim b [ true ↦ fit_count w us | false ↦ up_to_break p (fit_count w us) us ] ≤ k → k < length us
    → (k + 1 ≡ length us) ⊎ HoldsAt (λ u. p u ≡ true) us k → AreFull w 0 us k
longest-either p w k us true e m l place = absurd (omega (arith, eqb-true (fit_count w us) (length us) e, m, l))
longest-either p w k us false e m l place =
    let other : fit_count w us ≡ length us → ⊥ = eqb-false (fit_count w us) (length us) e in
    longest-by p w k us (omega (arith, other, fit-length w 0 us)) m l place

row-longest : (p : Unit → Bool) (w k : ℕ) (us : List Unit) → row_len p w us ≤ k → k < length us → (k + 1 ≡ length us) ⊎ HoldsAt (λ u. p u ≡ true) us k
    → AreFull w 0 us k
row-longest p w k us m l place = longest-either p w k us (fit_count w us == length us) refl m l place

-- ---- a row among all units

full-row : (w i n : ℕ) (us all : List Unit) → us ≡ drop i all → AreFull w 0 us n → IsFull w all (record { start = i; stop = i + n })
full-row w i n us all e a =
    let used : (m : ℕ) → columns_used w (row_units all (record { start = i; stop = i + m })) ≡ 0 + total w 0 (take m us) =
    λ m. ap (columns_used w) (ap (λ k. take k (drop i all)) (let k : i + m - i ≡ m = omega arith in k) ∙ ap (take m) (sym e))
    ∙ sym (sum_by-same (unit_columns w 0 (take m us))) ∙ omega arith in
    let next : columns_used w (row_units all (record { start = i; stop = i + n + 1 })) ≡ 0 + total w 0 (take (suc n) us) =
    ap (λ k. columns_used w (row_units all (record { start = i; stop = k }))) (let k : i + n + 1 ≡ i + suc n = omega arith in k) ∙ used (suc n) in
    elim a as (λ _. IsFull w all (record { start = i; stop = i + n })) [
      | inl h ↦ inl (omega (arith, h, used n))
      | inr h ↦ inr (omega (arith, h, next))
    ]

ends-at : (ucd : Data) (w : ℕ) (body : List ℕ) (i n : ℕ) (us all : List Unit) → us ≡ drop i all → i < length all → 0 < n
    → EndsAfter (is_break ucd body) w us n
    → (i + n ≡ length all) ⊎ (HoldsAt (λ u. is_break ucd body u ≡ true) all (i + n - 1) ⊎ IsFull w all (record { start = i; stop = i + n }))
ends-at ucd w body i n us all e h some (inl a) =
    let count : length us ≡ length all - i = ap length e ∙ length-drop i all in inl (omega (arith, a, count, h))
ends-at ucd w body i n us all e h some (inr (inl a)) =
    let at : i + (n - 1) ≡ i + n - 1 = omega (arith, some) in
    inr (inl (λ d. ap (is_break ucd body)
    (ap (λ k. get_or all k d) (sym at) ∙ sym (get_or-drop i all (n - 1) d) ∙ ap (λ xs. get_or xs (n - 1) d) (sym e)) ∙ a d))
ends-at ucd w body i n us all e h some (inr (inr a)) = inr (inr (full-row w i n us all e a))

place-in : (p : Unit → Bool) (i k : ℕ) (us all : List Unit) → us ≡ drop i all → i ≤ k → (k + 1 ≡ length all) ⊎ HoldsAt (λ u. p u ≡ true) all k
    → (k - i + 1 ≡ length us) ⊎ HoldsAt (λ u. p u ≡ true) us (k - i)
place-in p i k us all e h (inl f) = let count : length us ≡ length all - i = ap length e ∙ length-drop i all in inl (omega (arith, f, count, h))
place-in p i k us all e h (inr f) =
    let at : i + (k - i) ≡ k = omega (arith, h) in
    inr (λ d. ap p (ap (λ xs. get_or xs (k - i) d) e ∙ get_or-drop i all (k - i) d ∙ ap (λ j. get_or all j d) at) ∙ f d)

longest-at : (ucd : Data) (w : ℕ) (body : List ℕ) (i k : ℕ) (us all : List Unit) → us ≡ drop i all → i + row_len (is_break ucd body) w us ≤ k
    → k < length all → (k + 1 ≡ length all) ⊎ HoldsAt (λ u. is_break ucd body u ≡ true) all k → IsFull w all (record { start = i; stop = k })
longest-at ucd w body i k us all e h l place =
    let p = is_break ucd body in
    let n = row_len p w us in
    let count : length us ≡ length all - i = ap length e ∙ length-drop i all in
    let at : i + (k - i) ≡ k = omega (arith, h) in
    subst (λ j. IsFull w all (record { start = i; stop = j })) at
    (full-row w i (k - i) us all e
    (row-longest p w (k - i) us (omega (arith, h)) (omega (arith, h, l, count)) (place-in p i k us all e (omega (arith, h)) place)))

-- ---- rows

rows-end : (ucd : Data) (w : ℕ) (body : List ℕ) (i taken : ℕ) (us all : List Unit) → 1 ≤ w → All (λ u. FitsWindow w u.face) us → us ≡ drop i all
    → All (EndsWell ucd w body all) (rows_from (is_break ucd body) w i taken us)
rows-end ucd w body i taken [] all h fit e = All-nil (EndsWell ucd w body all)
rows-end ucd w body i (suc taken) (u ∷ us) all h fit e =
    rows-end ucd w body (suc i) taken us all h (All-tail (λ v. FitsWindow w v.face) u us fit) (rest-of i u us all e)
rows-end ucd w body i zero (u ∷ us) all h fit e =
    let n = row_len (is_break ucd body) w (u ∷ us) in
    let some : 0 < n = row-some (is_break ucd body) w u us h (fit 0 u (omega arith)) in
    let count : suc (length us) ≡ length all - i = ap length e ∙ length-drop i all in
    All-cons (EndsWell ucd w body all) (record { start = i; stop = i + n }) (rows_from (is_break ucd body) w (suc i) (n - 1) us)
    (record {
      ends = ends-at ucd w body i n (u ∷ us) all e (omega (arith, count)) some (row-ends (is_break ucd body) w (u ∷ us));
      longest = λ k h l place. longest-at ucd w body i k (u ∷ us) all e h l place;
    })
    (rows-end ucd w body (suc i) (n - 1) us all h (All-tail (λ v. FitsWindow w v.face) u us fit) (rest-of i u us all e))

pub rows-end-well : (ucd : Data) (w : ℕ) (body : List ℕ) (us : List Unit) → 1 ≤ w → All (λ u. FitsWindow w u.face) us
    → All (EndsWell ucd w body us) (wrap ucd w body us)
rows-end-well ucd w body [] h fit =
    All-cons (EndsWell ucd w body []) (record { start = 0; stop = 0 }) []
    (record { ends = inl refl; longest = λ k h l place. absurd (omega (arith, l)) }) (All-nil (EndsWell ucd w body []))
rows-end-well ucd w body (u ∷ us) h fit = rows-end ucd w body 0 0 (u ∷ us) (u ∷ us) h fit refl
