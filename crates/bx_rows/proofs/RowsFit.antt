-- The rows of units: each is a part of them that has no more columns than the window.
use Rattle.std.proofs.Common.{◌≡◌, ℕ, zero, suc, ◌+◌, ◌-◌, ◌≤◌, ◌==◌, nat_lt, nat_le, ◌&&◌, Bool, true, false, List, [], ◌∷◌, length, take, drop, sum_by, refl}
use Rattle.std.proofs.Common.{sym, subst, ap, ◌∙◌, arith, All, leb-true, length-drop}
use Rattle.std.proofs.lemmas.Bool.{and_parts}
use Rattle.std.proofs.lemmas.List.{drop-drop}
use Rattle.std.proofs.lemmas.List.Sums.{sum_by-cons}
use Rattle.std.proofs.lemmas.List.Elements.{All-cons, All-nil, All-same}
use Rattle.bx_ucd.specs.Data.{Data}
use Rattle.bx_rows.specs.declared.cells.unit.Unit.{Unit}
use Rattle.bx_rows.specs.declared.wrapping.Row.{Row}
use Rattle.bx_rows.specs.Wrapping.{columns_at, fit_count_from, fit_count, up_to_last, up_to_break, row_len, rows_from, rows_of, is_break, wrap, row_units}
use Rattle.bx_rows.specs.RowPicture.{unit_columns, columns_used}
use Rattle.bx_rows.specs.Shown.{IsRowOf}
use Rattle.bx_rows.proofs.PictureSums.{sum_by-same}

-- ---- a prefix that fits

len-either : (b : Bool) (x n : ℕ) → x ≤ n → elim b [ true ↦ suc x | false ↦ 0 ] ≤ suc n
len-either true x n h = omega (arith, h)
len-either false x n h = omega arith

pub fit-length : (w c : ℕ) (us : List Unit) → fit_count_from w c us ≤ length us
fit-length w c [] = omega arith
fit-length w c (u ∷ us) = len-either (nat_lt c w && nat_le (c + columns_at w c u.face) w) (fit_count_from w (c + columns_at w c u.face) us) (length us)
    (fit-length w (c + columns_at w c u.face) us)

abbrev pub total : ℕ → ℕ → List Unit → ℕ
total w c us = sum_by (λ m. m) (unit_columns w c us)

fits-by : (w c n : ℕ) (u : Unit) (us : List Unit) (b : Bool) → (nat_lt c w && nat_le (c + columns_at w c u.face) w) ≡ b
    → suc n ≤ elim b [ true ↦ suc (fit_count_from w (c + columns_at w c u.face) us) | false ↦ 0 ]
    → (c + columns_at w c u.face ≤ w → n ≤ fit_count_from w (c + columns_at w c u.face) us
    → c + columns_at w c u.face + total w (c + columns_at w c u.face) (take n us) ≤ w)
    → c + total w c (u ∷ take n us) ≤ w
fits-by w c n u us true e k rest =
    let p = and_parts (nat_lt c w) (nat_le (c + columns_at w c u.face) w) e in
    let end = leb-true (c + columns_at w c u.face) w p.1 in
    omega (arith, rest end (omega (arith, k)), sum_by-cons (λ m. m) (columns_at w c u.face) (unit_columns w (c + columns_at w c u.face) (take n us)))
fits-by w c n u us false e k rest = absurd (omega (arith, k))

fits : (w c n : ℕ) (us : List Unit) → c ≤ w → n ≤ fit_count_from w c us → c + total w c (take n us) ≤ w
fits w c zero us h k = let none : total w c [] ≡ 0 = refl in omega (arith, h, none)
fits w c (suc n) [] h k = let none : total w c [] ≡ 0 = refl in omega (arith, h, none)
fits w c (suc n) (u ∷ us) h k = fits-by w c n u us (nat_lt c w && nat_le (c + columns_at w c u.face) w) refl k
    (λ end rest. fits w (c + columns_at w c u.face) n us end rest)

fits-used : (w n : ℕ) (us : List Unit) → n ≤ fit_count w us → columns_used w (take n us) ≤ w
fits-used w n us k =
    let columns = unit_columns w 0 (take n us) in
    let same : total w 0 (take n us) ≡ columns_used w (take n us) = sum_by-same columns in
    omega (arith, fits w 0 n us (omega arith) k, same)

-- ---- a row is such a prefix

last-step : (b : Bool) (m n : ℕ) → m ≤ n → elim m [ suc k ↦ suc (suc k) | zero ↦ elim b [ true ↦ 1 | false ↦ 0 ] ] ≤ suc n
last-step true zero n h = omega arith
last-step false zero n h = omega arith
last-step b (suc m) n h = omega (arith, h)

pub last-length : (p : Unit → Bool) (us : List Unit) → up_to_last p us ≤ length us
last-length p [] = omega arith
last-length p (u ∷ us) = last-step (p u) (up_to_last p us) (length us) (last-length p us)

pub take-length : (n : ℕ) (us : List Unit) → length (take n us) ≤ n
take-length zero us = omega arith
take-length (suc n) [] = omega arith
take-length (suc n) (u ∷ us) = omega (arith, take-length n us)

break-step : (m n : ℕ) → m ≤ n → elim m [ zero ↦ n | suc k ↦ suc k ] ≤ n
break-step zero n h = omega arith
break-step (suc m) n h = h

len-step : (b : Bool) (m n : ℕ) → m ≤ n → elim b [ true ↦ n | false ↦ m ] ≤ n
len-step true m n h = omega arith
len-step false m n h = h

pub row-within : (p : Unit → Bool) (w : ℕ) (us : List Unit) → row_len p w us ≤ fit_count w us
row-within p w us =
    let n = fit_count w us in
    let last : up_to_last p (take n us) ≤ n = omega (arith, last-length p (take n us), take-length n us) in
    len-step (n == length us) (up_to_break p n us) n (break-step (up_to_last p (take n us)) n last)

row-fits : (p : Unit → Bool) (w i : ℕ) (u : Unit) (us all : List Unit) → u ∷ us ≡ drop i all
    → IsRowOf w all (record { start = i; stop = i + row_len p w (u ∷ us) })
row-fits p w i u us all e =
    let n = row_len p w (u ∷ us) in
    let within : n ≤ fit_count w (u ∷ us) = row-within p w (u ∷ us) in
    let count : length (u ∷ us) ≡ length all - i = ap length e ∙ length-drop i all in
    let some : length (u ∷ us) ≡ suc (length us) = refl in
    let len = fit-length w 0 (u ∷ us) in
    let whole : i + n - i ≡ n = omega arith in
    let units : row_units all (record { start = i; stop = i + n }) ≡ take n (u ∷ us) = ap (λ k. take k (drop i all)) whole ∙ ap (take n) (sym e) in
    (omega arith, omega (arith, within, len, count, some), subst (λ xs. columns_used w xs ≤ w) (sym units) (fits-used w n (u ∷ us) within))

pub rest-of : (i : ℕ) (u : Unit) (us all : List Unit) → u ∷ us ≡ drop i all → us ≡ drop (suc i) all
rest-of i u us all e = let one : i + 1 ≡ suc i = omega arith in ap (drop 1) e ∙ drop-drop 1 i all ∙ ap (λ k. drop k all) one

rows-fit : (p : Unit → Bool) (w i k : ℕ) (us all : List Unit) → us ≡ drop i all → All (IsRowOf w all) (rows_from p w i k us)
rows-fit p w i k [] all e = All-nil (IsRowOf w all)
rows-fit p w i (suc k) (u ∷ us) all e = rows-fit p w (suc i) k us all (rest-of i u us all e)
rows-fit p w i zero (u ∷ us) all e =
    let n = row_len p w (u ∷ us) in
    All-cons (IsRowOf w all) (record { start = i; stop = i + n }) (rows_from p w (suc i) (n - 1) us) (row-fits p w i u us all e)
    (rows-fit p w (suc i) (n - 1) us all (rest-of i u us all e))

wrapped-fit : (p : Unit → Bool) (w : ℕ) (us : List Unit) → All (IsRowOf w us) (rows_of p w us)
wrapped-fit p w [] = let none : columns_used w [] ≡ 0 = refl in All-cons (IsRowOf w []) (record { start = 0; stop = 0 }) []
    (omega arith, omega arith, omega (arith, none)) (All-nil (IsRowOf w []))
wrapped-fit p w (u ∷ us) = rows-fit p w 0 0 (u ∷ us) (u ∷ us) refl

pub fit_if_wrapped : (ucd : Data) (w : ℕ) (body : List ℕ) (us : List Unit) (rs : List Row) → rs ≡ wrap ucd w body us → All (IsRowOf w us) rs
fit_if_wrapped ucd w body us rs e = All-same (IsRowOf w us) rs (wrap ucd w body us) e (wrapped-fit (is_break ucd body) w us)
