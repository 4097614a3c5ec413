-- Wrapping unit by unit: the state of the current row, and its end.
use Rattle.std.proofs.Common.{◌≡◌, ℕ, zero, suc, ◌+◌, max, ◌<◌, ◌≤◌, ◌==◌, ◌⊎◌, Bool, true, false, List, [], ◌∷◌, ◌++◌, length, take, drop, refl, sym, ap, ◌∙◌}
use Rattle.std.proofs.Common.{arith, append_assoc, length-append, eq-eqb, ⊎_elim}
use Rattle.std.proofs.lemmas.List.{take_at, drop_at, drop_all}
use Rattle.std.proofs.lemmas.Bool.{cases_lt}
use Rattle.std.proofs.lemmas.Bool.Decides.{nat_tests}
use Rattle.bx_rows.specs.declared.cells.unit.Face.{Face}
use Rattle.bx_rows.specs.declared.cells.unit.Face.TheVariants.{Tab, Placeholder, Own}
use Rattle.bx_rows.specs.declared.cells.unit.Unit.{Unit}
use Rattle.bx_rows.specs.Wrapping.{columns_at, fit_count_from, up_to_last, up_to_break, row_len, rows_from}
use Rattle.bx_rows.specs.RowScan.{IsScan}
use Rattle.bx_rows.proofs.Wraps.{fit_cons, fits_no_more, fits_full, rows_turn}

-- a unit that begins at column `c` begins in the window and ends in it
abbrev pub Fits : ℕ → ℕ → Unit → Type 0
Fits w c u = (c < w) × (c + columns_at w c u.face ≤ w)

-- units that begin sooner end no later
pub sooner : (w c d : ℕ) (f : Face) → c ≤ d → d ≤ w → c + columns_at w c f ≤ d + columns_at w d f
sooner w c d Tab h k = omega (arith, h, k)
sooner w c d (Placeholder letter) h k = omega (arith, h)
sooner w c d (Own n) h k = omega (arith, h)

past_fits : (w c : ℕ) (u : Unit) (us : List Unit) → w < c + columns_at w c u.face → fit_count_from w c (u ∷ us) ≡ 0
past_fits w c u us past = ⊎_elim (λ less. fits_no_more (u ∷ us) w c 0 (omega arith) less past) (fits_full (u ∷ us) w c 0) (cases_lt c w)

pub none_fits : (w c : ℕ) (u : Unit) (us : List Unit) → (w ≤ c) ⊎ (w < c + columns_at w c u.face) → fit_count_from w c (u ∷ us) ≡ 0
none_fits w c u us h = ⊎_elim (fits_full (u ∷ us) w c 0) (past_fits w c u us) h

-- ---- the last that passes

pub none-append : (p : Unit → Bool) (front back : List Unit) → up_to_last p back ≡ 0 → up_to_last p (front ++ back) ≡ up_to_last p front
none-append p [] back h = h
none-append p (u ∷ us) back h = ap (λ m. elim m [ suc n ↦ suc (suc n) | zero ↦ elim (p u) [ true ↦ 1 | false ↦ 0 ] ]) (none-append p us back h)

pub one-passes : (p : Unit → Bool) (u : Unit) (b : Bool) → p u ≡ b → up_to_last p (u ∷ []) ≡ elim b [ true ↦ 1 | false ↦ 0 ]
one-passes p u b h = ap (λ x. elim x [ true ↦ 1 | false ↦ 0 ]) h

pub ends-push : (p : Unit → Bool) (us : List Unit) (u : Unit) → p u ≡ true → up_to_last p (us ++ u ∷ []) ≡ suc (length us)
ends-push p [] u h = one-passes p u true h
ends-push p (x ∷ us) u h = ap (λ m. elim m [ suc n ↦ suc (suc n) | zero ↦ elim (p x) [ true ↦ 1 | false ↦ 0 ] ]) (ends-push p us u h)

-- ---- a row that is being read

pub scan-new : (p : Unit → Bool) (w : ℕ) (rest : List Unit) → IsScan p w rest rest rest 0 0 0 0
scan-new p w rest = record {
  front = [];
  back = [];
  here_is = refl;
  behind_is = refl;
  ends = refl;
  none = refl;
  last_is = refl;
  count_is = refl;
  fits = omega arith;
  fits_behind = omega arith;
  within = omega arith;
  less = omega arith;
}

-- one more unit fits, and no row may end after it
pub scan-more : (p : Unit → Bool) (w : ℕ) (here behind : List Unit) (u : Unit) (rest : List Unit) (columns last count since : ℕ)
    → IsScan p w here behind (u ∷ rest) columns last count since → Fits w columns u → p u ≡ false
    → IsScan p w here behind rest (columns + columns_at w columns u.face) last (count + 1) (since + columns_at w since u.face)
scan-more p w here behind u rest columns last count since s f no_break =
    let around : s.back ++ u ∷ rest ≡ (s.back ++ u ∷ []) ++ rest = sym (append_assoc s.back (u ∷ []) rest) in
    let less = s.less in
    let sooner_end = sooner w since columns u.face less s.within in
    let step = fit_cons w columns u rest f.0 f.1 in
    let step_back = fit_cons w since u rest (omega (arith, f.0, less)) (omega (arith, f.1, sooner_end)) in
    record {
      front = s.front;
      back = s.back ++ u ∷ [];
      here_is = s.here_is ∙ ap (λ xs. s.front ++ xs) around;
      behind_is = s.behind_is ∙ around;
      ends = s.ends;
      none = none-append p s.back (u ∷ []) (one-passes p u false no_break) ∙ s.none;
      last_is = s.last_is;
      count_is = ap (λ n. n + 1) s.count_is ∙ sym (length-append s.back (u ∷ []));
      fits = s.fits ∙ omega (arith, step);
      fits_behind = s.fits_behind ∙ omega (arith, step_back);
      within = f.1;
      less = sooner_end;
    }

-- one more unit fits, and a row may end after it
pub scan-break : (p : Unit → Bool) (w : ℕ) (here behind : List Unit) (u : Unit) (rest : List Unit) (columns last count since : ℕ)
    → IsScan p w here behind (u ∷ rest) columns last count since → Fits w columns u → p u ≡ true
    → IsScan p w here rest rest (columns + columns_at w columns u.face) (last + count + 1) 0 0
scan-break p w here behind u rest columns last count since s f is_break =
    let all = s.front ++ (s.back ++ u ∷ []) in
    let around : s.front ++ (s.back ++ u ∷ rest) ≡ all ++ rest =
    ap (λ xs. s.front ++ xs) (sym (append_assoc s.back (u ∷ []) rest)) ∙ sym (append_assoc s.front (s.back ++ u ∷ []) rest) in
    let counted : length all ≡ last + count + 1 =
    omega (arith, length-append s.front (s.back ++ u ∷ []), length-append s.back (u ∷ []), s.last_is, s.count_is) in
    let step = fit_cons w columns u rest f.0 f.1 in
    record {
      front = all;
      back = [];
      here_is = s.here_is ∙ around;
      behind_is = refl;
      ends = ap (up_to_last p) (sym (append_assoc s.front s.back (u ∷ []))) ∙ ends-push p (s.front ++ s.back) u is_break
          ∙ omega (arith, length-append s.front s.back, length-append s.front (s.back ++ u ∷ []), length-append s.back (u ∷ []));
      none = refl;
      last_is = sym counted;
      count_is = refl;
      fits = s.fits ∙ omega (arith, step);
      fits_behind = omega arith;
      within = f.1;
      less = omega arith;
    }

-- the units after the break, and after all that were read
module _ (p : Unit → Bool) (w : ℕ) (here behind rest : List Unit) (columns last count since : ℕ) (s : IsScan p w here behind rest columns last count since)
  where
    scan-size : length (s.front ++ s.back) ≡ last + count
    scan-size = omega (arith, length-append s.front s.back, s.last_is, s.count_is)

    scan-around : here ≡ (s.front ++ s.back) ++ rest
    scan-around = s.here_is ∙ sym (append_assoc s.front s.back rest)

    pub drop-break : drop last here ≡ behind
    drop-break = ap (drop last) s.here_is ∙ drop_at s.front (s.back ++ rest) last (sym s.last_is) ∙ sym s.behind_is

    pub drop-read : drop (last + count) here ≡ rest
    drop-read = ap (drop (last + count)) scan-around ∙ drop_at (s.front ++ s.back) rest (last + count) scan-size

    pub scan-length : length here ≡ last + count + length rest
    scan-length = omega (arith, ap length scan-around, length-append (s.front ++ s.back) rest, scan-size)

-- ---- the row's end

not_equal : (n m : ℕ) → n < m → (n == m) ≡ false
not_equal n m h = grind (arith, nat_tests)

-- of n units that fit and others, those up to the last break make the row
len-past : (p : Unit → Bool) (w n : ℕ) (us : List Unit) → fit_count_from w 0 us ≡ n → n < length us → row_len p w us ≡ up_to_break p n us
len-past p w n us fit less =
    ap (λ m. elim (m == length us) [ true ↦ m | false ↦ up_to_break p m us ]) fit
    ∙ ap (λ b. elim b [ true ↦ n | false ↦ up_to_break p n us ]) (not_equal n (length us) less)

abbrev len_of : ℕ → ℕ → ℕ
len_of n m = elim m [ zero ↦ n | suc k ↦ suc k ]

break-at : (p : Unit → Bool) (n : ℕ) (us : List Unit) (m : ℕ) → up_to_last p (take n us) ≡ m → up_to_break p n us ≡ len_of n m
break-at p n us m h = ap (λ x. elim x [ zero ↦ n | suc k ↦ suc k ]) h

some-break : (n m : ℕ) → 0 < m → len_of n m ≡ m
some-break n zero h = absurd (omega (arith, h))
some-break n (suc k) h = refl

row-turn : (p : Unit → Bool) (w i m : ℕ) (us behind : List Unit) → 0 < length us → row_len p w us ≡ m → drop (max m 1) us ≡ behind
    → rows_from p w i 0 us ≡ record { start = i; stop = i + m } ∷ rows_from p w (i + max m 1) 0 behind
row-turn p w i m us behind some len left =
    rows_turn p w i us some
    ∙ ap (λ k. record { start = i; stop = i + k } ∷ rows_from p w (i + max k 1) 0 (drop (max k 1) us)) len
    ∙ ap (λ xs. record { start = i; stop = i + m } ∷ rows_from p w (i + max m 1) 0 xs) left

module _ (p : Unit → Bool) (w : ℕ) (here behind : List Unit) (u : Unit) (rest : List Unit) (columns last count since : ℕ)
    (s : IsScan p w here behind (u ∷ rest) columns last count since) where
  some-here : 0 < length here
  some-here = let size = scan-length p w here behind (u ∷ rest) columns last count since s in omega (arith, size)

  len-scan : fit_count_from w columns (u ∷ rest) ≡ 0 → row_len p w here ≡ len_of (last + count) last
  len-scan full =
      let n = last + count in
      let size = scan-length p w here behind (u ∷ rest) columns last count since s in
      let front = s.front ++ s.back in
      let taken : take n here ≡ front = ap (take n) (scan-around p w here behind (u ∷ rest) columns last count since s)
      ∙ take_at front (u ∷ rest) n (scan-size p w here behind (u ∷ rest) columns last count since s) in
      len-past p w n here (s.fits ∙ omega (arith, full)) (omega (arith, size))
      ∙ break-at p n here last (ap (up_to_last p) taken ∙ none-append p s.front s.back s.none ∙ s.ends ∙ sym s.last_is)

  -- it ends at its last break
  pub row-at-break : fit_count_from w columns (u ∷ rest) ≡ 0 → (i : ℕ) → 0 < last
      → rows_from p w i 0 here ≡ record { start = i; stop = i + last } ∷ rows_from p w (i + last) 0 behind
  row-at-break full i some =
      let one : max last 1 ≡ last = omega (arith, some) in
      row-turn p w i last here behind some-here (len-scan full ∙ some-break (last + count) last some)
      (ap (λ n. drop n here) one ∙ drop-break p w here behind (u ∷ rest) columns last count since s)
      ∙ ap (λ n. record { start = i; stop = i + last } ∷ rows_from p w (i + n) 0 behind) one

  pub scan-at-break : IsScan p w behind behind (u ∷ rest) since 0 count since
  scan-at-break = let within = s.within in let less = s.less in record {
    front = [];
    back = s.back;
    here_is = s.behind_is;
    behind_is = s.behind_is;
    ends = refl;
    none = s.none;
    last_is = refl;
    count_is = s.count_is;
    fits = s.fits_behind ∙ omega arith;
    fits_behind = s.fits_behind;
    within = omega (arith, within, less);
    less = omega arith;
  }

  -- it has no break, and ends where it is full
  pub row-full : fit_count_from w columns (u ∷ rest) ≡ 0 → (i : ℕ) → last ≡ 0 → 0 < count
      → rows_from p w i 0 here ≡ record { start = i; stop = i + count } ∷ rows_from p w (i + count) 0 (u ∷ rest)
  row-full full i none some =
      let sum : last + count ≡ count = omega (arith, none) in
      let one : max count 1 ≡ last + count = omega (arith, some, none) in
      let more : max count 1 ≡ count = omega (arith, some) in
      row-turn p w i count here (u ∷ rest) some-here (len-scan full ∙ ap (len_of (last + count)) none ∙ sum)
      (ap (λ n. drop n here) one ∙ drop-read p w here behind (u ∷ rest) columns last count since s)
      ∙ ap (λ n. record { start = i; stop = i + count } ∷ rows_from p w (i + n) 0 (u ∷ rest)) more

  -- it has no unit, and goes on after the one that is too wide
  pub row-none : fit_count_from w columns (u ∷ rest) ≡ 0 → (i : ℕ) → last ≡ 0 → count ≡ 0
      → rows_from p w i 0 here ≡ record { start = i; stop = i + 0 } ∷ rows_from p w (i + 1) 0 rest
  row-none full i none empty =
      let sum : last + count ≡ 0 = omega (arith, none, empty) in
      let whole : here ≡ u ∷ rest = ap (λ n. drop n here) (sym sum) ∙ drop-read p w here behind (u ∷ rest) columns last count since s in
      row-turn p w i 0 here rest some-here (len-scan full ∙ ap (len_of (last + count)) none ∙ sum) (ap (drop 1) whole)

-- no unit is left: the row has all of its units
pub row-last : (p : Unit → Bool) (w : ℕ) (here behind : List Unit) (columns last count since i : ℕ) → IsScan p w here behind [] columns last count since
    → 0 < last + count → rows_from p w i 0 here ≡ record { start = i; stop = i + (last + count) } ∷ []
row-last p w here behind columns last count since i s some =
    let n = last + count in
    let size : length here ≡ n = scan-length p w here behind [] columns last count since s ∙ omega arith in
    let fit : fit_count_from w 0 here ≡ n = s.fits ∙ omega arith in
    let len : row_len p w here ≡ n =
    ap (λ m. elim (m == length here) [ true ↦ m | false ↦ up_to_break p m here ]) fit
    ∙ ap (λ b. elim b [ true ↦ n | false ↦ up_to_break p n here ]) (eq-eqb n (length here) (sym size)) in
    row-turn p w i n here [] (omega (arith, size, some)) len (drop_all (max n 1) here (omega (arith, size)))

-- and where it has none, there is no row
pub row-empty : (p : Unit → Bool) (w : ℕ) (here behind : List Unit) (columns last count since i : ℕ) → IsScan p w here behind [] columns last count since
    → last ≡ 0 → count ≡ 0 → here ≡ []
row-empty p w here behind columns last count since i s none empty =
    let sum : last + count ≡ 0 = omega (arith, none, empty) in
    ap (λ n. drop n here) (sym sum) ∙ drop-read p w here behind [] columns last count since s
