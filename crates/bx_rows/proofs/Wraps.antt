-- Steps of wrapping.
use Rattle.std.proofs.Common.{◌≡◌, ℕ, zero, suc, ◌+◌, ◌-◌, max, ◌<◌, ◌≤◌, nat_lt, nat_le, ◌&&◌, Bool, true, false, List, [], ◌∷◌, length, get_or, drop, refl}
use Rattle.std.proofs.Common.{sym, ap, ◌∙◌, arith}
use Rattle.std.proofs.lemmas.List.{at_drop_more}
use Rattle.std.proofs.lemmas.Bool.{lt-ltb, le-leb}
use Rattle.std.proofs.lemmas.Bool.Decides.{leb_tells}
use Rattle.bx_rows.specs.declared.cells.unit.Face.TheVariants.{Tab}
use Rattle.bx_rows.specs.declared.cells.unit.Unit.{Unit}
use Rattle.bx_rows.specs.Wrapping.{columns_at, fit_count_from, row_len, rows_from}

-- a unit to read where a list has none
abbrev pub no_unit : Unit
no_unit = record { start = 0; stop = 0; face = Tab }

-- the rows after `k` units that the row before has taken
pub rows_taken : (p : Unit → Bool) (w i k : ℕ) (us : List Unit) → rows_from p w i k us ≡ rows_from p w (i + k) 0 (drop k us)
rows_taken p w i zero us = let e : i + 0 ≡ i = omega arith in ap (λ j. rows_from p w j 0 us) (sym e)
rows_taken p w i (suc k) [] = refl
rows_taken p w i (suc k) (u ∷ us) = let e : suc i + k ≡ i + suc k = omega arith in rows_taken p w (suc i) k us ∙ ap (λ j. rows_from p w j 0 (drop k us)) e

-- one step, by the answers of its two tests
fit_step : (w c : ℕ) (u : Unit) (us : List Unit) (a b : Bool) → nat_lt c w ≡ a → nat_le (c + columns_at w c u.face) w ≡ b
    → fit_count_from w c (u ∷ us) ≡ elim (a && b) [ true ↦ suc (fit_count_from w (c + columns_at w c u.face) us) | false ↦ 0 ]
fit_step w c u us a b d e = ap (λ t. elim t [ true ↦ suc (fit_count_from w (c + columns_at w c u.face) us) | false ↦ 0 ])
    (ap (λ x. x && nat_le (c + columns_at w c u.face) w) d ∙ ap (λ y. a && y) e)

pub fit_cons : (w c : ℕ) (u : Unit) (us : List Unit) → c < w → c + columns_at w c u.face ≤ w
    → fit_count_from w c (u ∷ us) ≡ suc (fit_count_from w (c + columns_at w c u.face) us)
fit_cons w c u us h k = fit_step w c u us true true (lt-ltb c w h) (le-leb _ w k)

fit_none : (w c : ℕ) (u : Unit) (us : List Unit) → c < w → w < c + columns_at w c u.face → fit_count_from w c (u ∷ us) ≡ 0
fit_none w c u us k h = fit_step w c u us true false (lt-ltb c w k) (grind (arith, leb_tells))

fit_full : (w c : ℕ) (us : List Unit) → w ≤ c → fit_count_from w c us ≡ 0
fit_full w c [] h = refl
fit_full w c (u ∷ us) h = fit_step w c u us false (nat_le (c + columns_at w c u.face) w) (grind (arith, leb_tells)) refl

pub fits_no_more : (us : List Unit) (w c i : ℕ) → i < length us → c < w → w < c + columns_at w c (get_or us i no_unit).face → fit_count_from w c (drop i us) ≡ 0
fits_no_more us w c i h k m = at_drop_more (fit_count_from w c) us i no_unit h ∙ fit_none w c (get_or us i no_unit) (drop (i + 1) us) k m

pub fits_full : (us : List Unit) (w c i : ℕ) → w ≤ c → fit_count_from w c (drop i us) ≡ 0
fits_full us w c i h = fit_full w c (drop i us) h

-- the next row, and those after it
pub rows_turn : (p : Unit → Bool) (w i : ℕ) (us : List Unit) → 0 < length us
    → rows_from p w i 0 us ≡ record { start = i; stop = i + row_len p w us } ∷ rows_from p w (i + max (row_len p w us) 1) 0 (drop (max (row_len p w us) 1) us)
rows_turn p w i [] h = absurd (omega arith)
rows_turn p w i (u ∷ us) h =
    let n = row_len p w (u ∷ us) in
    let moved : suc i + (n - 1) ≡ i + max n 1 = omega arith in
    let taken : suc (n - 1) ≡ max n 1 = omega arith in
    ap (λ rs. record { start = i; stop = i + n } ∷ rs)
    (rows_taken p w (suc i) (n - 1) us ∙ ap (λ j. rows_from p w j 0 (drop (n - 1) us)) moved ∙ ap (λ k. rows_from p w (i + max n 1) 0 (drop k (u ∷ us))) taken)
