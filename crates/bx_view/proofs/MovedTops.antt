-- Top rows by their numbers, and the offsets at which they begin.
use Rattle.std.proofs.Common.{◌≡◌, ℕ, ◌+◌, ◌-◌, ◌<◌, ◌≤◌, nat_eq, max, min, true, false, List, length, unwrap_or, sym, ap, ◌∙◌, arith, ⊎_elim, eq-eqb, ne_eqb}
use Rattle.std.proofs.lemmas.Bool.{cases_lt}
use Rattle.std.proofs.lemmas.Bool.Decides.{nat_tests}
use Rattle.bx_view.specs.declared.moves.Goal.{Goal}
use Rattle.bx_view.specs.Moves.{goal_in, to_row}
use Rattle.bx_view.specs.TextRows.{TextRow, first, row_at, row_of}
use Rattle.bx_view.specs.Top.{is_among, last_top, nearest_row, nearest_top}
use Rattle.bx_view.proofs.Nearest.{no-later, not-after}

-- down to the last of `t` rows, and up to the first of them
pub filled-row : (count t k : ℕ) → 0 < t → min (k + (t - 1)) (count - 1) - (t - 1) ≡ min k (last_top count t)
filled-row count t k some = omega (arith, some)

-- the same from a row below
pub filled-below : (count t k n : ℕ) → 0 < t → min (min (k + n) (count - 1)) (last_top count t) ≡ min (k + n) (last_top count t)
filled-below count t k n some = omega (arith, some)

-- the visible row nearest to row `n`, of the `t` rows from row `k` on
near-above : (k n t : ℕ) → n < k → nearest_row k n t ≡ k
near-above k n t h = omega (arith, h)

near-among : (count k n t : ℕ) → 0 < t → k ≤ n → n ≤ min (k + (t - 1)) (count - 1) → nearest_row k n t ≡ n
near-among count k n t some low high = omega (arith, some, low, high)

near-below : (count k n t : ℕ) → 0 < t → n < count → min (k + (t - 1)) (count - 1) < n → nearest_row k n t ≡ min (k + (t - 1)) (count - 1)
near-below count k n t some within h = omega (arith, some, within, h)

-- the nearest top is the old one just where the cursor's row is visible
near-low : (k n t : ℕ) → 0 < t → n < k → nat_eq (nearest_top k n t) k ≡ false
near-low k n t some h = ne_eqb (nearest_top k n t) k (λ e. omega (arith, e, some, h))

near-high : (k n t : ℕ) → 0 < t → k + t ≤ n → nat_eq (nearest_top k n t) k ≡ false
near-high k n t some h = ne_eqb (nearest_top k n t) k (λ e. omega (arith, e, some, h))

pub stays-among : (k n t : ℕ) → 0 < t → nat_eq (nearest_top k n t) k ≡ is_among k n t
stays-among k n t some = ⊎_elim
    (λ above. let no : is_among k n t ≡ false = grind (arith, nat_tests) in near-low k n t some above ∙ sym no)
    (λ low. ⊎_elim
    (λ among. let yes : is_among k n t ≡ true = grind (arith, nat_tests) in eq-eqb (nearest_top k n t) k (omega (arith, some, low, among)) ∙ sym yes)
    (λ below. let no : is_among k n t ≡ false = grind (arith, nat_tests) in near-high k n t some below ∙ sym no) (cases_lt n (k + t))) (cases_lt n k)

module _ (rows : List TextRow) (rise : (n m : ℕ) → n < m → m < length rows → first (row_at rows n) < first (row_at rows m)) where
  abbrev begins : ℕ → ℕ
  begins n = first (row_at rows n)

  -- rows are as their offsets
  pub same-begin : (n m : ℕ) → n < length rows → m < length rows → nat_eq (begins n) (begins m) ≡ nat_eq n m
  same-begin n m a b = ⊎_elim
      (λ less. ne_eqb (begins n) (begins m) (λ e. omega (arith, e, rise n m less b)) ∙ sym (ne_eqb n m (λ e. omega (arith, e, less))))
      (λ not. ⊎_elim
      (λ more. ne_eqb (begins n) (begins m) (λ e. omega (arith, e, rise m n more a)) ∙ sym (ne_eqb n m (λ e. omega (arith, e, more))))
      (λ neither. let e : n ≡ m = omega (arith, not, neither) in eq-eqb (begins n) (begins m) (ap begins e) ∙ sym (eq-eqb n m e)) (cases_lt m n)) (cases_lt n m)

  pub later-begin : (n m : ℕ) → n < length rows → m < length rows → max (begins n) (begins m) ≡ begins (max n m)
  later-begin n m a b = ⊎_elim
      (λ less. let up = rise n m less b in let top : max n m ≡ m = omega (arith, less) in omega (arith, up) ∙ sym (ap begins top))
      (λ not. let down = not-after rows rise m n not a in let top : max n m ≡ n = omega (arith, not) in omega (arith, down) ∙ sym (ap begins top)) (cases_lt n m)

  -- ---- a place, and the visible rows from that of `top` on

  module _ (top place t : ℕ) (some : 0 < t) (above : row_of rows top < length rows) (own : row_of rows place < length rows) where
    abbrev last : ℕ
    last = min (row_of rows top + (t - 1)) (length rows - 1)

    pub row-above : begins (row_of rows place) < begins (row_of rows top) → nearest_row (row_of rows top) (row_of rows place) t ≡ row_of rows top
    row-above h = near-above (row_of rows top) (row_of rows place) t (⊎_elim (λ less. less)
        (λ not. absurd (omega (arith, h, not-after rows rise (row_of rows top) (row_of rows place) not own))) (cases_lt (row_of rows place) (row_of rows top)))

    pub row-among : (begins (row_of rows place) < begins (row_of rows top) → ⊥) → begins (row_of rows place) ≤ begins last
        → nearest_row (row_of rows top) (row_of rows place) t ≡ row_of rows place
    row-among low high =
        near-among (length rows) (row_of rows top) (row_of rows place) t some
        (⊎_elim (λ less. absurd (low (rise (row_of rows place) (row_of rows top) less above))) (λ not. not) (cases_lt (row_of rows place) (row_of rows top)))
        (no-later rows rise (row_of rows place) last own high)

    pub row-below : (begins (row_of rows place) ≤ begins last → ⊥) → nearest_row (row_of rows top) (row_of rows place) t ≡ last
    row-below high =
        near-below (length rows) (row_of rows top) (row_of rows place) t some own
        (⊎_elim (λ less. less) (λ not. absurd (high (not-after rows rise (row_of rows place) last not (omega (arith, above))))) (cases_lt last (row_of rows place)))

-- a place stays in its own row
pub stays-in : (rows : List TextRow) (w : ℕ) (goal : Goal) (place k : ℕ) → k ≡ row_of rows place → place ≡ to_row w rows goal place k
stays-in rows w goal place k own =
    sym (ap (λ b. elim b [ true ↦ place | false ↦ unwrap_or (goal_in w (row_at rows k) goal) place ]) (eq-eqb k (row_of rows place) own))
