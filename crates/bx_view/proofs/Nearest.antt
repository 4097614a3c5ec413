-- Rows by the offsets at which they begin: which is before which, and which is which.
use Rattle.std.proofs.Common.{◌≡◌, ◌≢◌, ℕ, ◌<◌, ◌≤◌, true, false, List, length, map, Option, unwrap_or, sym, ap, ◌∙◌}
use Rattle.std.proofs.Common.{arith, ⊎_elim, eq-eqb, ne_eqb}
use Rattle.std.proofs.lemmas.Bool.{cases_lt}
use Rattle.std.proofs.lemmas.List.{length-map}
use Rattle.bx_view.specs.declared.moves.Goal.{Goal}
use Rattle.bx_view.specs.Moves.{goal_in, to_row}
use Rattle.bx_view.specs.TextRows.{TextRow, first, row_at, row_of}
use Rattle.bx_view.proofs.Rising.{rank-few}

pub falls-within : (rows : List TextRow) (offset : ℕ) → 0 < length rows → row_of rows offset < length rows
falls-within rows offset some = omega (arith, some, rank-few offset (map first rows), length-map rows first)

module _ (rows : List TextRow) (rise : (n m : ℕ) → n < m → m < length rows → first (row_at rows n) < first (row_at rows m)) where
  abbrev begins : ℕ → ℕ
  begins n = first (row_at rows n)

  pub not-after : (n m : ℕ) → n ≤ m → m < length rows → begins n ≤ begins m
  not-after n m h within = ⊎_elim (λ less. omega (arith, rise n m less within))
      (λ not. let same : n ≡ m = omega (arith, h, not) in omega (arith, ap begins same)) (cases_lt n m)

  pub no-later : (n m : ℕ) → n < length rows → begins n ≤ begins m → n ≤ m
  no-later n m within h = ⊎_elim (λ less. absurd (omega (arith, h, rise m n less within))) (λ not. not) (cases_lt m n)

  pub same-row : (n m : ℕ) → n < length rows → m < length rows → begins n ≡ begins m → n ≡ m
  same-row n m a b e = omega (arith, no-later n m a (omega (arith, e)), no-later m n b (omega (arith, e)))

  -- ---- to a row

  module _ (w : ℕ) (goal : Goal) (place k : ℕ) where
    abbrev own : ℕ
    own = row_of rows place

    pub to-own : k < length rows → own < length rows → begins k ≡ begins own → place ≡ to_row w rows goal place k
    to-own a b e = sym (ap (λ t. elim t [ true ↦ place | false ↦ unwrap_or (goal_in w (row_at rows k) goal) place ])
        (eq-eqb k own (same-row k own a b e)))

    pub to-other : (p : Option ℕ) → begins k ≢ begins own → p ≡ goal_in w (row_at rows k) goal → unwrap_or p place ≡ to_row w rows goal place k
    to-other p e f =
        ap (λ o. unwrap_or o place) f
        ∙ sym (ap (λ t. elim t [ true ↦ place | false ↦ unwrap_or (goal_in w (row_at rows k) goal) place ])
        (ne_eqb k own (λ same. e (ap begins same))))
