-- The top visible row, found row by row from the cursor's row up.
use Rattle.std.proofs.Common.{◌≡◌, ℕ, zero, suc, ◌+◌, ◌-◌, ◌<◌, ◌≤◌, List, length, min, IsUtf8, ap, sym, ◌∙◌, arith, ⊎_elim}
use Rattle.std.proofs.lemmas.Bool.{cases_lt}
use Rattle.bx_ucd.specs.Data.{Data}
use Rattle.bx_view.specs.declared.in_row.RowAt.{RowAt}
use Rattle.bx_view.specs.FoundRow.{StandsOn, rows_by}
use Rattle.bx_view.specs.Caching.{Keeps, ViewState}
use Rattle.bx_view.specs.TextRows.{first, row_at}
use Rattle.bx_view.specs.Top.{nearest_top}
use Rattle.bx_view.proofs.Nearest.{no-later, not-after}
use Rattle.bx_paragraph.proofs.Starts.{side-some}
use Rattle.bx_view.proofs.CachedRows.{rows-kept}
use Rattle.bx_view.proofs.Walking.{firsts-rise, row-within}

-- the old top, where the row `a` above the cursor's is at it or above it; but for the cursor's own row, none that was passed is above the old top
pub top-reached : (k n t a : ℕ) → a ≤ n → a < t → (0 < a → k ≤ n - a) → n - a ≤ k → n - a ≡ nearest_top k n t
top-reached k n t zero within few behind low = let one : min k n ≡ n = omega (arith, low) in omega (arith, few, one, low)
top-reached k n t (suc a) within few behind low =
    let high = behind (omega arith) in let one : min k n ≡ k = omega (arith, high) in omega (arith, within, few, low, high, one)

-- the row as far above as rows are shown
pub top-furthest : (k n t a : ℕ) → a ≤ n → a < t → t ≤ a + 1 → (0 < a → k ≤ n - a) → n - a ≡ nearest_top k n t
top-furthest k n t zero within few last behind = omega (arith, few, last)
top-furthest k n t (suc a) within few last behind =
    let high = behind (omega arith) in let one : min k n ≡ k = omega (arith, high) in omega (arith, within, few, last, high, one)

-- rows by the offsets at which they begin, in a later state of the layout
module _ (ucd : Data) (old v : ViewState) (text : List ℕ) (utf8 : IsUtf8 text)
    (keeps : Keeps ucd old v) (at : RowAt) (m : ℕ) (on : StandsOn ucd v text at m) (k begin old-begin : ℕ)
    (here : begin ≡ first (row_at (rows_by ucd v text) m)) (there : k < length (rows_by ucd old text))
    (begins : old-begin ≡ first (row_at (rows_by ucd old text) k)) where
  same : rows_by ucd v text ≡ rows_by ucd old text
  same = rows-kept ucd old v text keeps

  rise : (n m : ℕ) → n < m → m < length (rows_by ucd v text)
      → first (row_at (rows_by ucd v text) n) < first (row_at (rows_by ucd v text) m)
  rise = firsts-rise ucd v.base v.w (side-some v.w on.side) text utf8

  there-now : old-begin ≡ first (row_at (rows_by ucd v text) k)
  there-now = begins ∙ ap (λ rs. first (row_at rs k)) (sym same)

  here-within : m < length (rows_by ucd v text)
  here-within = row-within ucd v.base v.w (side-some v.w on.side) text utf8 at.paragraph at.row m on.is

  pub at-or-above : begin ≤ old-begin → m ≤ k
  at-or-above h = no-later (rows_by ucd v text) rise m k here-within (omega (arith, h, here, there-now))

  pub behind-it : old-begin < begin → k < m
  behind-it h = ⊎_elim (λ less. less)
      (λ not. absurd (omega (
        arith,
        h,
        here,
        there-now,
        not-after (rows_by ucd v text) rise m k (omega (arith, not)) (omega (arith, there, ap length same)),
      ))) (cases_lt k m)
