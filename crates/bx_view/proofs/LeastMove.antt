-- The top moves by the fewest rows that make the place's row visible.
use Rattle.std.proofs.Common.{◌≡◌, ℕ, ◌+◌, ◌<◌, ◌≤◌, List, length, map, get_or, IsUtf8, ap, ◌∙◌, ⊎_elim, arith}
use Rattle.std.specs.Int.{abs_diff}
use Rattle.std.proofs.lemmas.Bool.{cases_lt}
use Rattle.std.proofs.lemmas.List.{get_or-map, length-map}
use Rattle.bx_ucd.specs.Data.{Data}
use Rattle.bx_common.specs.declared.base.Base.{Base}
use Rattle.bx_view.specs.Laws.{IsShownFrom, MovesLeast}
use Rattle.bx_view.specs.TextRows.{TextRow, first, no_text_row, row_at, row_of, text_rows}
use Rattle.bx_view.specs.Top.{follow, nearest_top}
use Rattle.bx_view.proofs.Nearest.{falls-within}
use Rattle.bx_view.proofs.Rising.{Rises, rank, rank-few, rank-here, rank-not-here, rises-apart}
use Rattle.bx_view.proofs.Walking.{rows-rise, text-rank}

-- ---- rows by their numbers: `a` is the old top's, `c` the place's

shown-low : (a c t : ℕ) → 0 < t → nearest_top a c t ≤ c
shown-low a c t some = omega (arith, some)

shown-high : (a c t : ℕ) → 0 < t → c < nearest_top a c t + t
shown-high a c t some = omega (arith, some)

none-nearer : (a c t k : ℕ) → 0 < t → k ≤ c → c < k + t → abs_diff a (nearest_top a c t) ≤ abs_diff a k
none-nearer a c t k some low high = omega (arith, some, low, high)

nearest-stays : (a c t : ℕ) → 0 < t → nearest_top (nearest_top a c t) c t ≡ nearest_top a c t
nearest-stays a c t some = omega (arith, some)

-- ---- rows that rise

module _ (rows : List TextRow) (high : ℕ) (rise : Rises 0 (map first rows) high) where
  abbrev os : List ℕ
  os = map first rows

  begins-at : (n : ℕ) → n < length rows → get_or os n 0 ≡ first (row_at rows n)
  begins-at n h = get_or-map first rows n no_text_row 0 h

  -- the offset at which a row begins falls in that row
  pub falls-own : (k : ℕ) → k < length rows → row_of rows (first (row_at rows k)) ≡ k
  falls-own k h =
      let offset = first (row_at rows k) in
      let count = length-map rows first in
      ⊎_elim
      (λ less. ⊎_elim
      (λ more.
      let next = rank-here offset 0 0 os high (k + 1) rise more in
      let most = rank-few offset os in
      let apart = rises-apart 0 os high k (k + 1) 0 rise (omega arith) (omega (arith, more, most)) in
      absurd (omega (arith, next, apart, begins-at k h)))
      (λ most. omega (arith, less, most)) (cases_lt (k + 1) (rank offset os)))
      (λ not.
      let past = rank-not-here offset 0 0 os high k rise (omega (arith, not)) (omega (arith, h, count)) in
      absurd (omega (arith, past, begins-at k h))) (cases_lt k (rank offset os))

module _ (rows : List TextRow) (high : ℕ) (rise : Rises 0 (map first rows) high) (any : 0 < length rows) where
  module _ (top place t : ℕ) (some : 0 < t) where
    abbrev above : ℕ
    above = row_of rows top

    abbrev cursor : ℕ
    cursor = row_of rows place

    -- the row of the new top
    own : row_of rows (follow rows top place t) ≡ nearest_top above cursor t
    own = let low = shown-low above cursor t some in let within = falls-within rows place any in falls-own rows high rise _ (omega (arith, low, within))

    shows : IsShownFrom rows place t (row_of rows (follow rows top place t))
    shows =
        let low = shown-low above cursor t some in
        let high = shown-high above cursor t some in
        (omega (arith, own, low), omega (arith, own, high))

    nearest : (k : ℕ) → IsShownFrom rows place t k → abs_diff above (row_of rows (follow rows top place t)) ≤ abs_diff above k
    nearest k is = let none = none-nearer above cursor t k some is.0 is.1 in omega (arith, ap (abs_diff above) own, none)

    stays : follow rows (follow rows top place t) place t ≡ follow rows top place t
    stays =
        ap (λ a. first (row_at rows (nearest_top a cursor t))) own
        ∙ ap (λ k. first (row_at rows k)) (nearest-stays above cursor t some)

  moves-least : MovesLeast rows
  moves-least = record { shows = shows; nearest = λ top place t k some. nearest top place t some k; stays = stays }

-- ---- the rows of a text

pub text-moves-least : (ucd : Data) (base : Base) (w : ℕ) (text : List ℕ) → 1 ≤ w → IsUtf8 text
    → MovesLeast (text_rows ucd base w text)
text-moves-least ucd base w text some utf8 =
    let rows = text_rows ucd base w text in
    let few = rank-few 0 (map first rows) in
    let one = text-rank ucd base w some text utf8 0 in
    moves-least rows _ (rows-rise ucd base w some text utf8) (omega (arith, few, one, length-map rows first))
