-- Pointing at a row that is shown leaves the top.
use Rattle.std.proofs.Common.{◌≡◌, ℕ, ◌+◌, ◌-◌, ◌<◌, ◌≤◌, List, length, map, Option, Some, None, min, unwrap_or, IsUtf8, ap, ◌∙◌, arith}
use Rattle.std.specs.Prelude.{Contains, MatchOption}
use Rattle.std.proofs.lemmas.List.{length-map}
use Rattle.bx_ucd.specs.Data.{Data}
use Rattle.bx_common.specs.declared.base.Base.{Base}
use Rattle.bx_view.specs.Moves.{entry_in}
use Rattle.bx_view.specs.Top.{pointed_at, pointed_row, follow, nearest_top}
use Rattle.bx_view.specs.TextRows.{TextRow, first, places_of, row_at, row_of, text_rows}
use Rattle.bx_view.proofs.Entered.{row-entered}
use Rattle.bx_view.proofs.LeastMove.{falls-own}
use Rattle.bx_view.proofs.Nearest.{falls-within}
use Rattle.bx_view.proofs.Rising.{rank-few}
use Rattle.bx_view.proofs.Walking.{rows-rise, text-rank}
use Rattle.bx_view_laws.specs.Pointed.{TopStays}
use Rattle.bx_view_laws.proofs.PointedUnits.{falls-in-own}

-- what is there has the property
pub of-some : (P : ℕ → Type 0) (o : Option ℕ) (other : ℕ) → MatchOption o ⊥ P → P (unwrap_or o other)
of-some P None other h = absurd h
of-some P (Some p) other h = h

-- rows by their numbers: of `count` rows, row `a` is the top one, and the picture's row `r` is pointed at
top-kept : (count a r t : ℕ) → 0 < t → a < count → r ≤ t → nearest_top a (min (a + (r - 1)) (count - 1)) t ≡ a
top-kept count a r t some within shown = omega (arith, some, within, shown)

module _ (ucd : Data) (base : Base) (w : ℕ) (side : 1 ≤ w) (text : List ℕ) (utf8 : IsUtf8 text) where
  abbrev rows : List TextRow
  rows = text_rows ucd base w text

  own-within : (offset : ℕ) → row_of rows offset < length rows
  own-within offset =
      falls-within rows offset (omega (arith, text-rank ucd base w side text utf8 0, rank-few 0 (map first rows), length-map rows first))

  row-is : (top r column : ℕ) → row_of rows (pointed_at w rows top r column) ≡ pointed_row rows top r
  row-is top r column =
      let k = pointed_row rows top r in
      let within : k < length rows = omega (arith, own-within top) in
      (falls-in-own ucd base w side text utf8 k (pointed_at w rows top r column) within
      (of-some (Contains (places_of (row_at rows k))) (entry_in w (row_at rows k) column) 0 (row-entered ucd base w side text utf8 k within column))).0

  module _ (t : ℕ) (some : 0 < t) (top r column : ℕ) (shown : r ≤ t) where
    same : follow rows top (pointed_at w rows top r column) t ≡ first (row_at rows (row_of rows top))
    same =
        ap (λ k. first (row_at rows (nearest_top (row_of rows top) k t))) (row-is top r column)
        ∙ ap (λ k. first (row_at rows k)) (top-kept (length rows) (row_of rows top) r t some (own-within top) shown)

    again : pointed_at w rows (follow rows top (pointed_at w rows top r column) t) r column ≡ pointed_at w rows top r column
    again =
        let own : row_of rows (follow rows top (pointed_at w rows top r column) t) ≡ row_of rows top =
        ap (row_of rows) same ∙ falls-own rows _ (rows-rise ucd base w side text utf8) (row_of rows top) (own-within top) in
        ap (λ a. unwrap_or (entry_in w (row_at rows (min (a + (r - 1)) (length rows - 1))) column) 0) own

  pub top-stays : (t : ℕ) → 0 < t → TopStays w rows t
  top-stays t some = record { same = same t some; again = again t some }
