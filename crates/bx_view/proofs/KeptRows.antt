-- Where rows begin, in later states of a layout.
use Rattle.std.proofs.Common.{◌≡◌, ℕ, ◌<◌, ◌≤◌, List, length, IsUtf8, sym, ap, ap₂, ◌∙◌, arith}
use Rattle.bx_ucd.specs.Data.{Data}
use Rattle.bx_common.specs.Characters.{is_side}
use Rattle.bx_view.specs.declared.in_row.RowAt.{RowAt}
use Rattle.bx_view.specs.declared.moves.Vertical.{Vertical}
use Rattle.bx_view.specs.declared.moves.Vertical.TheVariants.{Up, Down}
use Rattle.bx_view.specs.FoundRow.{StandsOn, rows_by}
use Rattle.bx_view.specs.Caching.{Keeps, ViewState}
use Rattle.bx_view.specs.Moves.{row_away}
use Rattle.bx_view.specs.TextRows.{TextRow, first, row_at, row_of}
use Rattle.bx_view.proofs.Nearest.{falls-within}
use Rattle.bx_paragraph.proofs.Starts.{side-some}
use Rattle.bx_view.proofs.CachedRows.{rows-kept}
use Rattle.bx_view.proofs.Walking.{firsts-rise, row-within}

pub away-within : (count : ℕ) (way : Vertical) (n k : ℕ) → k < count → row_away count way n k < count
away-within count Up n k h = omega (arith, h)
away-within count Down n k h = omega (arith, h)

module _ (ucd : Data) (old v : ViewState) (text : List ℕ) (place : ℕ) (at : RowAt) (utf8 : IsUtf8 text)
    (keeps : Keeps ucd old v) (on : StandsOn ucd v text at (row_of (rows_by ucd v text) place)) where
  abbrev rows : List TextRow
  rows = rows_by ucd old text

  pub side-kept : 1 ≤ old.w
  side-kept = side-some old.w (sym (ap is_side keeps.w) ∙ on.side)

  pub rise-kept : (n m : ℕ) → n < m → m < length rows → first (row_at rows n) < first (row_at rows m)
  rise-kept = firsts-rise ucd old.base old.w side-kept text utf8

  pub own-within : row_of rows place < length rows
  own-within =
      let own = row_of (rows_by ucd v text) place in
      let within = row-within ucd v.base v.w (side-some v.w on.side) text utf8 at.paragraph at.row own on.is in
      falls-within rows place (omega (arith, within, ap length (rows-kept ucd old v text keeps)))

  pub own-first : (o : ℕ) → o ≡ first (row_at (rows_by ucd v text) (row_of (rows_by ucd v text) place))
      → o ≡ first (row_at rows (row_of rows place))
  own-first o e = e ∙ ap (λ rs. first (row_at rs (row_of rs place))) (rows-kept ucd old v text keeps)

  -- where the row of the place begins, by a later state
  pub begins-kept : (later : ViewState) → Keeps ucd old later → (o : ℕ)
      → o ≡ first (row_at (rows_by ucd v text) (row_of (rows_by ucd v text) place))
      → (row_of rows place < length (rows_by ucd later text)) × (o ≡ first (row_at (rows_by ucd later text) (row_of rows place)))
  begins-kept later further o e =
      let same = rows-kept ucd old later text further in
      let within = own-within in
      (omega (arith, within, ap length same), own-first o e ∙ ap (λ rs. first (row_at rs (row_of rows place))) (sym same))

  -- of a row that is found later
  pub far-row : {A : Type 0} (later : ViewState) → Keeps ucd old later → (F : TextRow → A) (number : List TextRow → ℕ)
      → F (row_at (rows_by ucd later text) (number (rows_by ucd v text))) ≡ F (row_at rows (number rows))
  far-row later further F number =
      ap₂ (λ a b. F (row_at a (number b))) (rows-kept ucd old later text further) (rows-kept ucd old v text keeps)
