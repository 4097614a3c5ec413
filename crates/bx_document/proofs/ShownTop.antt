-- A place among the rows that are shown, as a view locates it.
use Rattle.std.proofs.Common.{◌≡◌, ℕ, ◌+◌, ◌-◌, ◌*◌, ◌<◌, List, ◌++◌, length, take, drop, IsUtf8, sym, ap, ◌∙◌, arith}
use Rattle.bx_grid.specs.Grid.{GridState}
use Rattle.bx_view.specs.declared.in_row.RowAt.{RowAt}
use Rattle.bx_view.specs.FoundRow.{StandsOn, rows_by}
use Rattle.bx_view.specs.Caching.{Keeps, ViewState}
use Rattle.bx_view.specs.TextRows.{TextRow, first, row_at, row_of}
use Rattle.bx_view.specs.Top.{follow, nearest_top, shown_rows}
use Rattle.bx_view.proofs.LeastMove.{falls-own}
use Rattle.bx_paragraph.proofs.Starts.{side-some}
use Rattle.bx_view.proofs.CachedRows.{rows-kept}
use Rattle.bx_view.proofs.Walking.{row-within, rows-rise}
use Rattle.bx_ucd.specs.Data.{Data}
use Rattle.bx_document.specs.Drawing.{IsAmong, region_rows}

module _ (ucd : Data) (old v : ViewState) (text : List ℕ) (utf8 : IsUtf8 text)
    (keeps : Keeps ucd old v) (at : RowAt) (top place t begin above : ℕ)
    (on : StandsOn ucd v text at (nearest_top (row_of (rows_by ucd old text) top) (row_of (rows_by ucd old text) place) t))
    (begins : begin ≡ first (row_at (rows_by ucd v text)
    (nearest_top (row_of (rows_by ucd old text) top) (row_of (rows_by ucd old text) place) t)))
    (sum : nearest_top (row_of (rows_by ucd old text) top) (row_of (rows_by ucd old text) place) t + above
    ≡ row_of (rows_by ucd old text) place) where
  abbrev all : List TextRow
  all = rows_by ucd old text

  abbrev k : ℕ
  k = nearest_top (row_of all top) (row_of all place) t

  same : rows_by ucd v text ≡ all
  same = rows-kept ucd old v text keeps

  within : k < length (rows_by ucd v text)
  within = row-within ucd v.base v.w (side-some v.w on.side) text utf8 at.paragraph at.row k on.is

  -- the offset at which the top row begins falls in it
  own : row_of all begin ≡ k
  own =
      let now = rows_by ucd v text in
      let rise = rows-rise ucd v.base v.w (side-some v.w on.side) text utf8 in
      ap (λ rs. row_of rs begin) (sym same) ∙ ap (row_of now) begins ∙ falls-own now _ rise k within

  pub top-is : begin ≡ follow all top place t
  top-is = begins ∙ ap (λ rs. first (row_at rs k)) same

  pub above-is : above ≡ row_of all place - row_of all begin
  above-is = omega (arith, sum, own)

  pub among : above < t → IsAmong all begin place t
  among few = record { above = omega (arith, sum, own); below = omega (arith, sum, own, few) }

  pub drawn-told : (was grid : GridState) (region : ℕ × ℕ) (count : ℕ)
      → grid ≡ record was {
        columns = region_rows ucd v.w region count (take count (drop k (rows_by ucd v text))) ++ drop (count * was.width) was.columns;
      }
      → grid ≡ record was { columns = region_rows ucd old.w region count (shown_rows all begin count) ++ drop (count * was.width) was.columns }
  drawn-told was grid region count e =
      let rest = drop (count * was.width) was.columns in
      e
      ∙ ap (λ w. record was { columns = region_rows ucd w region count (take count (drop k (rows_by ucd v text))) ++ rest }) keeps.w
      ∙ ap (λ rs. record was { columns = region_rows ucd old.w region count (take count (drop k rs)) ++ rest }) same
      ∙ ap (λ m. record was { columns = region_rows ucd old.w region count (take count (drop m all)) ++ rest }) (sym own)
