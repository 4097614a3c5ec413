-- A region over one row of a text, as the row is found.
use Rattle.std.proofs.Common.{◌≡◌, ℕ, ◌<◌, List, length, sym, ap₂, subst, ◌∙◌, IsUtf8}
use Rattle.std.specs.Prelude.{All}
use Rattle.bx_grid.specs.Columns.{Col}
use Rattle.bx_paragraph.specs.declared.slots.Slot.{Slot}
use Rattle.bx_ucd.specs.Data.{Data}
use Rattle.bx_view.specs.declared.in_row.RowAt.{RowAt}
use Rattle.bx_view.specs.FoundRow.{StandsOn, rows_by}
use Rattle.bx_view.specs.Caching.{ViewState}
use Rattle.bx_view.specs.TextParts.{slots_in}
use Rattle.bx_view.specs.TextRows.{TextRow, no_text_row, row_at}
use Rattle.bx_view.proofs.GlyphCells.{HasFaces, rows-faced}
use Rattle.bx_view.proofs.KeptPlaces.{HasLevels, rows-leveled}
use Rattle.bx_paragraph.proofs.Starts.{side-some}
use Rattle.bx_view.proofs.Walking.{row-within}
use Rattle.bx_document.specs.Drawing.{row_columns, region_columns}
use Rattle.bx_document.specs.RegionSlots.{IsSpan, turned_slots}
use Rattle.bx_document.proofs.RegionColumns.{spans, turned-are}

module _ (ucd : Data) (v : ViewState) (text : List ℕ) (utf8 : IsUtf8 text) (at : RowAt) (n : ℕ) (on : StandsOn ucd v text at n) (region : ℕ × ℕ)
    (cs : List Col) (ss : List Slot) (drawn : cs ≡ row_columns ucd v.w (row_at (rows_by ucd v text) n))
    (chosen : ss ≡ slots_in v.w region (row_at (rows_by ucd v text) n)) where
  abbrev r : TextRow
  r = row_at (rows_by ucd v text) n

  within : n < length (rows_by ucd v text)
  within = row-within ucd v.base v.w (side-some v.w on.side) text utf8 at.paragraph at.row n on.is

  levels : HasLevels r.row
  levels = rows-leveled ucd v.base v.w text n no_text_row within

  faces : HasFaces ucd v.w r.row
  faces = rows-faced ucd v.base v.w text utf8 n no_text_row within

  pub row-spans : All (IsSpan cs) ss
  row-spans =
      subst (λ xs. All (IsSpan xs) ss) (sym drawn)
      (subst (All (IsSpan (row_columns ucd v.w r))) (sym chosen) (spans ucd v.w r levels faces region))

  pub row-laid : turned_slots ss cs ≡ region_columns ucd v.w region r
  row-laid = ap₂ turned_slots chosen drawn ∙ turned-are ucd v.w r levels faces region
