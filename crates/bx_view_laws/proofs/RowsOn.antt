-- A move by rows enters another row by the slot that covers the column, or by the nearest one.
use Rattle.std.proofs.Common.{◌≡◌, ◌≢◌, ℕ, ◌+◌, ◌%◌, ◌<◌, ◌≤◌, true, false, List, length, map, find, Option, Some, None, unwrap_or}
use Rattle.std.proofs.Common.{IsUtf8, refl, sym, ap, subst, ◌∙◌, arith, eq-eqb, ne_eqb}
use Rattle.std.specs.Prelude.{All, MatchOption}
use Rattle.std.proofs.lemmas.List.{length-map}
use Rattle.bx_ucd.specs.Data.{Data}
use Rattle.bx_common.specs.declared.base.Base.{Base}
use Rattle.bx_rows.specs.RowPicture.{columns_used, unit_columns}
use Rattle.bx_rows.specs.RowLevels.{visual}
use Rattle.bx_rows.proofs.NumbersBelow.{below_if_visual}
use Rattle.bx_text.specs.index.Paragraphs.{paragraphs}
use Rattle.bx_paragraph.specs.BodyRows.{BodyRow}
use Rattle.bx_paragraph.specs.Slots.{covers, end_slot, entry, extent_of, left_column, row_slots}
use Rattle.bx_paragraph.proofs.RowSlots.{columns-in-order}
use Rattle.bx_view.specs.declared.moves.Goal.{Goal}
use Rattle.bx_view.specs.declared.moves.Goal.TheVariants.{Column}
use Rattle.bx_view.specs.declared.moves.Vertical.{Vertical}
use Rattle.bx_view.specs.declared.moves.Vertical.TheVariants.{Up, Down}
use Rattle.bx_view_laws.specs.Entry.{IsEntry, RowsGoOn}
use Rattle.bx_view.specs.Moves.{entry_in, goal_in, place_in, row_away, rows_away, to_row}
use Rattle.bx_view.specs.TextRows.{TextRow, first, no_text_row, row_at, row_of, text_rows}
use Rattle.bx_view.proofs.CellColumns.{cell-inside, extents-total, total}
use Rattle.bx_view.proofs.Entered.{row-entered}
use Rattle.bx_view.proofs.KeptPlaces.{HasLevels, rows-leveled}
use Rattle.bx_view.proofs.Nearest.{falls-within}
use Rattle.bx_view.proofs.RowFits.{Fits, fitting-from}
use Rattle.bx_view_laws.proofs.SlotEntry.{Chosen, chosen}
use Rattle.bx_view.proofs.Walking.{text-rank}
use Rattle.bx_view.proofs.Rising.{rank-few}

-- the slot by which a row is entered
row-chosen : (w : ℕ) (r : BodyRow) (column o : ℕ) → HasLevels r → Fits w r → 1 ≤ column → column ≤ w → entry w r column ≡ Some o
    → Chosen column (row_slots w r) o
row-chosen w r column o levels fits some inside is =
    let us = r.units in
    let order = visual r.levels in
    let below : All (λ k. k < length us) order =
    subst (λ n. All (λ k. k < n) order) levels (below_if_visual r.levels order refl) in
    let extents : List (ℕ × ℕ) = map (extent_of us (unit_columns w 0 us)) order in
    let sum : total extents ≡ columns_used w us =
    extents-total w us order below ∙ columns-in-order w us r.levels (unit_columns w 0 us) order levels refl refl in
    chosen column (end_slot w r) refl w (columns_used w us) extents sum fits some inside (r.paragraph % 2) r.is_last (left_column w r) o refl refl
    (find (covers column) (row_slots w r)) refl is

entry-at : (w : ℕ) (r : TextRow) (column place : ℕ) (x : Option ℕ) → HasLevels r.row → Fits w r.row → 1 ≤ column → column ≤ w
    → entry w r.row column ≡ x → MatchOption (place_in r x) ⊥ (λ _. Prim.Unit {0}) → IsEntry w r column (unwrap_or (place_in r x) place)
entry-at w r column place None levels fits some inside is entered = absurd entered
entry-at w r column place (Some o) levels fits some inside is entered =
    let c = row-chosen w r.row column o levels fits some inside is in
    record { slot = c.0; is_slot = c.1; place_is = ap (λ k. r.start + k) c.2; enters = c.3 }

has-some : (P : ℕ → Type 0) (x : Option ℕ) → MatchOption x ⊥ P → MatchOption x ⊥ (λ _. Prim.Unit {0})
has-some P None h = h
has-some P (Some o) h = tt

away-within : (way : Vertical) (count n k : ℕ) → k < count → row_away count way n k < count
away-within Up count n k h = omega (arith, h)
away-within Down count n k h = omega (arith, h)

module _ (ucd : Data) (base : Base) (w : ℕ) (side : 1 ≤ w) (text : List ℕ) (utf8 : IsUtf8 text) where
  abbrev rows : List TextRow
  rows = text_rows ucd base w text

  some-row : 0 < length rows
  some-row = omega (arith, text-rank ucd base w side text utf8 0, rank-few 0 (map first rows), length-map rows first)

  pub entered : (column place k : ℕ) → 1 ≤ column → column ≤ w → k < length rows
      → IsEntry w (row_at rows k) column (unwrap_or (entry_in w (row_at rows k) column) place)
  entered column place k some inside h =
      let r = row_at rows k in
      let is = row-entered ucd base w side text utf8 k h column in
      entry-at w r column place (entry w r.row column) (rows-leveled ucd base w text k no_text_row h)
      (fitting-from ucd base w 0 (paragraphs ucd text) k no_text_row h) some inside refl (has-some _ (entry_in w r column) is)

  enters : (way : Vertical) (n column place k : ℕ) → 1 ≤ column → column ≤ w → k ≡ row_away (length rows) way n (row_of rows place)
      → k ≢ row_of rows place → IsEntry w (row_at rows k) column (rows_away w rows way n (Column column) place)
  enters way n column place k some few e other =
      let inside : k < length rows =
      subst (λ m. m < length rows) (sym e) (away-within way (length rows) n (row_of rows place) (falls-within rows place some-row)) in
      let reached : to_row w rows (Column column) place k ≡ unwrap_or (entry_in w (row_at rows k) column) place =
      ap (λ t. elim t [ true ↦ place | false ↦ unwrap_or (entry_in w (row_at rows k) column) place ]) (ne_eqb k (row_of rows place) other) in
      subst (IsEntry w (row_at rows k) column) (sym reached ∙ ap (to_row w rows (Column column) place) e) (entered column place k some few inside)

  stays : (way : Vertical) (n : ℕ) (goal : Goal) (place : ℕ) → row_away (length rows) way n (row_of rows place) ≡ row_of rows place
      → rows_away w rows way n goal place ≡ place
  stays way n goal place e =
      let k = row_away (length rows) way n (row_of rows place) in
      ap (λ t. elim t [ true ↦ place | false ↦ unwrap_or (goal_in w (row_at rows k) goal) place ]) (eq-eqb k (row_of rows place) e)

  pub rows-go-on : RowsGoOn w rows
  rows-go-on = record { own = λ place. cell-inside ucd base w text place side utf8; enters = enters; stays = stays }
