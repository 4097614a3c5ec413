-- Moves from a row to the one after it or before it.
use Rattle.std.proofs.Common.{◌≡◌, ℕ, suc, ◌+◌, ◌-◌, ◌<◌, List, length, Option, Some, None, IsUtf8, sym, ap, ap₂, ◌∙◌, arith}
use Rattle.std.proofs.lemmas.Option.{slice_get-get_or, slice_get_past}
use Rattle.bx_ucd.specs.Data.{Data}
use Rattle.bx_paragraph.specs.Slots.{reading_end, reading_start}
use Rattle.bx_view.specs.declared.in_row.RowAt.{RowAt}
use Rattle.bx_view.specs.FoundRow.{StandsOn, rows_by}
use Rattle.bx_view.specs.Caching.{Keeps, ViewState}
use Rattle.bx_view.specs.Moves.{end_of, place_in, row_after, row_before, start_of}
use Rattle.bx_view.specs.TextRows.{TextRow, no_text_row, row_at, text_rows}
use Rattle.bx_paragraph.proofs.Starts.{side-some}
use Rattle.bx_view.proofs.Walking.{row-within}

before-at : (rows : List TextRow) (n m : ℕ) → n ≡ suc m → m < length rows → row_before rows n ≡ Some (row_at rows m)
before-at rows n m e h = ap (row_before rows) e ∙ slice_get-get_or rows m no_text_row h

-- one change after another
pub keeps-then : (ucd : Data) (old mid v : ViewState) → Keeps ucd old mid → Keeps ucd mid v
    → Keeps ucd old v
keeps-then ucd old mid v a b = record { base = b.base ∙ a.base; w = b.w ∙ a.w; cache = b.cache }

module _ (ucd : Data) (old v : ViewState) (text : List ℕ) (keeps : Keeps ucd old v) where
  abbrev of : ViewState → List TextRow
  of u = rows_by ucd u text

  -- what is said by the columns and the rows
  pub kept : {A : Type 0} (F : ℕ → List TextRow → A) → F v.w (of v) ≡ F old.w (of old)
  kept F = ap₂ (λ b w. F w (text_rows ucd b w text)) keeps.base keeps.w

  module _ (n : ℕ) where
    pub no-start : n + 1 ≡ length (of v) → None ≡ start_of old.w (row_after (of old) n)
    no-start e = sym (ap (start_of v.w) (slice_get_past (of v) (n + 1) (omega (arith, e)))) ∙ kept (λ w rs. start_of w (row_after rs n))

    pub some-start : (b : RowAt) (o : Option ℕ) → IsUtf8 text → StandsOn ucd v text b (n + 1)
        → o ≡ place_in (row_at (of v) (n + 1)) (reading_start v.w (row_at (of v) (n + 1)).row) → o ≡ start_of old.w (row_after (of old) n)
    some-start b o utf8 on e =
        let within = row-within ucd v.base v.w (side-some v.w on.side) text utf8 b.paragraph b.row (n + 1) on.is in
        e ∙ sym (ap (start_of v.w) (slice_get-get_or (of v) (n + 1) no_text_row within)) ∙ kept (λ w rs. start_of w (row_after rs n))

    pub no-end : n ≡ 0 → None ≡ end_of old.w (row_before (of old) n)
    no-end e = sym (ap (λ k. end_of old.w (row_before (of old) k)) e)

    pub some-end : (b : RowAt) (o : Option ℕ) → IsUtf8 text → (0 < n) × StandsOn ucd v text b (n - 1)
        → o ≡ place_in (row_at (of v) (n - 1)) (reading_end v.w (row_at (of v) (n - 1)).row) → o ≡ end_of old.w (row_before (of old) n)
    some-end b o utf8 on e =
        let within = row-within ucd v.base v.w (side-some v.w on.1.side) text utf8 b.paragraph b.row (n - 1) on.1.is in
        let some = on.0 in
        e ∙ sym (ap (end_of v.w) (before-at (of v) n (n - 1) (omega (arith, some)) within)) ∙ kept (λ w rs. end_of w (row_before rs n))
