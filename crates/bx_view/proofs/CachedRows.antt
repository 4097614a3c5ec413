-- The rows of a cached paragraph as rows of the text.
use Rattle.std.proofs.Common.{◌≡◌, ℕ, ◌+◌, ◌-◌, ◌<◌, ◌≤◌, true, List, length}
use Rattle.std.proofs.Common.{get_or, IsUtf8, IsCharBoundary}
use Rattle.std.proofs.Common.{refl, sym, ap, ap₂, subst, ◌∙◌, arith}
use Rattle.bx_ucd.specs.Data.{Data}
use Rattle.bx_common.specs.Characters.{is_side}
use Rattle.bx_text.specs.Changes.{IsRange}
use Rattle.bx_text.specs.index.Paragraphs.{lengths, paragraph_of}
use Rattle.bx_paragraph.specs.BodyRows.{body_rows, first_of}
use Rattle.bx_paragraph.specs.BodyRows.{row_at as row_at_body}
use Rattle.bx_paragraph.specs.Layout.{row_of as row_of_body, LayoutState, row_by, rows_by}
use Rattle.bx_paragraph.proofs.Starts.{row_count, side-some}
use Rattle.bx_view.specs.declared.in_row.RowAt.{RowAt}
use Rattle.bx_view.specs.FoundRow.{StandsOn}
use Rattle.bx_view.specs.Caching.{Caches, IsCached, IsOfText, IsViewBy, Keeps, ViewState}
use Rattle.bx_view.specs.Moves.{row_home}
use Rattle.bx_view.specs.Standing.{IsRow, rows_in}
use Rattle.bx_view.specs.Numbers.{body_at, count, start_at}
use Rattle.bx_view.specs.TextRows.{TextRow, first, row_at, row_of, text_row, text_rows}
use Rattle.bx_view.proofs.Numbers.{body-range}
use Rattle.bx_view.proofs.Walking.{before-over, before-some, first-short, next-none, next-over, row-is, row-under}

module _ (ucd : Data) where
  abbrev of : ViewState → List ℕ → List TextRow
  of v text = text_rows ucd v.base v.w text

  -- a paragraph that is cached
  pub of-text : (v : ViewState) (text : List ℕ) (number cached : ℕ) (l : LayoutState) → is_side v.w ≡ true → IsViewBy ucd v
      → Caches (body_at ucd text number) v.w v.cache cached → l ≡ get_or v.cache cached l → IsOfText ucd v text number l
  of-text v text number cached l side all h e =
      let is : IsCached ucd v.base l = subst (IsCached ucd v.base) (sym e) (all.laid_out cached l h.within) in
      let w_is : l.w ≡ v.w = ap (λ (x : LayoutState). x.w) e ∙ h.w_is l in
      let body : l.body ≡ body_at ucd text number = ap (λ (x : LayoutState). x.body) e ∙ h.body_is l in
      let same : rows_by ucd l ≡ rows_in ucd v.base v.w text number =
      ap (λ b. body_rows ucd b l.w l.body) is.base_is ∙ ap (λ w. body_rows ucd v.base w l.body) w_is
      ∙ ap (body_rows ucd v.base v.w) body in
      record {
        side = side;
        by = is.rows;
        w_is = w_is;
        body_is = body;
        rows_are = same;
        count_is = row_count l (ap is_side w_is ∙ side) ucd is.rows ∙ ap length same;
      }

  -- the row that an offset falls in
  pub stands : (v : ViewState) (text : List ℕ) (offset : ℕ) (at : RowAt) (l : LayoutState) → IsUtf8 text → IsViewBy ucd v
      → at.paragraph ≡ paragraph_of (lengths ucd text) offset → at.start ≡ start_at ucd text at.paragraph
      → Caches (body_at ucd text at.paragraph) v.w v.cache at.cached → IsOfText ucd v text at.paragraph l
      → at.row ≡ row_of_body (rows_by ucd l) (offset - at.start) → StandsOn ucd v text at (row_of (of v text) offset)
  stands v text offset at l utf8 all number start cached is row = record {
    by = all;
    side = is.side;
    start_is = start;
    is = row-under ucd v.base v.w (side-some v.w is.side) text utf8 offset at.paragraph at.row number
        (row ∙ ap (λ rs. row_of_body rs (offset - at.start)) is.rows_are
        ∙ ap (λ s. row_of_body (rows_in ucd v.base v.w text at.paragraph) (offset - s)) start);
    cached_is = cached;
  }

  -- and its number in the paragraph, from its number in the text
  pub row-own : (v : ViewState) (text : List ℕ) (offset : ℕ) (at : RowAt) (l : LayoutState) → IsUtf8 text
      → at.paragraph ≡ paragraph_of (lengths ucd text) offset → StandsOn ucd v text at (row_of (of v text) offset)
      → IsOfText ucd v text at.paragraph l → at.row ≡ row_of_body (rows_by ucd l) (offset - at.start)
  row-own v text offset at l utf8 number on is =
      let there : RowAt = record at { row = row_of_body (rows_by ucd l) (offset - at.start) } in
      let same = stands v text offset there l utf8 on.by number on.start_is on.cached_is is refl in
      omega (arith, on.is.is, same.is.is)

  -- row `n` of the text is a row of the paragraph that is cached
  module _ (v : ViewState) (text : List ℕ) (at : RowAt) (n : ℕ) (l : LayoutState) (utf8 : IsUtf8 text)
      (on : StandsOn ucd v text at n) (is : IsOfText ucd v text at.paragraph l) where
    pub row-counted : at.row < length l.starts
    row-counted = let within = on.is.row in omega (arith, within, is.count_is)

    pub first-fits : at.start + first_of (row_by ucd l at.row) ≤ length text
    first-fits = subst (λ s. s + first_of (row_by ucd l at.row) ≤ length text) (sym on.start_is)
        (subst (λ rs. start_at ucd text at.paragraph + first_of (row_at_body rs at.row) ≤ length text) (sym is.rows_are)
        (first-short ucd v.base v.w (side-some v.w is.side) text utf8 at.paragraph at.row n on.is))

    pub row-in-text : row_at (of v text) n ≡ text_row at.start (row_by ucd l at.row)
    row-in-text = row-is ucd v.base v.w (side-some v.w is.side) text utf8 at.paragraph at.row n on.is
        ∙ ap (λ rs. text_row (start_at ucd text at.paragraph) (row_at_body rs at.row)) (sym is.rows_are)
        ∙ ap (λ s. text_row s (row_by ucd l at.row)) (sym on.start_is)

    -- its properties are row `n`'s
    pub of-row : {A : Type 0} (F : TextRow → A) → F (text_row at.start (row_by ucd l at.row)) ≡ F (row_at (of v text) n)
    of-row F = sym (ap F row-in-text)

    -- it is the row of that number of the paragraph's body
    pub row-in-body : (body : List ℕ) → body ≡ l.body
        → (row_at (of v text) n).row ≡ row_at_body (body_rows ucd v.base v.w body) at.row
    row-in-body body e =
        sym (of-row (λ r. r.row)) ∙ ap (λ rs. row_at_body rs at.row) is.rows_are
        ∙ ap (λ b. row_at_body (body_rows ucd v.base v.w b) at.row) (sym is.body_is ∙ sym e)

    abbrev high : ℕ
    high = length (body_at ucd text at.paragraph)

    pub high-fits : at.start + high ≤ length text
    high-fits =
        let range : IsRange text (start_at ucd text at.paragraph) (start_at ucd text at.paragraph + high) =
        body-range ucd text at.paragraph on.is.paragraph utf8 in
        let bounds : IsCharBoundary text (start_at ucd text at.paragraph + high) = range.stop_bounds in
        let inside : start_at ucd text at.paragraph + high ≤ length text = bounds.0 in
        omega (arith, inside, on.start_is)

  -- rows stay the same where the base direction and the columns do
  pub rows-kept : (old v : ViewState) (text : List ℕ) → Keeps ucd old v → of v text ≡ of old text
  rows-kept old v text keeps = ap₂ (λ b w. text_rows ucd b w text) keeps.base keeps.w

  -- ---- as the calls promise it, by the base direction and the columns that the layout had before

  module _ (old v : ViewState) (text : List ℕ) (place : ℕ) (at : RowAt) (l : LayoutState) (keeps : Keeps ucd old v)
      (utf8 : IsUtf8 text) (on : StandsOn ucd v text at (row_of (of v text) place)) (is : IsOfText ucd v text at.paragraph l) where
    here : row_at (of v text) (row_of (of v text) place) ≡ text_row at.start (row_by ucd l at.row)
    here = row-in-text v text at (row_of (of v text) place) l utf8 on is

    pub home-in-text : (o : ℕ) → o ≡ first_of (row_by ucd l at.row) → at.start + o ≡ row_home (of old text) place
    home-in-text o e =
        ap (λ k. at.start + k) e ∙ sym (ap first here) ∙ ap₂ (λ b w. row_home (text_rows ucd b w text) place) keeps.base keeps.w

  -- ---- the next row

  -- of another state under the same base direction and in the same columns
  kept-row : (old v : ViewState) (text : List ℕ) (number k n : ℕ) → Keeps ucd old v → IsRow ucd old.base old.w text number k n
      → IsRow ucd v.base v.w text number k n
  kept-row old v text number k n keeps is =
      subst (λ b. IsRow ucd b v.w text number k n) (sym keeps.base) (subst (λ w. IsRow ucd old.base w text number k n) (sym keeps.w) is)

  module _ (v : ViewState) (text : List ℕ) (at : RowAt) (n : ℕ) (l : LayoutState) (utf8 : IsUtf8 text) (on : StandsOn ucd v text at n)
      (is : IsOfText ucd v text at.paragraph l) where
    last-here : length l.starts ≤ at.row + 1 → at.row + 1 ≡ length (rows_in ucd v.base v.w text at.paragraph)
    last-here last = let within = on.is.row in omega (arith, last, within, is.count_is)

    pub next-there : (new : ViewState) (number start cached : ℕ) → Keeps ucd v new → length l.starts ≤ at.row + 1 → number ≡ at.paragraph + 1
        → at.paragraph + 1 < count ucd text → start ≡ start_at ucd text number → Caches (body_at ucd text number) new.w new.cache cached
        → StandsOn ucd new text (record { paragraph = number; start = start; row = 0; cached = cached }) (n + 1)
    next-there new number start cached keeps last next more e h = record {
      by = keeps.cache;
      side = ap is_side keeps.w ∙ is.side;
      start_is = e;
      is = subst (λ k. IsRow ucd new.base new.w text k 0 (n + 1)) (sym next)
          (kept-row v new text (at.paragraph + 1) 0 (n + 1) keeps
          (next-over ucd v.base v.w (side-some v.w is.side) text utf8 at.paragraph at.row n on.is (last-here last) more));
      cached_is = h;
    }

    pub next-nowhere : length l.starts ≤ at.row + 1 → count ucd text ≤ at.paragraph + 1 → n + 1 ≡ length (of v text)
    next-nowhere last none =
        let within = on.is.paragraph in
        next-none ucd v.base v.w (side-some v.w is.side) text utf8 at.paragraph at.row n on.is (last-here last) (omega (arith, none, within))

  -- ---- the row before

  pub before-there : (old v : ViewState) (text : List ℕ) (at : RowAt) (n number start cached rows : ℕ) (l : LayoutState) → IsUtf8 text
      → StandsOn ucd old text at n → Keeps ucd old v → at.row ≡ 0 → at.paragraph ≡ number + 1 → IsOfText ucd v text number l
      → rows ≡ length l.starts → 0 < rows → start ≡ start_at ucd text number → Caches (body_at ucd text number) v.w v.cache cached
      → (0 < n) × StandsOn ucd v text (record { paragraph = number; start = start; row = rows - 1; cached = cached }) (n - 1)
  before-there old v text at n number start cached rows l utf8 on keeps none next is counted some e h =
      let there : IsRow ucd v.base v.w text (number + 1) 0 n =
      subst (λ k. IsRow ucd v.base v.w text (number + 1) k n) none (subst (λ p. IsRow ucd v.base v.w text p at.row n) next
      (kept-row old v text at.paragraph at.row n keeps on.is)) in (
        before-some ucd v.base v.w (side-some v.w is.side) text utf8 (number + 1) 0 n there (omega arith),
        record {
          by = keeps.cache;
          side = is.side;
          start_is = e;
          is = before-over ucd v.base v.w (side-some v.w is.side) text utf8 number (rows - 1) n there (omega (arith, counted, some, is.count_is));
          cached_is = h;
        },
      )
