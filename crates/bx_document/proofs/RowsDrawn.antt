-- Rows of text with a region, put one below another into a grid.
use Rattle.std.proofs.Common.{◌≡◌, ℕ, ◌+◌, ◌-◌, ◌*◌, ◌<◌, ◌≤◌, List, [], ◌∷◌, ◌++◌, length, take, drop, replicate, get_or, sym, ap, subst, ◌∙◌}
use Rattle.std.proofs.Common.{arith, append_assoc, length-append, length-drop, take_all, IsUtf8}
use Rattle.std.specs.Prelude.{flat_map}
use Rattle.std.proofs.lemmas.Grind.{flat_map-append}
use Rattle.std.proofs.lemmas.List.{append-nil, drop-drop, get_or-drop, length-replicate, length-take-le, take_more}
use Rattle.std.proofs.lemmas.List.Concat.{flat_map-cons}
use Rattle.bx_grid.specs.Columns.{Col, blank}
use Rattle.bx_grid.specs.Grid.{paste, GridState}
use Rattle.bx_grid.proofs.Pasted.{paste_after}
use Rattle.bx_view.specs.declared.in_row.RowAt.{RowAt}
use Rattle.bx_view.specs.FoundRow.{StandsOn, rows_by}
use Rattle.bx_view.specs.Caching.{Keeps, ViewState}
use Rattle.bx_view.specs.TextRows.{TextRow, no_text_row, row_at}
use Rattle.bx_paragraph.proofs.Starts.{side-some}
use Rattle.bx_view.proofs.CachedRows.{rows-kept}
use Rattle.bx_view.proofs.Walking.{row-within}
use Rattle.bx_ucd.specs.Data.{Data}
use Rattle.bx_document.specs.Drawing.{row_columns, region_columns, region_rows}
use Rattle.bx_document.specs.Shown.{with_rows}
use Rattle.bx_document.proofs.TurnedSlots.{put-over}
use Rattle.bx_document.proofs.TurnedWhere.{length-where}

-- columns written at the end of the first ones
put_behind : (front rest news : List Col) (k : ℕ) → length front ≡ k → paste (front ++ rest) k news ≡ front ++ (news ++ drop (length news) rest)
put_behind front rest news k len =
    let at : k ≡ length front + 0 = omega (arith, len) in
    let none : 0 + length news ≡ length news = omega arith in
    paste_after front rest news k 0 at ∙ ap (λ n. front ++ (news ++ drop n rest)) none

-- the columns of the first `n` of some rows
abbrev pub front : (TextRow → List Col) → List TextRow → ℕ → List Col
front cols rows n = flat_map cols (take n rows)

-- the first rows of a grid are the first `n` of some rows
pub record AreDrawn (old : GridState) (cols : TextRow → List Col) (rows : List TextRow) (n : ℕ) (new : GridState) : Type 0 where
  pub grid : new ≡ record old { columns = front cols rows n ++ drop (n * old.width) old.columns }
  pub filled : length (front cols rows n) ≡ n * old.width

module _ (old : GridState) (cols : TextRow → List Col) (rows : List TextRow) where
  pub none-drawn : AreDrawn old cols rows 0 old
  none-drawn =
      let nothing : 0 * old.width ≡ 0 = omega arith in
      record { grid = sym (ap (λ k. record old { columns = drop k old.columns }) nothing); filled = sym nothing }

  module _ (n : ℕ) (mid : GridState) (is : AreDrawn old cols rows n mid) where
    pub height-is : mid.height ≡ old.height
    height-is = ap (λ (g : GridState). g.height) is.grid

    pub width-is : mid.width ≡ old.width
    width-is = ap (λ (g : GridState). g.width) is.grid

    -- columns written below the drawn rows
    pub put-next : (news : List Col) (new : GridState) → new ≡ with_rows mid n news
        → new ≡ record old { columns = front cols rows n ++ (news ++ drop (n * old.width + length news) old.columns) }
    put-next news new step =
        let w = old.width in
        let rest = drop (n * w) old.columns in
        step ∙ ap (λ (g : GridState). with_rows g n news) is.grid
        ∙ ap (λ cs. record old { columns = cs }) (put_behind (front cols rows n) rest news (n * w) is.filled
        ∙ ap (λ cs. front cols rows n ++ (news ++ cs)) (drop-drop (length news) (n * w) old.columns))

    -- one more row
    pub next-drawn : (r : TextRow) (new : GridState) → n < length rows → r ≡ get_or rows n no_text_row → length (cols r) ≡ old.width
        → new ≡ with_rows mid n (cols r) → AreDrawn old cols rows (n + 1) new
    next-drawn r new within e wide step =
        let w = old.width in
        let more : front cols rows (n + 1) ≡ front cols rows n ++ cols r =
        ap (flat_map cols) (take_more rows n no_text_row within) ∙ flat_map-append cols (take n rows) (get_or rows n no_text_row ∷ [])
        ∙ ap (λ cs. front cols rows n ++ cs) (flat_map-cons cols (get_or rows n no_text_row) [] ∙ append-nil (cols (get_or rows n no_text_row)) ∙ ap cols
        (sym e)) in
        let next : (n + 1) * w ≡ n * w + w = omega arith in
        let behind : n * w + length (cols r) ≡ (n + 1) * w = omega (arith, wide, next) in
        record {
          grid = put-next (cols r) new step
              ∙ ap (λ k. record old { columns = front cols rows n ++ (cols r ++ drop k old.columns) }) behind
              ∙ ap (λ cs. record old { columns = cs }) (sym (append_assoc (front cols rows n) (cols r) (drop ((n + 1) * w) old.columns)))
              ∙ ap (λ cs. record old { columns = cs ++ drop ((n + 1) * w) old.columns }) (sym more);
          filled = ap length more ∙ length-append (front cols rows n) (cols r) ∙ omega (arith, is.filled, wide, next);
        }

-- blank rows after them
pub all-drawn : (d : Data) (region : ℕ × ℕ) (old mid : GridState) (w : ℕ) (rows : List TextRow) (n count : ℕ) (new : GridState) → old.width ≡ w
    → n ≤ count → n ≡ length (take count rows) → take n rows ≡ take count rows → AreDrawn old (region_columns d w region) rows n mid
    → new ≡ with_rows mid n (replicate ((count - n) * mid.width) blank)
    → new ≡ record old { columns = region_rows d w region count (take count rows) ++ drop (count * old.width) old.columns }
all-drawn d region old mid w rows n count new width few e same is step =
    let cols = region_columns d w region in
    let shown = take count rows in
    let left = count - n in
    let blanks = replicate (left * mid.width) blank in
    let split : count ≡ n + left = omega (arith, few) in
    let sum : (n + left) * old.width ≡ n * old.width + left * old.width = omega arith in
    let wide : left * mid.width ≡ left * old.width = ap (λ k. left * k) (width-is old cols rows n mid is) in
    let end : n * old.width + length blanks ≡ count * old.width =
    omega (arith, length-replicate (left * mid.width) blank, wide, sum, ap (λ k. k * old.width) split) in
    let behind : drop (n * old.width + length blanks) old.columns ≡ drop (count * old.width) old.columns = ap (λ k. drop k old.columns) end in
    let as-many : left * mid.width ≡ (count - length shown) * w = wide ∙ ap (λ k. left * k) width ∙ ap (λ k. (count - k) * w) e in
    put-next old cols rows n mid is blanks new step
    ∙ ap (λ cs. record old { columns = front cols rows n ++ (blanks ++ cs) }) behind
    ∙ ap (λ rs. record old { columns = flat_map cols rs ++ (blanks ++ drop (count * old.width) old.columns) }) same
    ∙ ap (λ k. record old { columns = flat_map cols shown ++ (replicate k blank ++ drop (count * old.width) old.columns) }) as-many
    ∙ ap (λ cs. record old { columns = cs })
    (sym (append_assoc (flat_map cols shown) (replicate ((count - length shown) * w) blank) (drop (count * old.width) old.columns)))

-- the text has `count` rows
pub count-drawn : (d : Data) (region : ℕ × ℕ) (old : GridState) (w : ℕ) (rows : List TextRow) (count : ℕ) (new : GridState) → count ≤ length rows
    → AreDrawn old (region_columns d w region) rows count new
    → new ≡ record old { columns = region_rows d w region count (take count rows) ++ drop (count * old.width) old.columns }
count-drawn d region old w rows count new many is =
    let shown = take count rows in
    let whole : (count - length shown) * w ≡ 0 =
    let all : count - length shown ≡ 0 = omega (arith, length-take-le count rows many) in
    ap (λ k. k * w) all ∙ (let none : 0 * w ≡ 0 = omega arith in none) in
    is.grid
    ∙ ap (λ cs. record old { columns = cs ++ drop (count * old.width) old.columns })
    (sym (append-nil (flat_map (region_columns d w region) shown))
    ∙ ap (λ k. flat_map (region_columns d w region) shown ++ replicate k blank) (sym whole))

-- the text has fewer rows
pub rest-drawn : (d : Data) (region : ℕ × ℕ) (old mid : GridState) (w : ℕ) (rows : List TextRow) (n count : ℕ) (new : GridState) → old.width ≡ w
    → n ≤ count → n ≡ length rows → AreDrawn old (region_columns d w region) rows n mid
    → new ≡ with_rows mid n (replicate ((count - n) * mid.width) blank)
    → new ≡ record old { columns = region_rows d w region count (take count rows) ++ drop (count * old.width) old.columns }
rest-drawn d region old mid w rows n count new width few e is step =
    let whole : take count rows ≡ rows = take_all count rows (omega (arith, e, few)) in
    all-drawn d region old mid w rows n count new width few (e ∙ ap length (sym whole)) (take_all n rows (omega (arith, e)) ∙ sym whole) is step

-- ---- as the rows of a text are found

module _ (ucd : Data) (old : ViewState) (text : List ℕ) (utf8 : IsUtf8 text) (was : GridState)
    (width : was.width ≡ old.w) (region : ℕ × ℕ) (k : ℕ) where
  abbrev pub rows : List TextRow
  rows = rows_by ucd old text

  abbrev cols : TextRow → List Col
  cols r = region_columns ucd old.w region r

  -- the rows from number `k` on; the first `n` are drawn
  abbrev pub Drawn : ℕ → GridState → Type 0
  Drawn n grid = AreDrawn was cols (drop k rows) n grid

  -- with a later state of the view
  module _ (v : ViewState) (keeps : Keeps ucd old v) where
    pub kept : rows_by ucd v text ≡ rows
    kept = rows-kept ucd old v text keeps

    pub inside-kept : (at : RowAt) (n : ℕ) → StandsOn ucd v text at n → n < length rows
    inside-kept at n on =
        let within = row-within ucd v.base v.w (side-some v.w on.side) text utf8 at.paragraph at.row n on.is in
        omega (arith, within, ap length kept)

    -- one more row is put, and its region's columns are turned
    pub one-more : (at : RowAt) (n : ℕ) (mid put new : GridState) → StandsOn ucd v text at (k + n) → Drawn n mid
        → length mid.columns ≡ mid.height * mid.width → n < mid.height
        → length (row_columns ucd v.w (row_at (rows_by ucd v text) (k + n))) ≡ v.w
        → put ≡ with_rows mid n (row_columns ucd v.w (row_at (rows_by ucd v text) (k + n)))
        → new ≡ with_rows put n (region_columns ucd v.w region (row_at (rows_by ucd v text) (k + n))) → Drawn (n + 1) new
    one-more at n mid put new on is size below filled first second =
        let r = row_at (rows_by ucd v text) (k + n) in
        let within = inside-kept at (k + n) on in
        let wide : v.w ≡ mid.width = keeps.w ∙ sym width ∙ sym (width-is was cols (drop k rows) n mid is) in
        let turned : length (region_columns ucd v.w region r) ≡ v.w = length-where _ 1 (row_columns ucd v.w r) ∙ filled in
        let same : region_columns ucd v.w region r ≡ cols r = ap (λ w. region_columns ucd w region r) keeps.w in
        let here : r ≡ get_or (drop k rows) n no_text_row = ap (λ rs. row_at rs (k + n)) kept ∙ sym (get_or-drop k rows n no_text_row) in
        let step = put-over mid n size below (row_columns ucd v.w r) (region_columns ucd v.w region r) put new (filled ∙ wide) (turned ∙ wide) first second in
        next-drawn was cols (drop k rows) n mid is r new (omega (arith, within, length-drop k rows)) here
        (ap length (sym same) ∙ turned ∙ keeps.w ∙ sym width) (step ∙ ap (with_rows mid n) same)

  abbrev Whole : ℕ → GridState → Type 0
  Whole count grid = grid ≡ record was { columns = region_rows ucd old.w region count (take count (drop k rows)) ++ drop (count * was.width) was.columns }

  pub whole-count : (n count : ℕ) (grid : GridState) → n ≡ count → k + n ≤ length rows → Drawn n grid → Whole count grid
  whole-count n count grid e some is =
      count-drawn ucd region was old.w (drop k rows) count grid (omega (arith, e, some, length-drop k rows)) (subst (λ m. Drawn m grid) e is)

  pub whole-rest : (n count : ℕ) (mid grid : GridState) → k + n ≡ length rows → n ≤ count → Drawn n mid
      → grid ≡ with_rows mid n (replicate ((count - n) * mid.width) blank) → Whole count grid
  whole-rest n count mid grid e few is step =
      rest-drawn ucd region was mid old.w (drop k rows) n count grid width few (omega (arith, e, length-drop k rows)) is step
