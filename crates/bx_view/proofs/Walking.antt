-- Rows of the text by the number of their paragraph and their number in it, and from row to row.
use Rattle.std.proofs.Common.{◌≡◌, ℕ, zero, suc, ◌+◌, ◌-◌, ◌<◌, ◌≤◌, List, [], ◌∷◌, ◌++◌, map, length, take, drop}
use Rattle.std.proofs.Common.{IsUtf8, IsCharBoundary, refl, sym, ap, subst, ◌∙◌, arith, length-append}
use Rattle.std.proofs.lemmas.List.{get_or-map, length-map, take_more, take_all}
use Rattle.bx_ucd.specs.Data.{Data}
use Rattle.bx_common.specs.declared.base.Base.{Base}
use Rattle.bx_text.specs.Changes.{IsRange}
use Rattle.bx_text.specs.index.Paragraphs.{Paragraph, bare, lengths, lengths_of, paragraphs, bytes_of, paragraph_of, total}
use Rattle.bx_paragraph.specs.BodyRows.{BodyRow, body_rows, no_row}
use Rattle.bx_paragraph.specs.BodyRows.{row_at as row_at_body, first_of as first_of_body}
use Rattle.bx_paragraph.specs.Layout.{row_of as row_of_body}
use Rattle.bx_paragraph.specs.Slots.{column_of}
use Rattle.bx_view.specs.Standing.{IsRow, rows_ahead, rows_in}
use Rattle.bx_view.specs.Numbers.{body_at, count, paragraph_at, start_at}
use Rattle.bx_view.specs.TextRows.{TextRow, cell_of, first, no_text_row, row_at, row_of, text_row, text_rows}
use Rattle.bx_view.proofs.RowsAround.{BodyFirsts, all-rise, rank-around, count-around, from, from-append, own, own-rank, own-some, own-within, row-falls}
use Rattle.bx_view.proofs.RowsAround.{row-there}
use Rattle.bx_view.proofs.BodyFirsts.{body-firsts}
use Rattle.bx_view.proofs.Numbers.{ahead, among, behind, body-range, body-utf8, falls-at, here, parts-at}
use Rattle.bx_view.proofs.Parts.{AreEnded, AreUtf8, text-parts}
use Rattle.bx_view.proofs.Rising.{Rises, rank, rises-apart, rises-below}

module _ (ucd : Data) (base : Base) (w : ℕ) (some : 1 ≤ w) (text : List ℕ) (utf8 : IsUtf8 text) where
  abbrev pub rows : List TextRow
  rows = text_rows ucd base w text

  abbrev all : List Paragraph
  all = paragraphs ucd text

  abbrev mine : ℕ → List BodyRow
  mine number = rows_in ucd base w text number

  abbrev before : ℕ → ℕ
  before number = rows_ahead ucd base w text number

  abbrev begins : ℕ → ℕ
  begins number = start_at ucd text number

  abbrev Row : ℕ → ℕ → ℕ → Type 0
  Row number k n = IsRow ucd base w text number k n

  bodies : (body : List ℕ) → IsUtf8 body → BodyFirsts body (body_rows ucd base w body)
  bodies = body-firsts ucd base w some

  around-utf8 : (number : ℕ) (within : number < count ucd text)
      → AreUtf8 (ahead ucd text number within ++ here ucd text number within ∷ behind ucd text number within)
  around-utf8 number within = subst AreUtf8 (parts-at ucd text number within) (text-parts ucd text utf8).utf8

  around-ended : (number : ℕ) (within : number < count ucd text)
      → AreEnded (ahead ucd text number within ++ here ucd text number within ∷ behind ucd text number within)
  around-ended number within = subst AreEnded (parts-at ucd text number within) (text-parts ucd text utf8).ended

  -- ---- a row by the number of its paragraph

  -- each paragraph has a row
  pub some-row : (number : ℕ) → number < count ucd text → 0 < length (mine number)
  some-row number within = own-some ucd base w bodies (paragraph_at ucd text number) (body-utf8 ucd text number within utf8)

  -- what it is
  pub row-is : (number k n : ℕ) → Row number k n → row_at rows n ≡ text_row (begins number) (row_at_body (mine number) k)
  row-is number k n is =
      ap (row_at rows) is.is
      ∙ row-there ucd base w bodies text number (begins number) (paragraph_at ucd text number) (take number all) (drop (number + 1) all)
      (among ucd text number is.paragraph) k is.row

  count-is : (number : ℕ) → number < count ucd text
      → length rows ≡ before number + length (mine number)
      + length (from ucd base w (begins number + bytes_of (lengths_of (paragraph_at ucd text number))) (drop (number + 1) all))
  count-is number within =
      count-around ucd base w bodies text number (begins number) (paragraph_at ucd text number) (take number all) (drop (number + 1) all)
      (among ucd text number within)

  pub row-within : (number k n : ℕ) → Row number k n → n < length rows
  row-within number k n is = omega (arith, is.is, is.row, count-is number is.paragraph)

  -- it begins in its paragraph's body, and so in the text
  first-within : (number k : ℕ) (within : number < count ucd text) → k < length (mine number)
      → first_of_body (row_at_body (mine number) k) ≤ length (body_at ucd text number)
  first-within number k within h =
      let body = body_at ucd text number in
      let f = bodies body (body-utf8 ucd text number within utf8) in
      let rise : Rises 0 (map first_of_body (mine number)) (length body + 1) =
      subst (λ os. Rises 0 os (length body + 1)) (sym f.firsts) (omega arith, f.rise) in
      let below = rises-below 0 (map first_of_body (mine number)) (length body + 1) k 0 rise (omega (arith, h, length-map (mine number) first_of_body)) in
      omega (arith, below, get_or-map first_of_body (mine number) k no_row 0 h)

  pub first-short : (number k n : ℕ) → Row number k n → begins number + first_of_body (row_at_body (mine number) k) ≤ length text
  first-short number k n is =
      let range : IsRange text (begins number) (begins number + length (body_at ucd text number)) = body-range ucd text number is.paragraph utf8 in
      let bounds : IsCharBoundary text (begins number + length (body_at ucd text number)) = range.stop_bounds in
      let inside : begins number + length (body_at ucd text number) ≤ length text = bounds.0 in
      omega (arith, first-within number k is.paragraph is.row, inside)

  -- ---- the row that an offset falls in

  pub row-under : (offset number k : ℕ) → number ≡ paragraph_of (lengths ucd text) offset → k ≡ row_of_body (mine number) (offset - begins number)
      → Row number k (row_of rows offset)
  row-under offset number k e f =
      let falls = falls-at ucd text offset number utf8 e in
      let u = body-utf8 ucd text number falls.within utf8 in
      let whole = row-falls ucd base w bodies text number (begins number) (paragraph_at ucd text number) (take number all) (drop (number + 1) all)
      (among ucd text number falls.within) offset (around-utf8 number falls.within) (around-ended number falls.within) falls.order falls.ended in
      record {
        paragraph = falls.within;
        row = omega (arith, f, own-within ucd base w bodies (paragraph_at ucd text number) (offset - begins number) u);
        is = omega (arith, whole, f);
      }

  -- a row of the text begins at or before each offset
  pub text-rank : (offset : ℕ) → 1 ≤ rank offset (map first rows)
  text-rank offset =
      let number = paragraph_of (lengths ucd text) offset in
      let falls = falls-at ucd text offset number utf8 refl in
      let p = paragraph_at ucd text number in
      let whole = rank-around ucd base w bodies text number (begins number) p (take number all) (drop (number + 1) all)
      (among ucd text number falls.within) offset (around-utf8 number falls.within) (around-ended number falls.within) falls.order falls.ended in
      let own = own-rank ucd base w bodies p (offset - begins number) (body-utf8 ucd text number falls.within utf8) in
      omega (arith, whole, own)

  -- ---- the next row and the one before

  pub ahead-next : (number : ℕ) → number < count ucd text → before (number + 1) ≡ before number + length (mine number)
  ahead-next number within =
      let p = paragraph_at ucd text number in
      let start = 0 + total (map lengths_of (take number all)) in
      let own-rows = from ucd base w start (p ∷ []) in
      ap (λ ps. length (from ucd base w 0 ps)) (take_more all number (bare []) within)
      ∙ ap length (from-append ucd base w 0 (take number all) (p ∷ []))
      ∙ omega (
        arith,
        length-append (from ucd base w 0 (take number all)) own-rows,
        length-append (map (text_row start) (own ucd base w p)) [],
        length-map (own ucd base w p) (text_row start),
      )

  pub next-over : (number k n : ℕ) → Row number k n → k + 1 ≡ length (mine number) → number + 1 < count ucd text → Row (number + 1) 0 (n + 1)
  next-over number k n is last more = record {
    paragraph = more;
    row = some-row (number + 1) more;
    is = omega (arith, is.is, last, ahead-next number is.paragraph);
  }

  pub next-none : (number k n : ℕ) → Row number k n → k + 1 ≡ length (mine number) → number + 1 ≡ count ucd text → n + 1 ≡ length rows
  next-none number k n is last none =
      let whole : take (number + 1) all ≡ all = take_all (number + 1) all (omega (arith, none)) in
      let same : before (number + 1) ≡ length rows = ap (λ ps. length (from ucd base w 0 ps)) whole in
      omega (arith, is.is, last, ahead-next number is.paragraph, same)

  pub before-over : (number k n : ℕ) → Row (number + 1) 0 n → k + 1 ≡ length (mine number) → Row number k (n - 1)
  before-over number k n is last =
      let within : number < count ucd text = omega (arith, is.paragraph) in
      record { paragraph = within; row = omega (arith, last); is = omega (arith, is.is, last, ahead-next number within) }

  pub before-some : (number k n : ℕ) → Row number k n → 0 < number + k → 0 < n
  before-some zero k n is h = omega (arith, is.is, h)
  before-some (suc number) k n is h =
      let within : number < count ucd text = omega (arith, is.paragraph) in
      let next : number + 1 ≡ suc number = omega arith in
      let same : before (number + 1) ≡ before (suc number) = ap before next in
      omega (arith, is.is, ahead-next number within, some-row number within, same)

  -- ---- facts from the rows of an offset

  module _ (offset number k : ℕ) (e : number ≡ paragraph_of (lengths ucd text) offset) (f : k ≡ row_of_body (mine number) (offset - begins number)) where
    pub row-there-is : row_at rows (row_of rows offset) ≡ text_row (begins number) (row_at_body (mine number) k)
    row-there-is = row-is number k (row_of rows offset) (row-under offset number k e f)

    pub cell-is : cell_of w rows offset ≡ column_of w (row_at_body (mine number) k) (offset - begins number)
    cell-is = ap (λ r. column_of w r.row (offset - r.start)) row-there-is

  -- ---- the starts of rows determine their order

  pub rows-rise : Rises 0 (map first rows) (0 + total (map lengths_of all) + 1)
  rows-rise = let parts = text-parts ucd text utf8 in all-rise ucd base w bodies 0 all parts.utf8 parts.ended

  pub firsts-rise : (n m : ℕ) → n < m → m < length rows → first (row_at rows n) < first (row_at rows m)
  firsts-rise n m h within =
      let count = length-map rows first in
      let apart = rises-apart 0 (map first rows) (0 + total (map lengths_of all) + 1) n m 0 rows-rise h (omega (arith, within, count)) in
      let left = get_or-map first rows n no_text_row 0 (omega (arith, h, within)) in
      let right = get_or-map first rows m no_text_row 0 within in
      omega (arith, apart, left, right)
