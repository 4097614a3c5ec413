-- The rows of a text, counted paragraph by paragraph.
use Rattle.std.proofs.Common.{◌≡◌, ℕ, ◌+◌, ◌<◌, ◌≤◌, nat_lt, if◌then◌else◌, Bool, true, false, List}
use Rattle.std.proofs.Common.{map, length, take, drop, get_or, slice_get, Some, None, option_map, IsUtf8}
use Rattle.std.proofs.Common.{sym, ap, ◌∙◌, arith, length-append}
use Rattle.std.proofs.lemmas.Bool.Decides.{nat_tests}
use Rattle.std.proofs.lemmas.List.{get_or-map, length-map, take_all, take-append-drop}
use Rattle.std.proofs.lemmas.Option.{slice_get-get_or, slice_get_past}
use Rattle.bx_ucd.specs.Data.{Data}
use Rattle.bx_common.specs.declared.base.Base.{Base}
use Rattle.bx_rows.specs.declared.start_search.RowStart.{RowStart}
use Rattle.bx_rows.specs.RowStarts.{row_starts}
use Rattle.bx_text.specs.index.Paragraphs.{lengths_of, paragraphs, total}
use Rattle.bx_paragraph.specs.BodyRows.{first_of, no_row}
use Rattle.bx_paragraph.proofs.Starts.{firsts}
use Rattle.bx_view.specs.Standing.{IsRow, rows_ahead, rows_in}
use Rattle.bx_view.specs.Numbers.{body_at, count, start_at}
use Rattle.bx_view.specs.TextRows.{TextRow, first, no_text_row, text_rows}
use Rattle.bx_view.proofs.RowsAround.{from, from-append}
use Rattle.bx_view.proofs.PlacesRise.{firsts-rise-in}
use Rattle.bx_view.proofs.Rising.{rises-few}
use Rattle.bx_view.proofs.Walking.{ahead-next, first-short, row-is, row-within}

-- a walk that goes on
pub walked-on : (b : Bool) (number new done all : ℕ) → b ≡ nat_lt (number + 1) all → new ≡ (if b then number + 1 else number) → number ≡ done
    → done + 1 < all → new ≡ done + 1
walked-on true number new done all there is at more = omega (arith, is, at)
walked-on false number new done all there is at more = absurd (grind (arith, nat_tests))

module _ (ucd : Data) (base : Base) (w : ℕ) (some : 1 ≤ w) (text : List ℕ) (utf8 : IsUtf8 text) where
  abbrev rows : List TextRow
  rows = text_rows ucd base w text

  abbrev ahead : ℕ → ℕ
  ahead number = rows_ahead ucd base w text number

  -- a paragraph has as many rows as row starts
  pub starts-counted : (number : ℕ) (starts : List RowStart) → starts ≡ row_starts ucd w (body_at ucd text number)
      → length starts ≡ length (rows_in ucd base w text number)
  starts-counted number starts e =
      let body = body_at ucd text number in
      sym (length-map starts (λ s. s.offset)) ∙ ap (λ ss. length (map (λ (s : RowStart). s.offset) ss)) e ∙ ap length (sym
      (firsts ucd base w body some))
      ∙ length-map (rows_in ucd base w text number) first_of

  -- one more paragraph
  pub ahead-more : (number n : ℕ) (starts : List RowStart) → number < count ucd text → starts ≡ row_starts ucd w (body_at ucd text number)
      → n ≡ ahead number → n + length starts ≡ ahead (number + 1)
  ahead-more number n starts within e is =
      omega (arith, is, starts-counted number starts e, ahead-next ucd base w some text utf8 number within)

  -- all of them
  pub ahead-all : (number : ℕ) → count ucd text ≤ number → ahead number ≡ length rows
  ahead-all number h = ap (λ ps. length (from ucd base w 0 ps)) (take_all number (paragraphs ucd text) h)

  -- a text has few rows
  pub few-rows : length rows ≤ length text + 1
  few-rows = omega (arith, rises-few 0 (map first rows) (length text + 1) (firsts-rise-in ucd base w some text utf8), length-map rows first)

  pub few-ahead : (number : ℕ) → ahead number ≤ length text + 1
  few-ahead number =
      let all = paragraphs ucd text in
      let split = from-append ucd base w 0 (take number all) (drop number all) in
      let rest = from ucd base w (0 + total (map lengths_of (take number all))) (drop number all) in
      let whole : length rows ≡ length (from ucd base w 0 (take number all)) + length rest =
      ap (λ ps. length (from ucd base w 0 ps)) (sym (take-append-drop number all)) ∙ ap length split
      ∙ length-append (from ucd base w 0 (take number all)) rest in
      omega (arith, few-rows, whole)

  -- a row of the paragraph that is reached
  module _ (number k n : ℕ) (starts : List RowStart) (within : number < count ucd text) (e : starts ≡ row_starts ucd w (body_at ucd text number))
      (is : k + ahead number ≡ n) (there : k < length starts) where
    row-there : IsRow ucd base w text number k n
    row-there = record { paragraph = within; row = omega (arith, there, starts-counted number starts e); is = omega (arith, is) }

    offset-is : (d : RowStart) → (get_or starts k d).offset ≡ first_of (get_or (rows_in ucd base w text number) k no_row)
    offset-is d =
        let body = body_at ucd text number in
        sym (get_or-map (λ s. s.offset) starts k d 0 there) ∙ ap (λ ss. get_or (map (λ (s : RowStart). s.offset) ss) k 0) e
        ∙ ap (λ os. get_or os k 0) (sym (firsts ucd base w body some))
        ∙ get_or-map first_of (rows_in ucd base w text number) k no_row 0 (omega (arith, there, starts-counted number starts e))

    pub start-fits : (d : RowStart) (start : ℕ) → start ≡ start_at ucd text number → start + (get_or starts k d).offset ≤ length text
    start-fits d start s = omega (arith, s, offset-is d, first-short ucd base w some text utf8 number k n row-there)

    pub first-counted : (d : RowStart) (start : ℕ) → start ≡ start_at ucd text number
        → Some (start + (get_or starts k d).offset) ≡ option_map first (slice_get rows n)
    first-counted d start s =
        let here : start + (get_or starts k d).offset ≡ start_at ucd text number + first_of (get_or (rows_in ucd base w text number) k no_row) =
        omega (arith, s, offset-is d) in
        ap Some (here ∙ sym (ap first (row-is ucd base w some text utf8 number k n row-there)))
        ∙ sym (ap (option_map first) (slice_get-get_or rows n no_text_row (row-within ucd base w some text utf8 number k n row-there)))

  pub none-counted : (number k n : ℕ) → count ucd text ≤ number → k + ahead number ≡ n → None ≡ option_map first (slice_get rows n)
  none-counted number k n past is = sym (ap (option_map first) (slice_get_past rows n (omega (arith, is, ahead-all number past))))
