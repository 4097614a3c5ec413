-- The line that has a place begins at a character boundary at or before that place. The ends of a line and of the text are places.
use Rattle.std.proofs.Common.{◌≡◌, ◌≤◌, ℕ, ◌+◌, List, IsUtf8, length, map, refl, sym, ap, ◌∙◌, arith, subst, true, ⊎_elim}
use Rattle.std.specs.Prelude.{Contains}
use Rattle.std.specs.List.{concat}
use Rattle.std.proofs.lemmas.Bool.{cases_lt}
use Rattle.std.proofs.lemmas.List.{take_all}
use Rattle.unicode_segmentation.specs.Grapheme.{graphemes}
use Rattle.bx_text.specs.Changes.{IsRange}
use Rattle.bx_text.specs.index.Paragraphs.{lengths, lengths_of, paragraph_of, paragraphs, total}
use Rattle.bx_ucd.specs.Data.{Data}
use Rattle.bx_document.specs.Line.{line_of}
use Rattle.bx_view.specs.Numbers.{body_at, count, start_at}
use Rattle.bx_view.specs.Places.{IsTextPlace, pieces, text_places}
use Rattle.bx_view.proofs.Begins.{begin_at}
use Rattle.bx_view.proofs.Numbered.{body-place}
use Rattle.bx_view.proofs.Numbers.{bytes-length, falls-at, start-is}
use Rattle.bx_view.proofs.Parts.{text-bytes}
use Rattle.bx_view.proofs.TextPlaces.{end-in, place-between, places-span, start-in}

module _ (ucd : Data) (text : List ℕ) (utf8 : IsUtf8 text) where
  pub line-to-place : (place : ℕ) → IsTextPlace ucd text place → IsRange text ((line_of ucd text place).0) place
  line-to-place place is =
      let falls = falls-at ucd text place (paragraph_of (lengths ucd text) place) utf8 refl in
      let begin = begin_at ucd text utf8 (paragraph_of (lengths ucd text) place) falls.within in
      record {
        start_bounds = begin.bounds;
        stop_bounds = place-between ucd text place utf8 is;
        in_order = falls.order;
      }

  pub end-is-place : IsTextPlace ucd text (length text)
  end-is-place =
      let size : 0 + length (concat (pieces ucd text)) ≡ length text = omega (arith, ap length (places-span ucd text utf8).whole) in
      subst (Contains (text_places ucd text)) size (end-in 0 (pieces ucd text))

  start-past : (n : ℕ) → count ucd text ≤ n → start_at ucd text n ≡ length text
  start-past n past =
      start-is ucd text n ∙ ap (λ ps. total (map lengths_of ps)) (take_all n (paragraphs ucd text) past)
      ∙ sym (bytes-length (paragraphs ucd text)) ∙ ap length (text-bytes ucd text utf8)

  -- where a paragraph begins
  start-place : (n : ℕ) → IsTextPlace ucd text (start_at ucd text n)
  start-place n =
      let start = start_at ucd text n in
      ⊎_elim
      (λ within. body-place ucd text utf8 n within start (start-in start (graphemes true (body_at ucd text n))))
      (λ past. subst (IsTextPlace ucd text) (sym (start-past n past)) end-is-place)
      (cases_lt n (count ucd text))

  pub line-starts : (place : ℕ) → IsTextPlace ucd text (line_of ucd text place).0
  line-starts place = start-place (paragraph_of (lengths ucd text) place)

  pub line-stops : (place : ℕ) → IsTextPlace ucd text (line_of ucd text place).1
  line-stops place = start-place (paragraph_of (lengths ucd text) place + 1)
