-- The rows of a text whose lines are not wrapped are its lines.
use Rattle.std.proofs.Common.{◌≡◌, ◌∙◌, ℕ, zero, suc, ◌+◌, ◌<◌, ◌≤◌, List, [], ◌∷◌, ◌++◌, map, length, get_or, take, IsUtf8, refl, sym, ap, ap₂, arith}
use Rattle.std.specs.Prelude.{All}
use Rattle.std.proofs.lemmas.List.{get_or-map, length-map, map-append}
use Rattle.std.proofs.lemmas.List.Elements.{All-head, All-tail}
use Rattle.bx_common.specs.declared.base.Base.{Base}
use Rattle.bx_paragraph.specs.BodyRows.{body_rows, first_of}
use Rattle.bx_text.specs.index.Paragraphs.{Paragraph, bytes_of, lengths_of, paragraphs, total}
use Rattle.bx_ucd.specs.Data.{Data}
use Rattle.bx_view.specs.Numbers.{count, start_at}
use Rattle.bx_view.specs.TextRows.{TextRow, first, no_text_row, row_at, rows_from, text_row, text_rows}
use Rattle.bx_view.proofs.BodyFirsts.{body-firsts}
use Rattle.bx_view.proofs.Parts.{AreUtf8, text-parts}
use Rattle.bx_view.proofs.RowsAround.{firsts-moved}

-- where paragraphs begin, of which the first begins at `start`
abbrev starts : ℕ → List Paragraph → List ℕ
starts start [] = []
starts start (p ∷ ps) = start ∷ starts (start + bytes_of (lengths_of p)) ps

starts-count : (start : ℕ) (ps : List Paragraph) → length (starts start ps) ≡ length ps
starts-count start [] = refl
starts-count start (p ∷ ps) = ap suc (starts-count (start + bytes_of (lengths_of p)) ps)

starts-at : (start : ℕ) (ps : List Paragraph) (i : ℕ) → i < length ps → get_or (starts start ps) i 0 ≡ start + total (take i (map lengths_of ps))
starts-at start [] i within = absurd (omega (arith, within))
starts-at start (p ∷ ps) zero within = omega arith
starts-at start (p ∷ ps) (suc i) within =
    let rest = starts-at (start + bytes_of (lengths_of p)) ps i (omega (arith, within)) in omega (arith, rest)

alone : (x : ℕ) (others : List ℕ) (xs : List ℕ) → xs ≡ x ∷ others → length xs ≡ 1 → xs ≡ x ∷ []
alone x [] xs is one = is
alone x (y ∷ others) xs is one = absurd (omega (arith, one, ap length is))

module _ (d : Data) (base : Base) (w : ℕ) (some : 1 ≤ w) where
  abbrev pub IsOne : Paragraph → Type 0
  IsOne p = length (body_rows d base w p.body) ≡ 1

  firsts-from : (start : ℕ) (ps : List Paragraph) → AreUtf8 ps → All IsOne ps → map first (rows_from d base w start ps) ≡ starts start ps
  firsts-from start [] utf8 one = refl
  firsts-from start (p ∷ ps) utf8 one =
      let own = body_rows d base w p.body in
      let begins = body-firsts d base w some p.body utf8.0.body in
      let only : map first_of own ≡ 0 ∷ [] =
      alone 0 begins.others (map first_of own) begins.firsts (length-map own first_of ∙ All-head IsOne p ps one) in
      let here : start + 0 ≡ start = omega arith in
      map-append first (map (text_row start) own) (rows_from d base w (start + bytes_of (lengths_of p)) ps)
      ∙ ap₂ (λ xs ys. xs ++ ys)
      (firsts-moved start own ∙ ap (map (λ o. start + o)) only ∙ ap (λ n. n ∷ []) here)
      (firsts-from (start + bytes_of (lengths_of p)) ps utf8.1 (All-tail IsOne p ps one))

  module _ (text : List ℕ) (utf8 : IsUtf8 text) (one : All IsOne (paragraphs d text)) where
    abbrev all : List TextRow
    all = text_rows d base w text

    all-firsts : map first all ≡ starts 0 (paragraphs d text)
    all-firsts = firsts-from 0 (paragraphs d text) (text-parts d text utf8).utf8 one

    pub rows-are-lines : length all ≡ count d text
    rows-are-lines = sym (length-map all first) ∙ ap length all-firsts ∙ starts-count 0 (paragraphs d text)

    pub row-starts-line : (i : ℕ) → i < count d text → first (row_at all i) ≡ start_at d text i
    row-starts-line i within =
        let there = starts-at 0 (paragraphs d text) i within in
        sym (get_or-map first all i no_text_row 0 (omega (arith, rows-are-lines, within)))
        ∙ ap (λ xs. get_or xs i 0) all-firsts ∙ omega (arith, there)
