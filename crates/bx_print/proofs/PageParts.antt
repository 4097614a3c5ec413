-- A page, paragraph by paragraph.
use Rattle.std.proofs.Common.{◌≡◌, ℕ, ◌+◌, List, [], ◌∷◌, ◌++◌, map, drop, refl, ap, ap₂, ◌∙◌}
use Rattle.std.specs.Prelude.{flat_map}
use Rattle.std.specs.List.{join_by}
use Rattle.std.proofs.lemmas.List.Concat.{flat_map-append}
use Rattle.std.proofs.lemmas.List.Folds.{flat_map-map}
use Rattle.bx_ucd.specs.Data.{Data}
use Rattle.bx_common.specs.declared.base.Base.{Base}
use Rattle.bx_text.specs.index.Paragraphs.{Paragraph, lengths_of, paragraphs, bytes_of}
use Rattle.bx_paragraph.specs.BodyRows.{body_rows}
use Rattle.bx_view.specs.TextRows.{TextRow, rows_from, text_row, text_row_glyphs}
use Rattle.bx_print.specs.declared.style.Placeholders.{Placeholders}
use Rattle.bx_print.specs.BodyLines.{body_lines}
use Rattle.bx_print.specs.Page.{line, page}

-- lines separated by line feeds are lines each after a line feed, without the first byte
joined-is : {X : Type 0} (f : X → List ℕ) (xs : List X) → join_by f (10 ∷ []) xs ≡ drop 1 (flat_map (λ x. 10 ∷ f x) xs)
joined-is f [] = refl
joined-is f (x ∷ xs) = refl

module _ (ucd : Data) (placeholders : Placeholders) (base : Base) (w : ℕ) where
  abbrev pub lines_of : Paragraph → List ℕ
  lines_of p = body_lines ucd placeholders base w p.body

  abbrev text_line : TextRow → List ℕ
  text_line r = 10 ∷ line placeholders (text_row_glyphs ucd w r)

  rows-lines : (start : ℕ) (ps : List Paragraph) → flat_map text_line (rows_from ucd base w start ps) ≡ flat_map lines_of ps
  rows-lines start [] = refl
  rows-lines start (p ∷ ps) =
      let own = map (text_row start) (body_rows ucd base w p.body) in
      let later = start + bytes_of (lengths_of p) in
      flat_map-append text_line own (rows_from ucd base w later ps)
      ∙ ap₂ (λ x y. x ++ y) (flat_map-map text_line (text_row start) (body_rows ucd base w p.body)) (rows-lines later ps)

  -- the page of a text
  pub page-is : (text : List ℕ) → page ucd placeholders base w text ≡ drop 1 (flat_map lines_of (paragraphs ucd text))
  page-is text =
      joined-is (λ r. line placeholders (text_row_glyphs ucd w r)) (rows_from ucd base w 0 (paragraphs ucd text))
      ∙ ap (drop 1) (rows-lines 0 (paragraphs ucd text))
