-- The glyphs of each row of a text fill the window.
use Rattle.std.proofs.Common.{◌≡◌, ℕ, ◌+◌, ◌≤◌, List, [], ◌∷◌, map, get_or, Option, true, false, chars, IsUtf8, refl, arith}
use Rattle.std.specs.Prelude.{All}
use Rattle.std.proofs.lemmas.List.Elements.{All-append, All-cons, All-map, All-nil, All-rest}
use Rattle.bx_ucd.specs.Data.{Data}
use Rattle.bx_common.specs.declared.base.Base.{Base}
use Rattle.bx_levels.specs.resolve.Levels.{paragraph_level_under, levels_under}
use Rattle.bx_rows.specs.declared.cells.unit.Unit.{Unit}
use Rattle.bx_rows.specs.cells.Units.{units}
use Rattle.bx_rows.specs.RowPicture.{columns_used}
use Rattle.bx_rows.specs.Wrapping.{row_units, wrap}
use Rattle.bx_rows.proofs.PictureLaws.{columns_of_glyphs, draw-sum}
use Rattle.bx_rows.proofs.RowsFit.{fit_if_wrapped}
use Rattle.bx_text.specs.index.Paragraphs.{Paragraph, lengths_of, paragraphs, bytes_of}
use Rattle.bx_paragraph.specs.BodyRows.{BodyRow, body_rows, row_with, rows_units, with_last}
use Rattle.bx_view.specs.TextRows.{TextRow, text_row, text_row_glyphs, text_rows}
use Rattle.bx_view.proofs.RowsAround.{from, own}
use Rattle.bx_view.proofs.GlyphCells.{rows-faced}
use Rattle.bx_view.proofs.KeptPlaces.{rows-leveled}

abbrev pub Fits : ℕ → BodyRow → Type 0
Fits w r = columns_used w r.units ≤ w

fitting-last : (w : ℕ) (ucd : Data) (body : List ℕ) (paragraph : ℕ) (each : List (Option ℕ)) (xs : List (List Unit)) → All (λ us. columns_used w us ≤ w) xs
    → All (Fits w) (with_last (row_with ucd body paragraph each) xs)
fitting-last w ucd body paragraph each [] a = All-nil (Fits w)
fitting-last w ucd body paragraph each (us ∷ []) a =
    All-cons (Fits w) (row_with ucd body paragraph each true us) [] (a 0 us (omega arith)) (All-nil (Fits w))
fitting-last w ucd body paragraph each (us ∷ vs ∷ rest) a =
    All-cons (Fits w) (row_with ucd body paragraph each false us) (with_last (row_with ucd body paragraph each) (vs ∷ rest)) (a 0 us (omega arith))
    (fitting-last w ucd body paragraph each (vs ∷ rest) (All-rest (λ xs. columns_used w xs ≤ w) us (vs ∷ rest) (us ∷ vs ∷ rest) refl a))

module _ (ucd : Data) (base : Base) (w : ℕ) where
  fitting-body : (body : List ℕ) → All (Fits w) (body_rows ucd base w body)
  fitting-body body =
      let us = units ucd w body in
      let rs = wrap ucd w body us in
      fitting-last w ucd body (paragraph_level_under ucd base (chars body)) (levels_under ucd base (chars body)) (rows_units ucd w body)
      (All-map (λ xs. columns_used w xs ≤ w) (row_units us) rs (λ i d h. (fit_if_wrapped ucd w body us rs refl i d h).2))

  pub fitting-from : (start : ℕ) (ps : List Paragraph) → All (λ r. Fits w r.row) (from ucd base w start ps)
  fitting-from start [] = All-nil (λ (r : TextRow). Fits w r.row)
  fitting-from start (p ∷ ps) =
      let next = start + bytes_of (lengths_of p) in
      All-append (λ (r : TextRow). Fits w r.row) (map (text_row start) (own ucd base w p)) (from ucd base w next ps)
      (All-map (λ (r : TextRow). Fits w r.row) (text_row start) (own ucd base w p) (fitting-body p.body)) (fitting-from next ps)

  -- a row of a text
  pub row-filled : (text : List ℕ) → IsUtf8 text → All (λ r. columns_of_glyphs (text_row_glyphs ucd w r) ≡ w) (text_rows ucd base w text)
  row-filled text utf8 = λ k d h.
      let r = get_or (text_rows ucd base w text) k d in
      draw-sum ucd w r.row.body r.row.paragraph r.row.each r.row.units r.row.levels (rows-faced ucd base w text utf8 k d h) (rows-leveled ucd base w text k d h)
      (fitting-from 0 (paragraphs ucd text) k d h)
