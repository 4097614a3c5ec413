-- Every unit takes at least one column in its row.
use Rattle.std.proofs.Common.{ℕ, ◌+◌, true, false, List, [], ◌∷◌, map, Option, chars, IsUtf8}
use Rattle.std.specs.Prelude.{All}
use Rattle.std.proofs.lemmas.List.Elements.{All-append, All-cons, All-map, All-nil}
use Rattle.bx_ucd.specs.Data.{Data}
use Rattle.bx_common.specs.declared.base.Base.{Base}
use Rattle.bx_levels.specs.resolve.Levels.{paragraph_level_under, levels_under}
use Rattle.bx_rows.specs.declared.cells.unit.Unit.{Unit}
use Rattle.bx_rows.specs.cells.Units.{units}
use Rattle.bx_rows.proofs.cells_lemmas.Standing.{faces-units}
use Rattle.bx_rows.specs.RowPicture.{unit_columns}
use Rattle.bx_rows.specs.Wrapping.{is_break}
use Rattle.bx_text.specs.index.Paragraphs.{Paragraph, lengths_of, paragraphs, bytes_of}
use Rattle.bx_paragraph.specs.BodyRows.{BodyRow, body_rows, row_with, rows_units, with_last}
use Rattle.bx_view.specs.TextRows.{TextRow, text_row, text_rows}
use Rattle.bx_view.proofs.CellColumns.{AllSome, EachSome, all-have, wrapped-some}
use Rattle.bx_view.proofs.Parts.{AreUtf8, text-parts}
use Rattle.bx_view.proofs.RowsAround.{from, own}

abbrev pub HasColumns : ℕ → BodyRow → Type 0
HasColumns w r = AllSome (unit_columns w 0 r.units)

some-last : (w : ℕ) (ucd : Data) (body : List ℕ) (paragraph : ℕ) (each : List (Option ℕ)) (xs : List (List Unit)) → EachSome w xs
    → All (HasColumns w) (with_last (row_with ucd body paragraph each) xs)
some-last w ucd body paragraph each [] h = All-nil (HasColumns w)
some-last w ucd body paragraph each (us ∷ []) h =
    All-cons (HasColumns w) (row_with ucd body paragraph each true us) [] h.0 (All-nil (HasColumns w))
some-last w ucd body paragraph each (us ∷ vs ∷ rest) h =
    All-cons (HasColumns w) (row_with ucd body paragraph each false us) (with_last (row_with ucd body paragraph each) (vs ∷ rest)) h.0
    (some-last w ucd body paragraph each (vs ∷ rest) h.1)

module _ (ucd : Data) (base : Base) (w : ℕ) where
  some-body : (body : List ℕ) → IsUtf8 body → All (HasColumns w) (body_rows ucd base w body)
  some-body body utf8 =
      let us = units ucd w body in
      some-last w ucd body (paragraph_level_under ucd base (chars body)) (levels_under ucd base (chars body)) (rows_units ucd w body)
      (wrapped-some (is_break ucd body) w us (all-have ucd w body us (faces-units ucd w body utf8)))

  some-from : (start : ℕ) (ps : List Paragraph) → AreUtf8 ps → All (λ r. HasColumns w r.row) (from ucd base w start ps)
  some-from start [] u = All-nil (λ (r : TextRow). HasColumns w r.row)
  some-from start (p ∷ ps) u =
      let next = start + bytes_of (lengths_of p) in
      All-append (λ (r : TextRow). HasColumns w r.row) (map (text_row start) (own ucd base w p)) (from ucd base w next ps)
      (All-map (λ (r : TextRow). HasColumns w r.row) (text_row start) (own ucd base w p) (some-body p.body u.0.body))
      (some-from next ps u.1)

  pub rows-have-columns : (text : List ℕ) → IsUtf8 text → All (λ r. HasColumns w r.row) (text_rows ucd base w text)
  rows-have-columns text utf8 = some-from 0 (paragraphs ucd text) (text-parts ucd text utf8).utf8
