-- A row of a paragraph begins at a boundary of its clusters, and the row of an offset, or one above it, at the offset or before it.
use Rattle.std.proofs.Common.{◌≡◌, ℕ, zero, suc, ◌+◌, ◌<◌, ◌≤◌, true, false, List, map, length, drop, get_or, IsUtf8, sym, ap, subst, ◌∙◌, arith}
use Rattle.std.proofs.Math.ListN.{get_or-map}
use Rattle.bx_ucd.specs.Data.{Data}
use Rattle.bx_common.specs.Characters.{is_side}
use Rattle.bx_rows.specs.cells.Units.{units}
use Rattle.bx_rows.specs.declared.wrapping.Row.{Row}
use Rattle.bx_rows.specs.declared.start_search.RowStart.{RowStart}
use Rattle.bx_rows.specs.RowStarts.{first_offset, start_of}
use Rattle.bx_rows.specs.Wrapping.{wrap}
use Rattle.bx_paragraph.specs.BodyRows.{BodyRow, first_of, no_row, row_at}
use Rattle.bx_paragraph.specs.Layout.{row_of, IsLayoutBy, LayoutState, rows_by}
use Rattle.bx_paragraph.proofs.Starts.{first_is, side-some}
use Rattle.unicode_segmentation.specs.Grapheme.{graphemes}
use Rattle.bx_view.specs.WordReads.{ReadsAlone}
use Rattle.bx_view.specs.Words.{first_kind, is_sign}
use Rattle.bx_view.proofs.BodyFirsts.{body-firsts}
use Rattle.bx_view.proofs.Rising.{Rises, rank, rank-first, rank-here}
use Rattle.bx_view.proofs.WordParts.{IsPart, IsReadable, part-at, readable-start, readable-unsigned}

module _ (ucd : Data) (l : LayoutState) (is : IsLayoutBy ucd l) (side : is_side l.w ≡ true) (utf8 : IsUtf8 l.body) (k start : ℕ)
    (first : start ≡ first_of (row_at (rows_by ucd l) k)) where
  abbrev none : Row
  none = record { start = 0; stop = 0 }

  pub row-part : k < length l.starts → IsPart l.body start
  row-part within =
      let us = units ucd l.w l.body in
      let rs = wrap ucd l.w l.body us in
      let d : RowStart = start_of l.body us none in
      let at : start ≡ first_offset (drop (get_or rs k none).start us) =
      first ∙ sym (first_is l k d side within ucd is) ∙ ap (λ (ss : List RowStart). (get_or ss k d).offset) is.starts
      ∙ ap (λ (s : RowStart). s.offset) (get_or-map (start_of l.body us) rs k none) in
      subst (IsPart l.body) (sym at) (part-at l.body utf8 ucd l.w (get_or rs k none).start)

  -- at the row of an offset, or above it
  pub row-above : (offset own : ℕ) → own ≡ row_of (rows_by ucd l) offset → k ≤ own → start ≤ offset
  row-above offset own e h =
      let rows : List BodyRow = rows_by ucd l in
      let os = map first_of rows in
      let f = body-firsts ucd l.base l.w (side-some l.w side) l.body utf8 in
      let rise : Rises 0 os (length l.body + 1) = subst (λ os. Rises 0 os (length l.body + 1)) (sym f.firsts) (omega arith, f.rise) in
      let one : rank offset os ≡ 1 + rank offset f.others = ap (rank offset) f.firsts ∙ rank-first offset 0 f.others (omega arith) in
      let here = rank-here offset 0 0 os (length l.body + 1) k rise (omega (arith, e, h, one)) in
      omega (arith, here, first, get_or-map first_of rows k no_row)

module _ (ucd : Data) (l : LayoutState) (is : IsLayoutBy ucd l) (side : is_side l.w ≡ true) (utf8 : IsUtf8 l.body) where
  -- the first row begins at the body's start
  first-begins : first_of (row_at (rows_by ucd l) 0) ≡ 0
  first-begins =
      let rows : List BodyRow = rows_by ucd l in
      let f = body-firsts ucd l.base l.w (side-some l.w side) l.body utf8 in
      sym (get_or-map first_of rows 0 no_row) ∙ ap (λ os. get_or os 0 (first_of no_row)) f.firsts

  -- a row from which words can be read
  pub row-reads : (k start : ℕ) → start ≡ first_of (row_at (rows_by ucd l) k) → k < length l.starts → ReadsAlone ucd l k → IsReadable ucd l.body start
  row-reads zero start first within reads = subst (IsReadable ucd l.body) (sym (first ∙ first-begins)) (readable-start ucd l.body utf8)
  row-reads (suc k) start first within reads =
      readable-unsigned ucd l.body start (row-part ucd l is side utf8 (suc k) start first within)
      (subst (λ n. is_sign (first_kind ucd (graphemes true (drop n l.body))) ≡ false) (sym first) (reads (omega arith)))
