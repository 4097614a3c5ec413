-- The units of a row have the same glyphs in the lines that a layout lends.
use Rattle.std.proofs.Common.{◌≡◌, ◌+◌, ◌<◌, ◌==◌, ◌∙◌, ℕ, ap, length, refl}
use Rattle.bx_ucd.specs.declared.data.BidiData.{Ghosts}
use Rattle.bx_rows.specs.declared.lines.Lines.{Lines}
use Rattle.bx_rows.specs.Lines.{own_glyphs_at}
use Rattle.bx_rows.specs.RowLevels.{row_levels}
use Rattle.bx_rows.specs.RowPicture.{own_glyphs}
use Rattle.bx_rows.specs.RowStarts.{units_of_row}
use Rattle.bx_paragraph.specs.Layout.{IsLayoutBy, LayoutState, row_by}
use Rattle.bx_paragraph.specs.Lent.{IsLent}
use Rattle.bx_paragraph.specs.BodyRows.{row_own_glyphs}
use Rattle.bx_paragraph.proofs.LayoutRows.{row-is, units-of-row}

pub lent_own_glyphs : {D : Type 0} {g : Ghosts D} (l : LayoutState) (t : D) (s : Lines D g) (k : ℕ) → IsLent l t s → IsLayoutBy (g.data t) l
    → k < length l.starts → own_glyphs_at s k ≡ row_own_glyphs (g.data t) l.w (row_by (g.data t) l k)
lent_own_glyphs {D} {g} l t s k lent is within =
    let ucd = g.data t in
    let us = units_of_row ucd l.w l.body k in
    let same : own_glyphs_at s k ≡ own_glyphs ucd l.w l.body l.each us (row_levels ucd l.body l.paragraph l.each us)
    = rw (lent.tables_are, lent.w_is, lent.body_is, lent.paragraph_is, lent.each_is) refl in
    same ∙ ap (row_own_glyphs ucd l.w)
    (row-is l ucd k us (row_levels ucd l.body l.paragraph l.each us) (k + 1 == length l.starts) is within (units-of-row ucd l.w l.body k) refl refl)
