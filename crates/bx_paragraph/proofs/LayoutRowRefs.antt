-- The rows of the lines that a layout lends are the layout's rows.
use Rattle.std.proofs.Common.{◌≡◌, ◌+◌, ◌++◌, ◌∷◌, ◌∙◌, ◌<◌, ◌==◌, ℕ, Bool, true, false, List, [], length, refl, subst, sym}
use Rattle.std.specs.Prelude.{map}
use Rattle.bx_common.specs.Characters.{is_side}
use Rattle.bx_ucd.specs.declared.data.BidiData.{Ghosts}
use Rattle.bx_rows.specs.declared.cells.unit.Unit.{Unit}
use Rattle.bx_rows.specs.declared.row_layout.RowLayout.{RowLayout}
use Rattle.bx_rows.specs.declared.lines.Lines.{Lines}
use Rattle.bx_rows.specs.Lines.{glyphs_at, levels_of, units_at}
use Rattle.bx_rows.specs.NumberedRows.{draw_numbered}
use Rattle.bx_rows.specs.RowLevels.{row_levels}
use Rattle.bx_rows.specs.RowStarts.{units_of_row}
use Rattle.bx_paragraph.specs.BodyRows.{offsets_of, row_glyphs}
use Rattle.bx_paragraph.specs.RowLayouts.{body_row}
use Rattle.bx_paragraph.specs.Layout.{IsLayoutBy, LayoutState, row_by}
use Rattle.bx_paragraph.specs.Lent.{IsLent}
use Rattle.bx_paragraph.proofs.LayoutRows.{glyphs-are, offsets-are, row-is, units-of-row}

module _ {D : Type 0} {g : Ghosts D} (l : LayoutState) (t : D) (s : Lines D g) (k : ℕ) (lent : IsLent l t s)
    (is : IsLayoutBy (g.data t) l) (within : k < length l.starts) where
  -- row `k` has the same glyphs
  pub lent_glyphs : glyphs_at s k ≡ row_glyphs (g.data t) l.w (row_by (g.data t) l k)
  lent_glyphs =
      let same : glyphs_at s k ≡ draw_numbered (g.data t) l.w l.body l.paragraph l.each k
      = rw (lent.tables_are, lent.w_is, lent.body_is, lent.paragraph_is, lent.each_is) refl in
      glyphs-are (g.data t) _ l k is within same

  lent_units : units_at s k ≡ units_of_row (g.data t) l.w l.body k
  lent_units = rw (lent.tables_are, lent.w_is, lent.body_is) refl

  lent_levels : (us : List Unit) → levels_of s us ≡ row_levels (g.data t) l.body l.paragraph l.each us
  lent_levels us = rw (lent.tables_are, lent.body_is, lent.paragraph_is, lent.each_is) refl

  -- it is the same row, with its units and their levels
  pub layout_row_ref : (us : List Unit) (levels : List ℕ) (is_last : Bool) → us ≡ units_at s k → levels ≡ levels_of s us
      → is_last ≡ (k + 1 == length l.starts)
      → record { body = l.body; paragraph = l.paragraph; each = l.each; units = us; levels = levels; is_last = is_last } ≡ row_by (g.data t) l k
  layout_row_ref us levels is_last units each last =
      row-is l (g.data t) k us levels is_last is within (units ∙ lent_units ∙ units-of-row (g.data t) l.w l.body k)
      (each ∙ lent_levels us) last

  -- laid out in lines by reference
  pub row_layout : (r : RowLayout D g) → r.lines ≡ s → r.number ≡ k → body_row r (k + 1 == length l.starts) ≡ row_by (g.data t) l k
  row_layout r same number =
      let units : r.units.items ≡ units_at s k = subst (λ n. r.units.items ≡ units_at s n) number (subst (λ x. r.units.items ≡ units_at x r.number) same r.cut) in
      let levels : r.levels.items ≡ levels_of s r.units.items = subst (λ x. r.levels.items ≡ levels_of x r.units.items) same r.leveled in
      rw (same, lent.body_is, lent.paragraph_is, lent.each_is) (layout_row_ref r.units.items r.levels.items (k + 1 == length l.starts) units levels refl)

  -- its places have the same offsets
  pub lent_offsets : (us : List Unit) (is_last : Bool) (offsets : List ℕ) → us ≡ units_at s k → is_last ≡ (k + 1 == length l.starts)
      → offsets ≡ map (λ (u : Unit). u.start) us ++ elim is_last [ true ↦ length l.body ∷ [] | false ↦ [] ]
      → offsets ≡ offsets_of (row_by (g.data t) l k)
  lent_offsets us is_last offsets units last e =
      offsets-are l (g.data t) k us is_last offsets is within (units ∙ lent_units ∙ units-of-row (g.data t) l.w l.body k) last e

-- in lines by reference the width is within its limits
pub laid_side : {D : Type 0} {g : Ghosts D} (l : LayoutState) (t : D) (s : Lines D g) → IsLent l t s → is_side s.w ≡ true
laid_side l t s lent = subst (λ n. is_side n ≡ true) (sym lent.w_is) lent.side
