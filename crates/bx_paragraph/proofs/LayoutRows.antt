-- A row of a layout, by its units.
use Rattle.std.proofs.Common.{◌≡◌, ℕ, zero, suc, ◌+◌, ◌==◌, ◌<◌, Bool, true, false, List, [], ◌∷◌, ◌++◌, length, get_or, Option, refl, sym, ap, ◌∙◌, arith}
use Rattle.std.specs.Prelude.{chars, map, slice_get}
use Rattle.std.proofs.Common.{ne_eqb}
use Rattle.std.proofs.Math.Dec.{eqb-suc-suc}
use Rattle.std.proofs.lemmas.List.{length-map}
use Rattle.bx_ucd.specs.Data.{Data}
use Rattle.bx_levels.specs.resolve.Levels.{paragraph_level_under, levels_under}
use Rattle.bx_rows.specs.declared.cells.unit.Unit.{Unit}
use Rattle.bx_rows.specs.cells.Units.{units}
use Rattle.bx_rows.specs.RowLevels.{row_levels}
use Rattle.bx_rows.specs.NumberedRows.{draw_numbered}
use Rattle.bx_rows.specs.RowPicture.{Glyph}
use Rattle.bx_rows.specs.declared.wrapping.Row.{Row}
use Rattle.bx_rows.specs.RowStarts.{start_of, units_in, units_of_row}
use Rattle.bx_rows.specs.Wrapping.{row_units, wrap}
use Rattle.bx_paragraph.specs.BodyRows.{BodyRow, no_row, offsets_of, row_glyphs, row_with, rows_units, with_last}
use Rattle.bx_paragraph.specs.Layout.{IsLayoutBy, LayoutState, row_by}

one-more : (k : ℕ) → suc k + 1 ≡ suc (k + 1)
one-more k = omega arith

-- the row of a number, the last one marked as the last
pub last-at : (row : Bool → List Unit → BodyRow) (xs : List (List Unit)) (k : ℕ) → k < length xs
    → get_or (with_last row xs) k no_row ≡ row (k + 1 == length xs) (get_or xs k [])
last-at row [] k h = absurd (omega (arith, h))
last-at row (us ∷ []) zero h = refl
last-at row (us ∷ []) (suc k) h = absurd (omega (arith, h))
last-at row (us ∷ vs ∷ rest) zero h = ap (λ b. row b us) (sym (ne_eqb 1 (suc (suc (length rest))) (λ e. omega (arith, e))))
last-at row (us ∷ vs ∷ rest) (suc k) h =
    last-at row (vs ∷ rest) k (omega (arith, h)) ∙ ap (λ b. row b (get_or (vs ∷ rest) k []))
    (sym (ap (λ n. n == suc (suc (length rest))) (one-more k) ∙ eqb-suc-suc (k + 1) (suc (length rest))))

-- as many rows as row starts
pub rows-count : (l : LayoutState) (ucd : Data) → IsLayoutBy ucd l
    → length l.starts ≡ length (rows_units ucd l.w l.body)
rows-count l ucd is =
    let us = units ucd l.w l.body in
    ap length is.starts ∙ length-map (wrap ucd l.w l.body us) (start_of l.body us) ∙ sym (length-map (wrap ucd l.w l.body us) (row_units us))

-- a row of a layout
pub row-is : (l : LayoutState) (ucd : Data) (k : ℕ) (us : List Unit) (levels : List ℕ) (is_last : Bool)
    → IsLayoutBy ucd l → k < length l.starts → us ≡ get_or (rows_units ucd l.w l.body) k []
    → levels ≡ row_levels ucd l.body l.paragraph l.each us → is_last ≡ (k + 1 == length l.starts)
    → record { body = l.body; paragraph = l.paragraph; each = l.each; units = us; levels = levels; is_last = is_last } ≡ row_by ucd l k
row-is l ucd k us levels is_last is h units-are levels-are last =
    let xs = rows_units ucd l.w l.body in
    let count = rows-count l ucd is in
    let paragraph = paragraph_level_under ucd l.base (chars l.body) in
    let each = levels_under ucd l.base (chars l.body) in
    let found = last-at (row_with ucd l.body paragraph each) xs k (omega (arith, h, count)) in
    let make : ℕ → List (Option ℕ) → Bool → List Unit → BodyRow = λ p e b vs. row_with ucd l.body p e b vs in
    ap (λ ls. record { body = l.body; paragraph = l.paragraph; each = l.each; units = us; levels = ls; is_last = is_last }) levels-are
    ∙ ap (λ p. make p l.each is_last us) is.paragraph ∙ ap (λ e. make paragraph e is_last us) is.each
    ∙ ap (λ b. make paragraph each b us) (last ∙ ap (λ n. k + 1 == n) count) ∙ ap (make paragraph each (k + 1 == length xs)) units-are ∙ sym found

units-at : (us : List Unit) (rs : List Row) (k : ℕ) → units_in us (slice_get rs k) ≡ get_or (map (row_units us) rs) k []
units-at us [] k = refl
units-at us (r ∷ rs) zero = refl
units-at us (r ∷ rs) (suc k) = units-at us rs k

-- the units of a row, by its number
pub units-of-row : (ucd : Data) (w : ℕ) (body : List ℕ) (k : ℕ) → units_of_row ucd w body k ≡ get_or (rows_units ucd w body) k []
units-of-row ucd w body k = let us = units ucd w body in units-at us (wrap ucd w body us) k

-- the offsets of a row's places, by its units
pub offsets-are : (l : LayoutState) (ucd : Data) (k : ℕ) (us : List Unit) (is_last : Bool) (offsets : List ℕ)
    → IsLayoutBy ucd l → k < length l.starts → us ≡ get_or (rows_units ucd l.w l.body) k [] → is_last ≡ (k + 1 == length l.starts)
    → offsets ≡ map (λ (u : Unit). u.start) us ++ elim is_last [ true ↦ length l.body ∷ [] | false ↦ [] ] → offsets ≡ offsets_of (row_by ucd l k)
offsets-are l ucd k us is_last offsets is h units-are last e =
    e ∙ ap offsets_of (row-is l ucd k us (row_levels ucd l.body l.paragraph l.each us) is_last is h units-are refl last)

-- the glyphs of a row of a layout, by its number
pub glyphs-are : (ucd : Data) (gs : List Glyph) (l : LayoutState) (k : ℕ)
    → IsLayoutBy ucd l → k < length l.starts → gs ≡ draw_numbered ucd l.w l.body l.paragraph l.each k
    → gs ≡ row_glyphs ucd l.w (row_by ucd l k)
glyphs-are ucd gs l k is h drawn =
    let us = units_of_row ucd l.w l.body k in
    drawn
    ∙ ap (row_glyphs ucd l.w)
    (row-is l ucd k us (row_levels ucd l.body l.paragraph l.each us) (k + 1 == length l.starts) is h (units-of-row ucd l.w l.body k) refl refl)

-- each row has the level of the paragraph
pub row_level : (l : LayoutState) (ucd : Data) (k : ℕ) → IsLayoutBy ucd l → k < length l.starts
    → l.paragraph ≡ (row_by ucd l k).paragraph
row_level l ucd k is h =
    let xs = rows_units ucd l.w l.body in
    ap (λ r. r.paragraph)
    (row-is l ucd k (get_or xs k []) (row_levels ucd l.body l.paragraph l.each (get_or xs k [])) (k + 1 == length l.starts) is h refl refl refl)
