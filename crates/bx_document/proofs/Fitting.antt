-- The glyphs from the left that have room in a row.
use Rattle.std.proofs.Common.{◌≡◌, ℕ, zero, suc, ◌+◌, ◌-◌, ◌≤◌, Bool, true, false, nat_le, List, [], ◌∷◌, ◌++◌, length, map, take, drop, replicate}
use Rattle.std.proofs.Common.{arith, length-append, refl, sym, ap, ◌∙◌}
use Rattle.std.proofs.Math.Seq.{take-append-add}
use Rattle.std.proofs.lemmas.Bool.Decides.{nat_tests}
use Rattle.std.proofs.lemmas.List.{length-replicate, length-take-le, take-replicate}
use Rattle.std.proofs.lemmas.List.Concat.{flat_map-cons}
use Rattle.bx_grid.specs.Columns.{Col, blank, glyph_columns, plain_columns}
use Rattle.bx_rows.specs.declared.drawn.Drawn.{Drawn}
use Rattle.bx_rows.specs.RowPicture.{Glyph, glyph}
use Rattle.bx_rows.specs.Shown.{glyph_of}
use Rattle.bx_document.specs.Drawing.{side_by_side, fitting, glyph_row}
use Rattle.bx_rows.specs.RowPicture.{letter_glyphs}
use Rattle.bx_document.proofs.RowGlyphs.{columns_in, glyphs_columns, length-glyphs}

-- the first `i` glyphs have room, and `left` columns stay free
pub record IsFit (w : ℕ) (ds : List Drawn) (i left : ℕ) : Type 0 where
  pub all : map glyph_of (take i ds) ++ fitting left (map glyph_of (drop i ds)) ≡ fitting w (map glyph_of ds)
  pub room : left + columns_in (take i ds) ≡ w

fitting-more : (left : ℕ) (g : Glyph) (gs : List Glyph) (b : Bool) → nat_le g.columns left ≡ b → g.columns ≤ left
    → elim b [ true ↦ g ∷ fitting (left - g.columns) gs | false ↦ [] ] ≡ g ∷ fitting (left - g.columns) gs
fitting-more left g gs true e h = refl
fitting-more left g gs false e h = let some : nat_le g.columns left ≡ true = grind (arith, nat_tests) in absurd (cc)

-- ---- the row

-- columns that have room, cut or filled up, are these columns and blanks
filled : (w : ℕ) (cs : List Col) → length cs ≤ w → take w (cs ++ replicate w blank) ≡ cs ++ replicate (w - length cs) blank
filled w cs h =
    let whole : w ≡ length cs + (w - length cs) = omega (arith, h) in
    ap (λ n. take n (cs ++ replicate w blank)) whole ∙ take-append-add cs (replicate w blank) (w - length cs)
    ∙ ap (λ xs. cs ++ xs) (take-replicate (w - length cs) w blank (omega arith))

pub row-of : (w : ℕ) (ds shown : List Drawn) → map glyph_of shown ≡ fitting w (map glyph_of ds) → columns_in shown ≤ w
    → glyphs_columns shown ++ replicate (w - columns_in shown) blank ≡ glyph_row w (map glyph_of ds)
row-of w ds shown is h =
    let len = length-glyphs shown in
    ap (λ n. glyphs_columns shown ++ replicate (w - n) blank) (sym len)
    ∙ sym (filled w (glyphs_columns shown) (omega (arith, len, h)))
    ∙ ap (λ gs. take w (side_by_side gs ++ replicate w blank)) is

pub length-glyph-row : (w : ℕ) (gs : List Glyph) → length (glyph_row w gs) ≡ w
length-glyph-row w gs =
    let cols = side_by_side (fitting w gs) in
    length-take-le w (cols ++ replicate w blank) (omega (arith, length-append cols (replicate w blank), length-replicate w blank))

-- ---- the row of a text alone: its characters, cut or filled up with blanks

letters-fit : (w : ℕ) (text : List ℕ) → fitting w (letter_glyphs text) ≡ letter_glyphs (take w text)
letters-fit zero [] = refl
letters-fit (suc w) [] = refl
letters-fit zero (b ∷ bs) = refl
letters-fit (suc w) (b ∷ bs) =
    let left : suc w - 1 ≡ w = omega arith in
    fitting-more (suc w) (glyph (b ∷ []) 1 false) (letter_glyphs bs) (nat_le 1 (suc w)) refl (omega arith)
    ∙ ap (λ n. glyph (b ∷ []) 1 false ∷ fitting n (letter_glyphs bs)) left ∙ ap (λ gs. glyph (b ∷ []) 1 false ∷ gs) (letters-fit w bs)

side-letters : (text : List ℕ) → side_by_side (letter_glyphs text) ≡ plain_columns false text
side-letters [] = refl
side-letters (b ∷ bs) =
    flat_map-cons (λ g. glyph_columns g.text g.columns g.negative) (glyph (b ∷ []) 1 false) (letter_glyphs bs)
    ∙ ap (λ cs. plain_columns false (b ∷ []) ++ cs) (side-letters bs)

cut-twice : (w n : ℕ) (text : List ℕ) → take w (plain_columns false (take w text) ++ replicate n blank) ≡ take w (plain_columns false text ++ replicate n blank)
cut-twice zero n text = refl
cut-twice (suc w) n [] = refl
cut-twice (suc w) n (b ∷ bs) = ap (λ cs. plain_columns false (b ∷ []) ++ cs) (cut-twice w n bs)

pub text-row : (w : ℕ) (text : List ℕ) → glyph_row w (letter_glyphs text) ≡ take w (plain_columns false text ++ replicate w blank)
text-row w text =
    ap (λ cs. take w (cs ++ replicate w blank)) (ap side_by_side (letters-fit w text) ∙ side-letters (take w text)) ∙ cut-twice w w text
