-- A row's picture: each of its glyphs is one glyph, and their columns are the window's.
use Rattle.std.proofs.Common.{◌≡◌, ℕ, zero, suc, ◌+◌, ◌-◌, ◌%◌, ◌≤◌, List, [], ◌∷◌, ◌++◌, length, map, replicate, sum_by, get_or, drop, Option, All, true, refl}
use Rattle.std.proofs.Common.{sym, subst, ap, ◌∙◌, arith}
use Rattle.std.specs.Prelude.{flat_map}
use Rattle.bx_ucd.specs.Data.{Data}
use Rattle.bx_rows.specs.declared.drawn.Drawn.{Drawn}
use Rattle.bx_rows.specs.Shown.{glyph_of}
use Rattle.std.proofs.lemmas.List.Elements.{All-append, All-cons, All-nil, All-rest, All-replicate, All-take, All-drop}
use Rattle.std.proofs.lemmas.List.Sums.{sum_by-append, sum_by-cons}
use Rattle.std.proofs.lemmas.List.Folds.{sum_by-replicate}
use Rattle.bx_rows.specs.declared.cells.unit.Unit.{Unit}
use Rattle.bx_rows.specs.cells.Units.{unit_text}
use Rattle.bx_rows.specs.cells.UnitFacts.{HasFace}
use Rattle.bx_rows.specs.declared.wrapping.Row.{Row}
use Rattle.bx_rows.specs.Wrapping.{columns_at, row_units}
use Rattle.bx_rows.specs.RowPicture.{unit_forms}
use Rattle.bx_rows.specs.RowPicture.{Glyph, blank, face_glyphs, letter_glyphs, unit_columns, unit_glyphs, columns_used, draw, own_glyphs}
use Rattle.bx_rows.specs.RowLevels.{visual}
use Rattle.bx_rows.proofs.FaceGlyphs.{IsOneGlyph, tells-face, face-one, face-sum, letters-all-one}
use Rattle.bx_common.specs.Characters.{are_ascii_printable}
use Rattle.bx_rows.proofs.NumbersBelow.{sum-visual}
use Rattle.bx_rows.proofs.PictureSums.{columns-length, sum_by-same}
use Rattle.bx_rows.proofs.Pieces.{pieces-length}

-- ---- each glyph is one

pieces-one : (ucd : Data) (w : ℕ) (body : List ℕ) (each : List (Option ℕ)) (us : List Unit) (columns levels : List ℕ) (k : ℕ)
    → All (HasFace ucd w body) us → All IsOneGlyph (get_or (unit_glyphs ucd w body each us columns levels) k [])
pieces-one ucd w body each [] columns levels k a = All-nil IsOneGlyph
pieces-one ucd w body each (u ∷ us) [] levels k a = All-nil IsOneGlyph
pieces-one ucd w body each (u ∷ us) (n ∷ ns) [] k a = All-nil IsOneGlyph
pieces-one ucd w body each (u ∷ us) (n ∷ ns) (l ∷ ls) zero a =
    face-one ucd w n l (unit_forms ucd body each u) (unit_text body u) u.face (tells-face ucd w (unit_text body u) u.face (a 0 u (omega arith)))
pieces-one ucd w body each (u ∷ us) (n ∷ ns) (l ∷ ls) (suc k) a =
    pieces-one ucd w body each us ns ls k (All-rest (HasFace ucd w body) u us (u ∷ us) refl a)

all-chosen : (f : ℕ → List Glyph) (ks : List ℕ) → ((k : ℕ) → All IsOneGlyph (f k)) → All IsOneGlyph (flat_map f ks)
all-chosen f [] a = All-nil IsOneGlyph
all-chosen f (k ∷ ks) a = All-append IsOneGlyph (f k) (flat_map f ks) (a k) (all-chosen f ks a)

blanks-one : (odd n : ℕ) (glyphs : List Glyph) → All IsOneGlyph glyphs
    → All IsOneGlyph (elim odd [ zero ↦ glyphs ++ replicate n blank | suc _ ↦ replicate n blank ++ glyphs ])
blanks-one zero n glyphs a = All-append IsOneGlyph glyphs (replicate n blank) a (All-replicate IsOneGlyph n blank (refl, refl))
blanks-one (suc k) n glyphs a = All-append IsOneGlyph (replicate n blank) glyphs (All-replicate IsOneGlyph n blank (refl, refl)) a

pub own-one : (ucd : Data) (w : ℕ) (body : List ℕ) (each : List (Option ℕ)) (us : List Unit) (levels : List ℕ)
    → All (HasFace ucd w body) us → All IsOneGlyph (own_glyphs ucd w body each us levels)
own-one ucd w body each us levels a =
    let pieces = unit_glyphs ucd w body each us (unit_columns w 0 us) levels in
    all-chosen (λ k. get_or pieces k []) (visual levels) (λ k. pieces-one ucd w body each us (unit_columns w 0 us) levels k a)

pub draw-one : (ucd : Data) (w : ℕ) (body : List ℕ) (paragraph : ℕ) (each : List (Option ℕ)) (us : List Unit) (levels : List ℕ)
    → All (HasFace ucd w body) us → All IsOneGlyph (draw ucd w body paragraph each us levels)
draw-one ucd w body paragraph each us levels a =
    blanks-one (paragraph % 2) (w - columns_used w us) (own_glyphs ucd w body each us levels) (own-one ucd w body each us levels a)

-- ---- the columns

abbrev pub columns_of_glyphs : List Glyph → ℕ
columns_of_glyphs glyphs = sum_by (λ g. g.columns) glyphs

pieces-sum : (ucd : Data) (w c : ℕ) (body : List ℕ) (each : List (Option ℕ)) (us : List Unit) (levels : List ℕ) → All (HasFace ucd w body) us
    → length levels ≡ length us → sum_by columns_of_glyphs (unit_glyphs ucd w body each us (unit_columns w c us) levels)
    ≡ sum_by (λ n. n) (unit_columns w c us)
pieces-sum ucd w c body each [] levels a e = refl
pieces-sum ucd w c body each (u ∷ us) [] a e = let more : suc (length us) ≡ length (u ∷ us) = refl in absurd (omega (arith, e, more))
pieces-sum ucd w c body each (u ∷ us) (l ∷ ls) a e =
    let n = columns_at w c u.face in
    let text = unit_text body u in
    let rest = pieces-sum ucd w (c + n) body each us ls (All-rest (HasFace ucd w body) u us (u ∷ us) refl a) (omega (arith, e)) in
    let here = face-sum ucd w c l (unit_forms ucd body each u) text u.face (tells-face ucd w text u.face (a 0 u (omega arith))) in
    sum_by-cons columns_of_glyphs (face_glyphs ucd w text u.face n l (unit_forms ucd body each u)) (unit_glyphs ucd w body each us (unit_columns w (c + n) us) ls)
    ∙ ap (λ k. k + sum_by columns_of_glyphs (unit_glyphs ucd w body each us (unit_columns w (c + n) us) ls)) here
    ∙ ap (λ k. n + k) rest ∙ sym (sum_by-cons (λ m. m) n (unit_columns w (c + n) us))

blanks-sum : (odd n : ℕ) (glyphs : List Glyph) → columns_of_glyphs (elim odd [ zero ↦ glyphs ++ replicate n blank | suc _ ↦ replicate n blank ++ glyphs ])
    ≡ columns_of_glyphs glyphs + n
blanks-sum zero n glyphs = sum_by-append (λ g. g.columns) glyphs (replicate n blank) ∙ omega (arith, sum_by-replicate (λ g. g.columns) n blank)
blanks-sum (suc k) n glyphs = sum_by-append (λ g. g.columns) (replicate n blank) glyphs ∙ omega (arith, sum_by-replicate (λ g. g.columns) n blank)

pub draw-sum : (ucd : Data) (w : ℕ) (body : List ℕ) (paragraph : ℕ) (each : List (Option ℕ)) (us : List Unit) (levels : List ℕ)
    → All (HasFace ucd w body) us → length levels ≡ length us → columns_used w us ≤ w → columns_of_glyphs (draw ucd w body paragraph each us levels) ≡ w
draw-sum ucd w body paragraph each us levels a e fits =
    let columns = unit_columns w 0 us in
    let pieces = unit_glyphs ucd w body each us columns levels in
    let count : length pieces ≡ length levels =
    pieces-length ucd w body each us columns levels (columns-length w 0 us) e ∙ sym e in
    let chosen = sum-visual (λ g. g.columns) pieces levels count ∙ pieces-sum ucd w 0 body each us levels a e in
    let total : sum_by (λ n. n) columns ≡ columns_used w us = sum_by-same columns in
    let all = blanks-sum (paragraph % 2) (w - columns_used w us) (flat_map (λ k. get_or pieces k []) (visual levels)) in
    omega (arith, all, chosen, total, fits)

-- ---- the same of the glyphs as they are kept

one-kept : (ds : List Drawn) (gs : List Glyph) → map glyph_of ds ≡ gs → All IsOneGlyph gs → All (λ d. IsOneGlyph (glyph_of d)) ds
one-kept [] gs e a = All-nil (λ d. IsOneGlyph (glyph_of d))
one-kept (d ∷ ds) gs e a =
    let all = subst (All IsOneGlyph) (sym e) a in
    All-cons (λ x. IsOneGlyph (glyph_of x)) d ds (all 0 (glyph_of d) (omega arith))
    (one-kept ds (map glyph_of ds) refl (All-rest IsOneGlyph (glyph_of d) (map glyph_of ds) (glyph_of d ∷ map glyph_of ds) refl all))

sum-kept : (ds : List Drawn) → sum_by (λ d. d.columns) ds ≡ columns_of_glyphs (map glyph_of ds)
sum-kept [] = refl
sum-kept (d ∷ ds) =
    sum_by-cons (λ x. x.columns) d ds ∙ ap (λ n. d.columns + n) (sum-kept ds) ∙ sym (sum_by-cons (λ g. g.columns) (glyph_of d) (map glyph_of ds))

pub one_if_drawn : (ucd : Data) (w : ℕ) (body : List ℕ) (paragraph : ℕ) (each : List (Option ℕ)) (us : List Unit) (levels : List ℕ) (ds : List Drawn)
    → map glyph_of ds ≡ draw ucd w body paragraph each us levels → All (HasFace ucd w body) us → All (λ d. IsOneGlyph (glyph_of d)) ds
one_if_drawn ucd w body paragraph each us levels ds e a =
    one-kept ds (draw ucd w body paragraph each us levels) e (draw-one ucd w body paragraph each us levels a)

pub one_if_own : (ucd : Data) (w : ℕ) (body : List ℕ) (each : List (Option ℕ)) (us : List Unit) (levels : List ℕ) (ds : List Drawn)
    → map glyph_of ds ≡ own_glyphs ucd w body each us levels → All (HasFace ucd w body) us → All (λ d. IsOneGlyph (glyph_of d)) ds
one_if_own ucd w body each us levels ds e a = one-kept ds (own_glyphs ucd w body each us levels) e (own-one ucd w body each us levels a)

pub one_if_letters : (text : List ℕ) (ds : List Drawn) → map glyph_of ds ≡ letter_glyphs text → are_ascii_printable text ≡ true
    → All (λ d. IsOneGlyph (glyph_of d)) ds
one_if_letters text ds e a = one-kept ds (letter_glyphs text) e (letters-all-one text a)

pub sum_if_drawn : (ucd : Data) (w : ℕ) (body : List ℕ) (paragraph : ℕ) (each : List (Option ℕ)) (us : List Unit) (levels : List ℕ) (ds : List Drawn)
    → map glyph_of ds ≡ draw ucd w body paragraph each us levels → All (HasFace ucd w body) us → length levels ≡ length us → columns_used w us ≤ w
    → sum_by (λ d. d.columns) ds ≡ w
sum_if_drawn ucd w body paragraph each us levels ds e a f g = sum-kept ds ∙ ap columns_of_glyphs e ∙ draw-sum ucd w body paragraph each us levels a f g

-- a property of all units holds for a row's units
pub faces-row : (P : Unit → Type 0) (us : List Unit) (r : Row) → All P us → All P (row_units us r)
faces-row P us r a = All-take P (r.stop - r.start) (drop r.start us) (All-drop P r.start us a)

-- of the same levels and units
pub same-draw : (ucd : Data) (w : ℕ) (body : List ℕ) (paragraph : ℕ) (each each' : List (Option ℕ)) (us us' : List Unit) (levels levels' : List ℕ)
    → each ≡ each' → us ≡ us' → levels ≡ levels' → draw ucd w body paragraph each us levels ≡ draw ucd w body paragraph each' us' levels'
same-draw ucd w body paragraph each each' us us' levels levels' e f h =
    ap (λ x. draw ucd w body paragraph x us levels) e ∙ ap (λ x. draw ucd w body paragraph each' x levels) f ∙ ap (draw ucd w body paragraph each' us') h
