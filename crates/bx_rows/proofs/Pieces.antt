-- The glyphs of one unit of a row.
use Rattle.std.proofs.Common.{◌≡◌, ℕ, suc, ◌+◌, ◌<◌, ◌++◌, List, [], ◌∷◌, length, get_or, take, refl, sym, ap, ◌∙◌, arith}
use Rattle.std.proofs.Common.{append_assoc, append-nil, Option}
use Rattle.std.specs.Prelude.{flat_map}
use Rattle.std.specs.List.{zip}
use Rattle.std.proofs.lemmas.List.{get_or-map, take_more, length-map}
use Rattle.std.proofs.lemmas.Grind.{flat_map-append}
use Rattle.std.proofs.lemmas.Slice.Zip.{get_or-zip}
use Rattle.bx_ucd.specs.Data.{Data}
use Rattle.bx_rows.specs.declared.cells.unit.Unit.{Unit}
use Rattle.bx_rows.specs.cells.Units.{unit_text}
use Rattle.bx_rows.specs.RowPicture.{unit_forms}
use Rattle.bx_rows.specs.RowPicture.{Glyph, face_glyphs, own_glyphs, unit_columns, unit_glyphs}
use Rattle.bx_rows.specs.RowLevels.{visual}

length-zip : {A B : Type 0} → (xs : List A) (ys : List B) (n : ℕ) → length xs ≡ n → length ys ≡ n → length (zip xs ys) ≡ n
length-zip [] ys n e f = e
length-zip (x ∷ xs) [] n e f = f
length-zip (x ∷ xs) (y ∷ ys) n e f = ap suc (length-zip xs ys (length xs) refl (omega (arith, e, f))) ∙ e

-- the glyphs of unit k
pub piece-at : (ucd : Data) (w : ℕ) (body : List ℕ) (each : List (Option ℕ)) (us : List Unit) (columns levels : List ℕ) (k a b : ℕ) (d : Unit)
    → k < length us → length columns ≡ length us → length levels ≡ length us
    → get_or (unit_glyphs ucd w body each us columns levels) k []
    ≡ face_glyphs ucd w (unit_text body (get_or us k d)) (get_or us k d).face (get_or columns k a) (get_or levels k b)
    (unit_forms ucd body each (get_or us k d))
piece-at ucd w body each us columns levels k a b d h e f =
    let piece : Unit × (ℕ × ℕ) → List Glyph = λ p. face_glyphs ucd w (unit_text body p.0) p.0.face p.1.0 p.1.1 (unit_forms ucd body each p.0) in
    let inner : length (zip columns levels) ≡ length us = length-zip columns levels (length us) e f in
    let outer : length (zip us (zip columns levels)) ≡ length us = length-zip us (zip columns levels) (length us) refl inner in
    get_or-map piece (zip us (zip columns levels)) k (d, (a, b)) [] (omega (arith, h, outer))
    ∙ ap piece (get_or-zip us (zip columns levels) k (d, (a, b)) h (omega (arith, h, inner))
    ∙ ap (λ p. (get_or us k d, p)) (get_or-zip columns levels k (a, b) (omega (arith, h, e)) (omega (arith, h, f))))

-- the glyphs of one more unit are added
pub pieces-more : (f : ℕ → List Glyph) (order : List ℕ) (i k : ℕ) (old items new piece : List Glyph) → i < length order → k ≡ get_or order i 0
    → items ≡ old ++ flat_map f (take i order) → new ≡ items ++ piece → f k ≡ piece → new ≡ old ++ flat_map f (take (i + 1) order)
pieces-more f order i k old items new piece h at inv pushed is =
    let own : piece ≡ flat_map f (get_or order i 0 ∷ []) = sym is ∙ ap f at ∙ sym (append-nil (f (get_or order i 0))) in
    pushed ∙ ap (λ xs. xs ++ piece) inv ∙ append_assoc old (flat_map f (take i order)) piece
    ∙ ap (λ xs. old ++ (flat_map f (take i order) ++ xs)) own
    ∙ ap (λ xs. old ++ xs) (sym (flat_map-append f (take i order) (get_or order i 0 ∷ [])))
    ∙ ap (λ xs. old ++ flat_map f xs) (sym (take_more order i 0 h))

-- as many pieces as units
pub pieces-length : (ucd : Data) (w : ℕ) (body : List ℕ) (each : List (Option ℕ)) (us : List Unit) (columns levels : List ℕ) → length columns ≡ length us
    → length levels ≡ length us → length (unit_glyphs ucd w body each us columns levels) ≡ length us
pieces-length ucd w body each us columns levels e f =
    let piece : Unit × (ℕ × ℕ) → List Glyph = λ p. face_glyphs ucd w (unit_text body p.0) p.0.face p.1.0 p.1.1 (unit_forms ucd body each p.0) in
    length-map (zip us (zip columns levels)) piece ∙ length-zip us (zip columns levels) (length us) refl (length-zip columns levels (length us) e f)

-- ---- the row

-- the glyphs of units in an order
abbrev pub in_order : Data → ℕ → List ℕ → List (Option ℕ) → List Unit → List ℕ → List ℕ → List ℕ → List Glyph
in_order ucd w body each us columns levels order = flat_map (λ k. get_or (unit_glyphs ucd w body each us columns levels) k []) order

same-order : (ucd : Data) (w : ℕ) (body : List ℕ) (each : List (Option ℕ)) (us : List Unit) (columns levels order : List ℕ)
    → columns ≡ unit_columns w 0 us → order ≡ visual levels → in_order ucd w body each us columns levels order
    ≡ in_order ucd w body each us (unit_columns w 0 us) levels (visual levels)
same-order ucd w body each us columns levels order e f =
    ap (λ cs. in_order ucd w body each us cs levels order) e ∙ ap (in_order ucd w body each us (unit_columns w 0 us) levels) f

-- the glyphs of a row's units in visual order
pub own-of : (ucd : Data) (w : ℕ) (body : List ℕ) (each : List (Option ℕ)) (us : List Unit) (levels columns order : List ℕ) (start new : List Glyph)
    → columns ≡ unit_columns w 0 us → order ≡ visual levels → start ≡ [] → new ≡ start ++ in_order ucd w body each us columns levels order
    → new ≡ own_glyphs ucd w body each us levels
own-of ucd w body each us levels columns order start new e f s pushed =
    pushed ∙ ap (λ xs. xs ++ in_order ucd w body each us columns levels order) s ∙ same-order ucd w body each us columns levels order e f
