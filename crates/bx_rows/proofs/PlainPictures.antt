-- The picture of a row of plain units: one glyph per character.
use Rattle.std.proofs.Common.{◌≡◌, ℕ, suc, ◌+◌, ◌-◌, ◌%◌, ◌<◌, List, [], ◌∷◌, ◌++◌, Bool, true, false, chars, encode_utf8, length, map, sum, get_or, take, drop}
use Rattle.std.proofs.Common.{Option, All, refl, sym, ap, ap₂, ◌∙◌, arith, append_assoc}
use Rattle.std.specs.Prelude.{encode_utf8_all, flat_map}
use Rattle.std.specs.Str.{IsCharBoundary, IsUtf8}
use Rattle.std.proofs.lemmas.List.{get_or-map}
use Rattle.std.proofs.lemmas.List.Elements.{All-rest}
use Rattle.std.proofs.lemmas.List.Sums.{sum_by-cons}
use Rattle.std.proofs.lemmas.Str.{chars-IsAscii}
use Rattle.bx_ucd.specs.Data.{Data}
use Rattle.unicode_width.specs.Width.{str_width}
use Rattle.unicode_width.proofs.Rules.{str_width-printable}
use Rattle.bx_common.specs.Characters.{are_ascii_printable}
use Rattle.bx_rows.specs.declared.cells.unit.Face.TheVariants.{Own}
use Rattle.bx_rows.specs.declared.cells.unit.Unit.{Unit}
use Rattle.bx_rows.specs.cells.Units.{unit_text}
use Rattle.bx_rows.specs.cells.UnitFacts.{HasFace}
use Rattle.bx_rows.proofs.cells_lemmas.Printable.{ascii_bytes}
use Rattle.bx_ucd.specs.declared.joining.Form.{Form}
use Rattle.bx_ucd.specs.declared.joining.Form.TheVariants.{Isolated}
use Rattle.bx_rows.specs.joining.Joining.{body_forms, first_forms, text_forms}
use Rattle.bx_rows.proofs.joining_lemmas.TextForms.{length-first_forms, next_form}
use Rattle.bx_rows.specs.declared.start_search.RowStart.{RowStart}
use Rattle.bx_rows.specs.PlainRows.{char_forms, single_units, leveled_glyph, leveled_glyphs}
use Rattle.bx_rows.specs.RowStarts.{StartsRow}
use Rattle.bx_rows.specs.RowPicture.{unit_forms}
use Rattle.bx_rows.specs.RowPicture.{Glyph, glyph, blank, shown_text, text_glyphs, unit_columns, unit_glyphs, columns_used, with_blanks, draw}
use Rattle.bx_rows.specs.RowLevels.{visual}
use Rattle.bx_rows.proofs.FaceGlyphs.{Tells, tells-face, tells-shown}
use Rattle.bx_rows.proofs.NumbersBelow.{below_if_visual}
use Rattle.bx_rows.proofs.RowPlaces.{char-at}

-- ---- the glyphs by themselves

-- a glyph for each level
pub leveled-length : (ucd : Data) (w : ℕ) (cs levels : List ℕ) (forms : List Form) → length levels ≡ length cs → length forms ≡ length cs
    → length (leveled_glyphs ucd w cs levels forms) ≡ length levels
leveled-length ucd w [] levels forms e f = sym e
leveled-length ucd w (c ∷ cs) [] forms e f = refl
leveled-length ucd w (c ∷ cs) (l ∷ ls) [] e f = absurd (omega arith)
leveled-length ucd w (c ∷ cs) (l ∷ ls) (x ∷ xs) e f = ap suc (leveled-length ucd w cs ls xs (omega arith) (omega arith))

-- pieces of one glyph each, chosen by their numbers
singles-chosen : (gs : List Glyph) (ks : List ℕ) → All (λ k. k < length gs) ks
    → flat_map (λ k. get_or (map (λ g. g ∷ []) gs) k []) ks ≡ map (λ k. get_or gs k blank) ks
singles-chosen gs [] a = refl
singles-chosen gs (k ∷ ks) a =
    let single : Glyph → List Glyph = λ g. g ∷ [] in
    let rest = flat_map (λ j. get_or (map single gs) j []) ks in
    ap (λ xs. xs ++ rest) (get_or-map single gs k blank [] (a 0 0 (omega arith)))
    ∙ ap (λ xs. get_or gs k blank ∷ xs) (singles-chosen gs ks (All-rest (λ j. j < length gs) k ks (k ∷ ks) refl a))

-- ---- the columns

columns-single_from : (w c at : ℕ) (cs : List ℕ) → sum (unit_columns w c (single_units at cs)) ≡ length cs
columns-single_from w c at [] = refl
columns-single_from w c at (x ∷ xs) =
    let next = at + length (encode_utf8 x) in
    sum_by-cons (λ n. n) 1 (unit_columns w (c + 1) (single_units next xs)) ∙ omega (arith, columns-single_from w (c + 1) next xs)

pub columns-single : (w at : ℕ) (cs : List ℕ) → columns_used w (single_units at cs) ≡ length cs
columns-single w at cs = columns-single_from w 0 at cs

-- ---- own text of one column

one-letter : (text : List ℕ) → length text ≡ 1 → map (λ b. glyph (b ∷ []) 1 false) text ≡ glyph text 1 false ∷ []
one-letter [] e = absurd (omega (arith, e))
one-letter (b ∷ []) e = refl
one-letter (b ∷ c ∷ bs) e = absurd (omega (arith, e))

one-glyph_by : (text : List ℕ) (b : Bool) → are_ascii_printable text ≡ b → Tells (chars text) (Own 1)
    → elim b [ true ↦ map (λ x. glyph (x ∷ []) 1 false) text | false ↦ glyph text 1 false ∷ [] ] ≡ glyph text 1 false ∷ []
one-glyph_by text true e h =
    one-letter text (sym (str_width-printable false text e) ∙ ap (str_width false) (sym (chars-IsAscii text (ascii_bytes text e))) ∙ h.1)
one-glyph_by text false e h = refl

one-glyph : (text : List ℕ) → Tells (chars text) (Own 1) → text_glyphs 1 text ≡ glyph text 1 false ∷ []
one-glyph text h = one-glyph_by text (are_ascii_printable text) refl h

-- ---- the units' glyphs

-- the form of the only character of a unit
one-form : (ucd : Data) (body : List ℕ) (each : List (Option ℕ)) (n c : ℕ) (text : List ℕ) → chars text ≡ c ∷ []
    → text_forms ucd body each n text ≡ get_or (body_forms ucd body each) n Isolated ∷ []
one-form ucd body each n c text e =
    ap (λ cs. first_forms (length cs) (drop n (body_forms ucd body each))) e ∙ next_form 0 n (body_forms ucd body each)

-- the glyphs of the units, each by itself
pub pieces-single : (ucd : Data) (w taken : ℕ) (body : List ℕ) (each : List (Option ℕ)) (at n : ℕ) (cs rest levels : List ℕ)
    → IsUtf8 body → IsCharBoundary body at → n ≡ length (chars (take at body))
    → drop at body ≡ encode_utf8_all cs ++ rest → All (HasFace ucd w body) (single_units at cs) → length levels ≡ length cs
    → unit_glyphs ucd w body each (single_units at cs) (unit_columns w taken (single_units at cs)) levels
    ≡ map (λ g. g ∷ []) (leveled_glyphs ucd w cs levels (char_forms ucd body each n cs))
pieces-single ucd w taken body each at n [] rest levels u b count bytes a e = refl
pieces-single ucd w taken body each at n (c ∷ cs) rest [] u b count bytes a e = refl
pieces-single ucd w taken body each at n (c ∷ cs) rest (l ∷ ls) u b count bytes a e =
    let size = length (encode_utf8 c) in
    let v : Unit = record { start = at; stop = at + size; face = Own 1 } in
    let us = single_units (at + size) cs in
    let more = encode_utf8_all cs ++ rest in
    let split : drop at body ≡ encode_utf8 c ++ more = bytes ∙ append_assoc (encode_utf8 c) (encode_utf8_all cs) rest in
    let here = char-at body at c more u b split in
    let form = get_or (body_forms ucd body each) n Isolated in
    let forms : unit_forms ucd body each v ≡ form ∷ [] =
    ap (λ k. text_forms ucd body each k (unit_text body v)) (sym count) ∙ one-form ucd body each n c (unit_text body v) (ap chars here.text ∙ here.alone) in
    let told = tells-shown ucd w 1 (l % 2) (unit_forms ucd body each v) (unit_text body v)
    (tells-face ucd w (unit_text body v) (Own 1) (a 0 v (omega arith))) in
    let own : text_glyphs 1 (shown_text ucd w 1 l (unit_forms ucd body each v) (unit_text body v)) ≡ leveled_glyph ucd w c l form ∷ [] =
    one-glyph (shown_text ucd w 1 l (unit_forms ucd body each v) (unit_text body v)) told
    ∙ ap₂ (λ fs t. glyph (shown_text ucd w 1 l fs t) 1 false ∷ []) forms here.text in
    let later : n + 1 ≡ length (chars (take (at + size) body)) = ap (λ k. k + 1) count ∙ sym here.counted in
    ap (λ xs. xs ∷ unit_glyphs ucd w body each us (unit_columns w (taken + 1) us) ls) own
    ∙ ap (λ xs. (leveled_glyph ucd w c l form ∷ []) ∷ xs)
    (pieces-single ucd w (taken + 1) body each (at + size) (n + 1) cs rest ls u here.next later here.rest
    (All-rest (HasFace ucd w body) v us (v ∷ us) refl a) (omega arith))
    ∙ ap (λ fs. map (λ g. g ∷ []) (leveled_glyphs ucd w (c ∷ cs) (l ∷ ls) fs)) (sym (next_form (length cs) n (body_forms ucd body each)))

-- ---- the row

-- the glyphs of the characters at their levels in visual order, and the blanks
pub single-draw : (ucd : Data) (w : ℕ) (body : List ℕ) (paragraph : ℕ) (each : List (Option ℕ)) (start : RowStart) (cs rest levels : List ℕ)
    → IsUtf8 body → StartsRow body start
    → drop start.offset body ≡ encode_utf8_all cs ++ rest → All (HasFace ucd w body) (single_units start.offset cs) → length levels ≡ length cs
    → draw ucd w body paragraph each (single_units start.offset cs) levels
    ≡ with_blanks paragraph (w - length cs)
    (map (λ k. get_or (leveled_glyphs ucd w cs levels (char_forms ucd body each start.chars cs)) k blank) (visual levels))
single-draw ucd w body paragraph each start cs rest levels u starts bytes a e =
    let us = single_units start.offset cs in
    let forms = char_forms ucd body each start.chars cs in
    let gs = leveled_glyphs ucd w cs levels forms in
    let many = length-first_forms (length cs) (drop start.chars (body_forms ucd body each)) in
    let below : All (λ k. k < length gs) (visual levels) =
    λ i d h. omega (arith, below_if_visual levels (visual levels) refl i d h, leveled-length ucd w cs levels forms e many) in
    ap (λ n. with_blanks paragraph (w - n) (flat_map (λ k. get_or (unit_glyphs ucd w body each us (unit_columns w 0 us) levels) k []) (visual levels)))
    (columns-single w start.offset cs)
    ∙ ap (λ pieces. with_blanks paragraph (w - length cs) (flat_map (λ k. get_or pieces k []) (visual levels)))
    (pieces-single ucd w 0 body each start.offset start.chars cs rest levels u starts.boundary starts.chars bytes a e)
    ∙ ap (with_blanks paragraph (w - length cs)) (singles-chosen gs (visual levels) below)
