-- Joined letters leave the columns of a picture as they are.
use Rattle.std.proofs.Common.{◌≡◌, ℕ, zero, suc, ◌-◌, ◌%◌, Bool, true, false, List, [], ◌∷◌, ◌++◌, length, map, get_or, replicate, chars, Option, All, refl, sym, ap, ap₂}
use Rattle.std.proofs.Common.{◌∙◌, arith, append-nil}
use Rattle.std.specs.Prelude.{flat_map}
use Rattle.std.proofs.lemmas.Grind.{flat_map-append}
use Rattle.std.proofs.lemmas.List.Elements.{All-rest}
use Rattle.std.specs.Str.{IsUtf8}
use Rattle.std.proofs.lemmas.Str.{chars-IsAscii, IsUtf8-between}
use Rattle.bx_common.specs.Characters.{are_ascii_printable}
use Rattle.bx_ucd.specs.Data.{Data}
use Rattle.bx_ucd.specs.declared.joining.Form.{Form}
use Rattle.bx_rows.specs.declared.cells.unit.Face.{Face}
use Rattle.bx_rows.specs.declared.cells.unit.Face.TheVariants.{Tab, Placeholder, Own}
use Rattle.bx_rows.specs.declared.cells.unit.Unit.{Unit}
use Rattle.bx_rows.specs.cells.Units.{unit_chars, unit_text}
use Rattle.bx_rows.specs.cells.UnitFacts.{HasFace, StandsIn}
use Rattle.bx_rows.specs.joining.JoinedText.{AreFormless}
use Rattle.bx_rows.proofs.Leveled.{formless-shown}
use Rattle.bx_rows.proofs.cells_lemmas.Printable.{ascii_bytes}
use Rattle.unicode_width.specs.Width.{str_width}
use Rattle.unicode_width.proofs.Rules.{str_width-printable}
use Rattle.bx_rows_laws.specs.JoiningLaws.{FormlessRowsStay, FormsChangeTextsAlone, columns_shown, unjoined}
use Rattle.bx_rows.specs.RowPicture.{Glyph, blank, columns_used, face_glyphs, glyph, shown_text, text_glyphs, unit_columns, unit_forms, unit_glyphs, with_blanks}
use Rattle.bx_rows.specs.RowLevels.{visual}
use Rattle.bx_rows.proofs.FaceGlyphs.{Tells, tells-face, tells-shown}

-- ---- a unit's columns

blanks-shown : (n : ℕ) → columns_shown (replicate n blank) ≡ replicate n false
blanks-shown zero = refl
blanks-shown (suc n) = ap (λ bs. false ∷ bs) (blanks-shown n)

letters-shown : (text : List ℕ) → columns_shown (map (λ x. glyph (x ∷ []) 1 false) text) ≡ replicate (length text) false
letters-shown [] = refl
letters-shown (b ∷ bs) = ap (λ xs. false ∷ xs) (letters-shown bs)

text-shown : (text : List ℕ) (n : ℕ) (b : Bool) → are_ascii_printable text ≡ b → Tells (chars text) (Own n)
    → columns_shown (elim b [ true ↦ map (λ x. glyph (x ∷ []) 1 false) text | false ↦ glyph text n false ∷ [] ]) ≡ replicate n false
text-shown text n true e h =
    letters-shown text
    ∙ ap (λ k. replicate k false) (sym (str_width-printable false text e) ∙ ap (str_width false) (sym (chars-IsAscii text (ascii_bytes text e))) ∙ h.1)
text-shown text n false e h = append-nil (replicate n false)

-- the columns of a face, whatever its text
face_columns : Face → ℕ → List Bool
face_columns Tab columns = replicate columns false
face_columns (Placeholder letter) columns = true ∷ []
face_columns (Own n) columns = replicate n false

face-shown : (ucd : Data) (w columns level : ℕ) (forms : List Form) (text : List ℕ) (f : Face) → Tells (chars text) f
    → columns_shown (face_glyphs ucd w text f columns level forms) ≡ face_columns f columns
unfolding face_columns
face-shown ucd w columns level forms text Tab h = blanks-shown columns
face-shown ucd w columns level forms text (Placeholder letter) h = refl
face-shown ucd w columns level forms text (Own n) h =
    let own = shown_text ucd w n level forms text in
    text-shown own n (are_ascii_printable own) refl (tells-shown ucd w n (level % 2) forms text h)

-- ---- a row's columns

pieces-shown : (ucd : Data) (w : ℕ) (body : List ℕ) (each : List (Option ℕ)) (us : List Unit) (columns levels : List ℕ) (k : ℕ)
    → All (HasFace ucd w body) us
    → columns_shown (get_or (unit_glyphs ucd w body each us columns levels) k [])
    ≡ columns_shown (get_or (unit_glyphs (unjoined ucd) w body each us columns levels) k [])
pieces-shown ucd w body each [] columns levels k a = refl
pieces-shown ucd w body each (u ∷ us) [] levels k a = refl
pieces-shown ucd w body each (u ∷ us) (n ∷ ns) [] k a = refl
pieces-shown ucd w body each (u ∷ us) (n ∷ ns) (l ∷ ls) zero a =
    let told = tells-face ucd w (unit_text body u) u.face (a 0 u (omega arith)) in
    face-shown ucd w n l (unit_forms ucd body each u) (unit_text body u) u.face told
    ∙ sym (face-shown (unjoined ucd) w n l (unit_forms (unjoined ucd) body each u) (unit_text body u) u.face told)
pieces-shown ucd w body each (u ∷ us) (n ∷ ns) (l ∷ ls) (suc k) a =
    pieces-shown ucd w body each us ns ls k (All-rest (HasFace ucd w body) u us (u ∷ us) refl a)

chosen-shown : (f g : ℕ → List Glyph) (ks : List ℕ) → ((k : ℕ) → columns_shown (f k) ≡ columns_shown (g k))
    → columns_shown (flat_map f ks) ≡ columns_shown (flat_map g ks)
chosen-shown f g [] same = refl
chosen-shown f g (k ∷ ks) same =
    flat_map-append (λ x. replicate x.columns x.negative) (f k) (flat_map f ks)
    ∙ ap₂ (λ xs ys. xs ++ ys) (same k) (chosen-shown f g ks same)
    ∙ sym (flat_map-append (λ x. replicate x.columns x.negative) (g k) (flat_map g ks))

blanks-beside : (odd n : ℕ) (one other : List Glyph) → columns_shown one ≡ columns_shown other
    → columns_shown (elim odd [ zero ↦ one ++ replicate n blank | suc _ ↦ replicate n blank ++ one ])
    ≡ columns_shown (elim odd [ zero ↦ other ++ replicate n blank | suc _ ↦ replicate n blank ++ other ])
blanks-beside zero n one other same =
    flat_map-append (λ x. replicate x.columns x.negative) one (replicate n blank) ∙ ap (λ xs. xs ++ columns_shown (replicate n blank)) same
    ∙ sym (flat_map-append (λ x. replicate x.columns x.negative) other (replicate n blank))
blanks-beside (suc k) n one other same =
    flat_map-append (λ x. replicate x.columns x.negative) (replicate n blank) one ∙ ap (λ xs. columns_shown (replicate n blank) ++ xs) same
    ∙ sym (flat_map-append (λ x. replicate x.columns x.negative) (replicate n blank) other)

pub texts_alone : FormsChangeTextsAlone
texts_alone ucd w body paragraph each us levels faces =
    let columns = unit_columns w 0 us in
    blanks-beside (paragraph % 2) (w - columns_used w us) _ _
    (chosen-shown (λ k. get_or (unit_glyphs ucd w body each us columns levels) k []) (λ k. get_or (unit_glyphs (unjoined ucd) w body each us columns levels) k [])
    (visual levels) (λ k. pieces-shown ucd w body each us columns levels k faces))

-- ---- letters without forms

own-stays : (ucd : Data) (w n level : ℕ) (forms forms' : List Form) (text : List ℕ) → IsUtf8 text → AreFormless ucd (chars text)
    → shown_text ucd w n level forms text ≡ shown_text (unjoined ucd) w n level forms' text
own-stays ucd w n level forms forms' text u none =
    formless-shown ucd w n level forms text u none ∙ sym (formless-shown (unjoined ucd) w n level forms' text u (λ k c h form. refl))

face-stays : (ucd : Data) (w columns level : ℕ) (forms forms' : List Form) (text : List ℕ) (f : Face) → IsUtf8 text → AreFormless ucd (chars text)
    → face_glyphs ucd w text f columns level forms ≡ face_glyphs (unjoined ucd) w text f columns level forms'
face-stays ucd w columns level forms forms' text Tab u none = refl
face-stays ucd w columns level forms forms' text (Placeholder letter) u none = refl
face-stays ucd w columns level forms forms' text (Own n) u none = ap (text_glyphs n) (own-stays ucd w n level forms forms' text u none)

units-stay : (ucd : Data) (w : ℕ) (body : List ℕ) (each : List (Option ℕ)) (us : List Unit) (columns levels : List ℕ) → IsUtf8 body
    → All (StandsIn body) us → All (λ u. AreFormless ucd (unit_chars body u)) us
    → unit_glyphs ucd w body each us columns levels ≡ unit_glyphs (unjoined ucd) w body each us columns levels
units-stay ucd w body each [] columns levels v stand none = refl
units-stay ucd w body each (u ∷ us) [] levels v stand none = refl
units-stay ucd w body each (u ∷ us) (n ∷ ns) [] v stand none = refl
units-stay ucd w body each (u ∷ us) (n ∷ ns) (l ∷ ls) v stand none =
    let at = stand 0 u (omega arith) in
    let whole : IsUtf8 (unit_text body u) = IsUtf8-between body u.start u.stop v at.0 at.1 at.2 in
    ap₂ (λ x xs. x ∷ xs)
    (face-stays ucd w n l (unit_forms ucd body each u) (unit_forms (unjoined ucd) body each u) (unit_text body u) u.face whole (none 0 u (omega arith)))
    (units-stay ucd w body each us ns ls v (All-rest (StandsIn body) u us (u ∷ us) refl stand)
    (All-rest (λ x. AreFormless ucd (unit_chars body x)) u us (u ∷ us) refl none))

pub rows_stay : FormlessRowsStay
rows_stay ucd w body paragraph each us levels v stand none =
    ap (λ pieces. with_blanks paragraph (w - columns_used w us) (flat_map (λ k. get_or pieces k []) (visual levels)))
    (units-stay ucd w body each us (unit_columns w 0 us) levels v stand none)
