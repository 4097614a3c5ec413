-- A row's picture shows each letter as it is shown without joined letters, or in one of the letter's forms.
use Rattle.std.proofs.Common.{◌≡◌, ℕ, zero, suc, ◌-◌, ◌%◌, ◌<◌, Bool, true, false, List, [], ◌∷◌, ◌++◌, length, map, get_or, replicate, chars, Option, Some, None, All, refl, sym, ap, ap₂}
use Rattle.std.proofs.Common.{◌∙◌, arith, append-nil, inl, inr}
use Rattle.std.specs.Prelude.{encode_utf8, encode_utf8_all, flat_map, unwrap_or}
use Rattle.std.specs.Str.{IsUtf8}
use Rattle.std.proofs.lemmas.Grind.{flat_map-append}
use Rattle.std.proofs.lemmas.List.{length-map, map-append, map-id}
use Rattle.std.proofs.lemmas.List.Elements.{All-append, All-cons, All-nil, All-rest}
use Rattle.std.proofs.lemmas.Str.{IsUtf8-between, encode_ascii, encodes-chars}
use Rattle.bx_common.specs.Characters.{are_ascii_printable}
use Rattle.bx_ucd.specs.Data.{Data}
use Rattle.bx_ucd.specs.declared.joining.Form.{Form}
use Rattle.bx_rows.specs.declared.cells.unit.Face.{Face}
use Rattle.bx_rows.specs.declared.cells.unit.Face.TheVariants.{Tab, Placeholder, Own}
use Rattle.bx_rows.specs.declared.cells.unit.Unit.{Unit}
use Rattle.bx_rows.specs.cells.Units.{face, unit_text}
use Rattle.bx_rows.specs.cells.UnitFacts.{HasFace, StandsIn}
use Rattle.bx_rows.specs.joining.Joining.{in_forms}
use Rattle.bx_rows_laws.specs.JoiningLaws.{IsSameOrForm, LettersShowTheirForms, ShownLetter, ShowsForms, plain, text_shown, unjoined}
use Rattle.bx_rows.specs.RowPicture.{Glyph, blank, columns_used, face_glyphs, glyph, is_own, joined_image_within, letter_glyphs, mirror_image_within, mirrored_chars, shown_text}
use Rattle.bx_rows.specs.RowPicture.{unit_columns, unit_forms, unit_glyphs}
use Rattle.bx_rows.proofs.FaceGlyphs.{HasLetter, letter-face}
use Rattle.bx_rows.specs.RowLevels.{visual}
use Rattle.bx_rows.proofs.GlyphTexts.{all-append, printable-from}
use Rattle.bx_rows.proofs.Leveled.{formless-text, same-either, whole-mirrored}

-- ---- texts place by place

none : (ucd : Data) → ShowsForms ucd [] [] []
none ucd = record { places = []; letters_are = refl; unjoined_are = refl; shown_are = refl; each = All-nil (IsSameOrForm ucd) }

more : (ucd : Data) (p : ShownLetter) (ls us ss : List ℕ) → IsSameOrForm ucd p → ShowsForms ucd ls us ss
    → ShowsForms ucd (encode_utf8 p.letter ++ ls) (encode_utf8 p.unjoined ++ us) (encode_utf8 p.shown ++ ss)
more ucd p ls us ss h s = record {
  places = p ∷ s.places;
  letters_are = ap (λ t. encode_utf8 p.letter ++ t) s.letters_are;
  unjoined_are = ap (λ t. encode_utf8 p.unjoined ++ t) s.unjoined_are;
  shown_are = ap (λ t. encode_utf8 p.shown ++ t) s.shown_are;
  each = All-cons (IsSameOrForm ucd) p s.places h s.each;
}

encoded-both : (f : ShownLetter → ℕ) (ps qs : List ShownLetter) → encode_utf8_all (map f ps) ++ encode_utf8_all (map f qs) ≡ encode_utf8_all (map f (ps ++ qs))
encoded-both f ps qs = sym (all-append (map f ps) (map f qs)) ∙ ap encode_utf8_all (sym (map-append f ps qs))

both : (ucd : Data) (ls us ss ls' us' ss' : List ℕ) → ShowsForms ucd ls us ss → ShowsForms ucd ls' us' ss'
    → ShowsForms ucd (ls ++ ls') (us ++ us') (ss ++ ss')
both ucd ls us ss ls' us' ss' s t = record {
  places = s.places ++ t.places;
  letters_are = ap₂ (λ x y. x ++ y) s.letters_are t.letters_are ∙ encoded-both (λ p. p.letter) s.places t.places;
  unjoined_are = ap₂ (λ x y. x ++ y) s.unjoined_are t.unjoined_are ∙ encoded-both (λ p. p.unjoined) s.places t.places;
  shown_are = ap₂ (λ x y. x ++ y) s.shown_are t.shown_are ∙ encoded-both (λ p. p.shown) s.places t.places;
  each = All-append (IsSameOrForm ucd) s.places t.places s.each t.each;
}

of-texts : (ucd : Data) (ls us ss ls' us' ss' : List ℕ) → ls' ≡ ls → us' ≡ us → ss' ≡ ss → ShowsForms ucd ls us ss → ShowsForms ucd ls' us' ss'
of-texts ucd ls us ss ls' us' ss' e f g s = record {
  places = s.places;
  letters_are = e ∙ s.letters_are;
  unjoined_are = f ∙ s.unjoined_are;
  shown_are = g ∙ s.shown_are;
  each = s.each;
}

form-or : (ucd : Data) (letter c : ℕ) (f : Form) (o : Option ℕ) → ucd.form letter f ≡ o
    → IsSameOrForm ucd (record { letter = letter; unjoined = c; shown = unwrap_or o c })
form-or ucd letter c f None e = inl refl
form-or ucd letter c f (Some d) e = inr (f, e)

formed : (ucd : Data) (forms : List Form) (ls cs : List ℕ) → length ls ≡ length cs
    → ShowsForms ucd (encode_utf8_all ls) (encode_utf8_all cs) (encode_utf8_all (in_forms ucd forms ls cs))
formed ucd [] [] [] e = none ucd
formed ucd [] [] (c ∷ cs) e = absurd (omega arith)
formed ucd [] (l ∷ ls) [] e = absurd (omega arith)
formed ucd [] (l ∷ ls) (c ∷ cs) e =
    more ucd (record { letter = l; unjoined = c; shown = c }) (encode_utf8_all ls) (encode_utf8_all cs) (encode_utf8_all cs) (inl refl)
    (formed ucd [] ls cs (omega arith))
formed ucd (f ∷ fs) [] [] e = none ucd
formed ucd (f ∷ fs) [] (c ∷ cs) e = absurd (omega arith)
formed ucd (f ∷ fs) (l ∷ ls) [] e = absurd (omega arith)
formed ucd (f ∷ fs) (l ∷ ls) (c ∷ cs) e =
    more ucd (record { letter = l; unjoined = c; shown = unwrap_or (ucd.form l f) c }) (encode_utf8_all ls) (encode_utf8_all cs)
    (encode_utf8_all (in_forms ucd fs ls cs)) (form-or ucd l c f (ucd.form l f) refl) (formed ucd fs ls cs (omega arith))

-- ---- the text of a unit

same-count : (b : Bool) (others cs : List ℕ) → length others ≡ length cs → length cs ≡ length (elim b as (λ _. List ℕ) [ true ↦ others | false ↦ cs ])
same-count true others cs e = sym e
same-count false others cs e = refl

formed-or : (ucd : Data) (forms : List Form) (ls cs : List ℕ) (b : Bool) (image : List ℕ) → length ls ≡ length cs → image ≡ encode_utf8_all cs
    → ShowsForms ucd (encode_utf8_all ls) (encode_utf8_all cs) (elim b as (λ _. List ℕ) [ true ↦ encode_utf8_all (in_forms ucd forms ls cs) | false ↦ image ])
formed-or ucd forms ls cs true image n e = formed ucd forms ls cs n
formed-or ucd forms ls cs false image n e =
    of-texts ucd (encode_utf8_all ls) (encode_utf8_all cs) (encode_utf8_all cs) (encode_utf8_all ls) (encode_utf8_all cs) image refl refl e (formed ucd [] ls cs n)

-- the text mirrored with no mirrors is the text
unmirrored : (ucd : Data) (w n : ℕ) (text : List ℕ) → IsUtf8 text → mirror_image_within (plain ucd) w n text ≡ text
unmirrored ucd w n text u =
    let whole : encode_utf8_all (map (λ c. c) (chars text)) ≡ text = ap encode_utf8_all (map-id (chars text)) ∙ encodes-chars text u in
    same-either (is_own n (face ucd w (encode_utf8_all (map (λ c. c) (chars text))))) (encode_utf8_all (map (λ c. c) (chars text))) text whole

joined-text : (ucd : Data) (w n : ℕ) (fs fs' forms : List Form) (text : List ℕ) → IsUtf8 text
    → ShowsForms ucd (joined_image_within (plain ucd) w n fs text) (joined_image_within (unjoined ucd) w n fs' text) (joined_image_within ucd w n forms text)
joined-text ucd w n fs fs' forms text u =
    let letters = chars text in
    let others = map (λ c. unwrap_or (ucd.mirror c) c) letters in
    let b = is_own n (face ucd w (encode_utf8_all others)) in
    let cs = mirrored_chars ucd w n letters in
    let image : mirror_image_within ucd w n text ≡ encode_utf8_all cs = sym (whole-mirrored b others letters text (encodes-chars text u)) in
    let shown = joined_image_within ucd w n forms text in
    of-texts ucd (encode_utf8_all letters) (encode_utf8_all cs) shown _ _ shown
    (formless-text (plain ucd) w n fs text u (λ k c h form. refl) ∙ unmirrored ucd w n text u ∙ sym (encodes-chars text u))
    (formless-text (unjoined ucd) w n fs' text u (λ k c h form. refl) ∙ image) refl
    (formed-or ucd forms letters cs (is_own n (face ucd w (encode_utf8_all (in_forms ucd forms letters cs)))) (mirror_image_within ucd w n text)
    (same-count b others letters (length-map letters (λ c. unwrap_or (ucd.mirror c) c))) image)

at-level : (ucd : Data) (odd : ℕ) (text ls us ss : List ℕ) → IsUtf8 text → ShowsForms ucd ls us ss
    → ShowsForms ucd (elim odd as (λ _. List ℕ) [ zero ↦ text | suc _ ↦ ls ]) (elim odd as (λ _. List ℕ) [ zero ↦ text | suc _ ↦ us ])
    (elim odd as (λ _. List ℕ) [ zero ↦ text | suc _ ↦ ss ])
at-level ucd zero text ls us ss u s =
    let cs = chars text in
    let whole = encodes-chars text u in
    of-texts ucd (encode_utf8_all cs) (encode_utf8_all cs) (encode_utf8_all cs) text text text (sym whole) (sym whole) (sym whole) (formed ucd [] cs cs refl)
at-level ucd (suc k) text ls us ss u s = s

-- ---- the glyphs of a unit

letters-text : (text : List ℕ) → text_shown (map (λ x. glyph (x ∷ []) 1 false) text) ≡ text
letters-text [] = refl
letters-text (b ∷ bs) = ap (λ xs. b ∷ xs) (letters-text bs)

pub glyphs-text : (n : ℕ) (text : List ℕ) (b : Bool)
    → text_shown (elim b as (λ _. List Glyph) [ true ↦ letter_glyphs text | false ↦ glyph text n false ∷ [] ]) ≡ text
glyphs-text n text true = letters-text text
glyphs-text n text false = append-nil text

one-byte : (ucd : Data) (b : ℕ) (ls us ss : List ℕ) → b < 128 → ShowsForms ucd ls us ss → ShowsForms ucd (b ∷ ls) (b ∷ us) (b ∷ ss)
one-byte ucd b ls us ss h s =
    let own : b ∷ [] ≡ encode_utf8 b = sym (encode_ascii b h) in
    of-texts ucd (encode_utf8 b ++ ls) (encode_utf8 b ++ us) (encode_utf8 b ++ ss) (b ∷ ls) (b ∷ us) (b ∷ ss)
    (ap (λ t. t ++ ls) own) (ap (λ t. t ++ us) own) (ap (λ t. t ++ ss) own)
    (more ucd (record { letter = b; unjoined = b; shown = b }) ls us ss (inl refl) s)

blanks-text : (ucd : Data) (n : ℕ)
    → ShowsForms ucd (text_shown (replicate n blank)) (text_shown (replicate n blank)) (text_shown (replicate n blank))
blanks-text ucd zero = none ucd
blanks-text ucd (suc n) =
    let t = text_shown (replicate n blank) in one-byte ucd 32 t t t (omega arith) (blanks-text ucd n)

face-text : (ucd : Data) (w columns level : ℕ) (fs fs' forms : List Form) (text : List ℕ) (f : Face) → IsUtf8 text → HasLetter f
    → ShowsForms ucd (text_shown (face_glyphs (plain ucd) w text f columns level fs)) (text_shown (face_glyphs (unjoined ucd) w text f columns level fs'))
    (text_shown (face_glyphs ucd w text f columns level forms))
face-text ucd w columns level fs fs' forms text Tab u h = blanks-text ucd columns
face-text ucd w columns level fs fs' forms text (Placeholder letter) u h =
    let p = printable-from letter h in one-byte ucd letter [] [] [] (omega (arith, p.1)) (none ucd)
face-text ucd w columns level fs fs' forms text (Own n) u h =
    let own = shown_text (plain ucd) w n level fs text in
    let mirrored = shown_text (unjoined ucd) w n level fs' text in
    let shown = shown_text ucd w n level forms text in
    of-texts ucd own mirrored shown _ _ _ (glyphs-text n own (are_ascii_printable own)) (glyphs-text n mirrored (are_ascii_printable mirrored))
    (glyphs-text n shown (are_ascii_printable shown))
    (at-level ucd (level % 2) text _ _ _ u (joined-text ucd w n fs fs' forms text u))

-- ---- the text of a row

pieces-text : (ucd : Data) (w : ℕ) (body : List ℕ) (each : List (Option ℕ)) (us : List Unit) (columns levels : List ℕ) (k : ℕ) → IsUtf8 body
    → All (StandsIn body) us → All (HasFace ucd w body) us
    → ShowsForms ucd (text_shown (get_or (unit_glyphs (plain ucd) w body each us columns levels) k []))
    (text_shown (get_or (unit_glyphs (unjoined ucd) w body each us columns levels) k [])) (text_shown (get_or (unit_glyphs ucd w body each us columns levels) k []))
pieces-text ucd w body each [] columns levels k v stand faces = none ucd
pieces-text ucd w body each (u ∷ us) [] levels k v stand faces = none ucd
pieces-text ucd w body each (u ∷ us) (n ∷ ns) [] k v stand faces = none ucd
pieces-text ucd w body each (u ∷ us) (n ∷ ns) (l ∷ ls) zero v stand faces =
    let at = stand 0 u (omega arith) in
    face-text ucd w n l (unit_forms (plain ucd) body each u) (unit_forms (unjoined ucd) body each u) (unit_forms ucd body each u) (unit_text body u) u.face
    (IsUtf8-between body u.start u.stop v at.0 at.1 at.2) (letter-face ucd w (unit_text body u) u.face (faces 0 u (omega arith)))
pieces-text ucd w body each (u ∷ us) (n ∷ ns) (l ∷ ls) (suc k) v stand faces =
    pieces-text ucd w body each us ns ls k v (All-rest (StandsIn body) u us (u ∷ us) refl stand) (All-rest (HasFace ucd w body) u us (u ∷ us) refl faces)

chosen-text : (ucd : Data) (f g h : ℕ → List Glyph) (ks : List ℕ) → ((k : ℕ) → ShowsForms ucd (text_shown (f k)) (text_shown (g k)) (text_shown (h k)))
    → ShowsForms ucd (text_shown (flat_map f ks)) (text_shown (flat_map g ks)) (text_shown (flat_map h ks))
chosen-text ucd f g h [] s = none ucd
chosen-text ucd f g h (k ∷ ks) s =
    of-texts ucd _ _ _ _ _ _ (flat_map-append (λ x. x.text) (f k) (flat_map f ks)) (flat_map-append (λ x. x.text) (g k) (flat_map g ks))
    (flat_map-append (λ x. x.text) (h k) (flat_map h ks))
    (both ucd (text_shown (f k)) (text_shown (g k)) (text_shown (h k)) (text_shown (flat_map f ks)) (text_shown (flat_map g ks)) (text_shown (flat_map h ks))
    (s k) (chosen-text ucd f g h ks s))

blanks-beside : (ucd : Data) (odd n : ℕ) (a b c : List Glyph) → ShowsForms ucd (text_shown a) (text_shown b) (text_shown c)
    → ShowsForms ucd (text_shown (elim odd as (λ _. List Glyph) [ zero ↦ a ++ replicate n blank | suc _ ↦ replicate n blank ++ a ]))
    (text_shown (elim odd as (λ _. List Glyph) [ zero ↦ b ++ replicate n blank | suc _ ↦ replicate n blank ++ b ]))
    (text_shown (elim odd as (λ _. List Glyph) [ zero ↦ c ++ replicate n blank | suc _ ↦ replicate n blank ++ c ]))
blanks-beside ucd zero n a b c s =
    let t = text_shown (replicate n blank) in
    of-texts ucd _ _ _ _ _ _ (flat_map-append (λ x. x.text) a (replicate n blank)) (flat_map-append (λ x. x.text) b (replicate n blank))
    (flat_map-append (λ x. x.text) c (replicate n blank)) (both ucd (text_shown a) (text_shown b) (text_shown c) t t t s (blanks-text ucd n))
blanks-beside ucd (suc k) n a b c s =
    let t = text_shown (replicate n blank) in
    of-texts ucd _ _ _ _ _ _ (flat_map-append (λ x. x.text) (replicate n blank) a) (flat_map-append (λ x. x.text) (replicate n blank) b)
    (flat_map-append (λ x. x.text) (replicate n blank) c) (both ucd t t t (text_shown a) (text_shown b) (text_shown c) (blanks-text ucd n) s)

pub letters_show_forms : LettersShowTheirForms
letters_show_forms ucd w body paragraph each us levels v stand faces =
    let columns = unit_columns w 0 us in
    blanks-beside ucd (paragraph % 2) (w - columns_used w us) _ _ _
    (chosen-text ucd (λ k. get_or (unit_glyphs (plain ucd) w body each us columns levels) k [])
    (λ k. get_or (unit_glyphs (unjoined ucd) w body each us columns levels) k []) (λ k. get_or (unit_glyphs ucd w body each us columns levels) k [])
    (visual levels) (λ k. pieces-text ucd w body each us columns levels k v stand faces))
