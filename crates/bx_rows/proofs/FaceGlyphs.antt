-- The glyphs of a unit with the face of its text: each is one glyph, and their columns add up to the unit's.
use Rattle.std.proofs.Common.{◌≡◌, ℕ, zero, suc, ◌%◌, ◌≤◌, ◌==◌, nat_lt, nat_le, Bool, true, false, not, ◌&&◌, ◌||◌, List, [], ◌∷◌, length, map, sum_by}
use Rattle.std.proofs.Common.{chars, Option, Some, None, All, refl, sym, subst, ap, ◌∙◌, arith}
use Rattle.std.specs.Prelude.{encode_utf8_all, ⊤}
use Rattle.std.specs.List.{list_all, list_any}
use Rattle.std.proofs.lemmas.Bool.{and_parts, and_from, or_left, or_right}
use Rattle.std.proofs.lemmas.Bool.Decides.{nat_tests}
use Rattle.std.proofs.lemmas.List.Elements.{All-map, All-cons, All-nil, All-replicate}
use Rattle.std.proofs.lemmas.List.Sums.{sum_by-cons}
use Rattle.std.proofs.lemmas.List.Folds.{sum_by-replicate}
use Rattle.std.proofs.lemmas.Str.{chars-IsAscii}
use Rattle.bx_ucd.specs.Data.{Data}
use Rattle.unicode_width.specs.Width.{str_width}
use Rattle.unicode_width.proofs.Rules.{str_width-printable}
use Rattle.bx_common.specs.Characters.{are_ascii_printable, are_printable, is_ascii_glyph, is_ascii_printable, is_control}
use Rattle.bx_common.specs.Glyphs.{is_one_glyph, run_width}
use Rattle.bx_ucd.specs.declared.class.Class.{Class}
use Rattle.bx_ucd.specs.declared.joining.Form.{Form}
use Rattle.bx_ucd.specs.declared.class.Class.TheVariants.{L, R, AL, EN, ES, ET, AN, CS, NSM, BN, B, S, WS, ON, LRE, RLE, LRO, RLO, PDF, LRI, RLI, FSI, PDI}
use Rattle.bx_rows.specs.declared.cells.unit.Face.{Face}
use Rattle.bx_rows.specs.declared.cells.unit.Face.TheVariants.{Tab, Placeholder, Own}
use Rattle.bx_rows.specs.cells.Units.{face, face_of, only_char, is_tab, letter_of, format_letter, sized_face, columns_of}
use Rattle.bx_rows.proofs.cells_lemmas.Printable.{ascii_bytes}
use Rattle.bx_rows.specs.joining.Joining.{in_forms}
use Rattle.bx_rows.specs.RowPicture.{Glyph, glyph, blank, mirror_image, is_own, joined_image_within, mirror_image_within, mirrored_chars, shown_text, face_glyphs, letter_glyphs}
use Rattle.bx_rows.specs.Wrapping.{columns_at}

-- a mark's letter is a character from SPACE to TILDE
abbrev pub HasLetter : Face → Type 0
HasLetter (Placeholder letter) = is_ascii_printable letter ≡ true
HasLetter _ = ⊤

-- ---- a text from its face

-- own text has no control and as many columns, one or more; a mark has a letter
abbrev pub Tells : List ℕ → Face → Type 0
Tells cs Tab = ⊤
Tells cs (Placeholder letter) = is_ascii_printable letter ≡ true
Tells cs (Own n) = (list_any is_control cs ≡ false) × (columns_of cs ≡ n) × (1 ≤ n)

abbrev IsLetter : Option ℕ → Type 0
IsLetter None = ⊤
IsLetter (Some letter) = is_ascii_printable letter ≡ true

letter-of_class : (c : Class) → IsLetter (letter_of c)
letter-of_class L = tt
letter-of_class R = tt
letter-of_class AL = tt
letter-of_class EN = tt
letter-of_class ES = tt
letter-of_class ET = tt
letter-of_class AN = tt
letter-of_class CS = tt
letter-of_class NSM = tt
letter-of_class BN = tt
letter-of_class B = tt
letter-of_class S = tt
letter-of_class WS = tt
letter-of_class ON = tt
letter-of_class LRE = refl
letter-of_class RLE = refl
letter-of_class LRO = refl
letter-of_class RLO = refl
letter-of_class PDF = refl
letter-of_class LRI = refl
letter-of_class RLI = refl
letter-of_class FSI = refl
letter-of_class PDI = refl

letter-of_only : (ucd : Data) (only : Option ℕ) → IsLetter (format_letter ucd only)
letter-of_only ucd None = tt
letter-of_only ucd (Some c) = letter-of_class (ucd.class c)

some-columns : (n : ℕ) → (n == 0) ≡ false → 1 ≤ n
some-columns n d = grind (arith, nat_tests)

tells-sized : (cs : List ℕ) (z o : Bool) → (columns_of cs == 0) ≡ z → list_any is_control cs ≡ false
    → Tells cs (elim z [ true ↦ Placeholder 126 | false ↦ elim o [ true ↦ Placeholder 35 | false ↦ Own (columns_of cs) ] ])
tells-sized cs true o d h = refl
tells-sized cs false true d h = refl
tells-sized cs false false d h = (h, refl, some-columns (columns_of cs) d)

tells-by : (w : ℕ) (cs : List ℕ) (t k : Bool) (l : Option ℕ) → list_any is_control cs ≡ k → IsLetter l
    → Tells cs (elim t [ true ↦ Tab | false ↦ elim k [ true ↦ Placeholder 63 | false ↦ elim l [ Some letter ↦ Placeholder letter | None ↦ sized_face w (columns_of cs) ] ] ])
tells-by w cs true k l d m = tt
tells-by w cs false true l d m = refl
tells-by w cs false false (Some x) d m = m
tells-by w cs false false None d m = tells-sized cs (columns_of cs == 0) (nat_lt w (columns_of cs)) refl d

pub tells : (ucd : Data) (w : ℕ) (cs : List ℕ) → Tells cs (face_of ucd w cs)
tells ucd w cs = tells-by w cs (is_tab (only_char cs)) (list_any is_control cs) (format_letter ucd (only_char cs)) refl
    (letter-of_only ucd (only_char cs))

letter-from_tells : (cs : List ℕ) (f : Face) → Tells cs f → HasLetter f
letter-from_tells cs Tab h = tt
letter-from_tells cs (Placeholder letter) h = h
letter-from_tells cs (Own n) h = tt

pub tells-face : (ucd : Data) (w : ℕ) (text : List ℕ) (f : Face) → f ≡ face ucd w text → Tells (chars text) f
tells-face ucd w text f e = subst (Tells (chars text)) (sym e) (tells ucd w (chars text))

pub letter-face : (ucd : Data) (w : ℕ) (text : List ℕ) (f : Face) → f ≡ face ucd w text → HasLetter f
letter-face ucd w text f e = letter-from_tells (chars text) f (tells-face ucd w text f e)

-- ---- the text that is shown at a level

own-from : (cs : List ℕ) (n : ℕ) (f : Face) → Tells cs f → is_own n f ≡ true → Tells cs (Own n)
own-from cs n Tab h e = absurd (cc)
own-from cs n (Placeholder letter) h e = absurd (cc)
own-from cs n (Own m) h e = let same : m ≡ n = grind (arith, nat_tests) in subst (λ k. Tells cs (Own k)) same h

tells-either : (ucd : Data) (w n : ℕ) (text other : List ℕ) (b : Bool) → is_own n (face ucd w other) ≡ b → Tells (chars text) (Own n)
    → Tells (chars (elim b [ true ↦ other | false ↦ text ])) (Own n)
tells-either ucd w n text other true e h = own-from (chars other) n (face ucd w other) (tells ucd w (chars other)) e
tells-either ucd w n text other false e h = h

pub tells-shown : (ucd : Data) (w n odd : ℕ) (forms : List Form) (text : List ℕ) → Tells (chars text) (Own n)
    → Tells (chars (elim odd [ zero ↦ text | suc _ ↦ joined_image_within ucd w n forms text ])) (Own n)
tells-shown ucd w n zero forms text h = h
tells-shown ucd w n (suc k) forms text h =
    let mirrored = mirror_image_within ucd w n text in
    let letters = chars text in
    let joined = encode_utf8_all (in_forms ucd forms letters (mirrored_chars ucd w n letters)) in
    tells-either ucd w n mirrored joined (is_own n (face ucd w joined)) refl
    (tells-either ucd w n text (mirror_image ucd text) (is_own n (face ucd w (mirror_image ucd text))) refl h)

-- ---- the glyphs of own text

-- one glyph, of as many columns as a run of its text takes
abbrev pub IsOneGlyph : Glyph → Type 0
IsOneGlyph g = (is_one_glyph g.text ≡ true) × (run_width g.text ≡ g.columns)

letter-one : (b : ℕ) (negative : Bool) → is_ascii_printable b ≡ true → IsOneGlyph (glyph (b ∷ []) 1 negative)
letter-one b negative h = (or_left (is_ascii_printable b) _ h, rw h refl)

letters-one : (text : List ℕ) → are_ascii_printable text ≡ true → All (λ b. IsOneGlyph (glyph (b ∷ []) 1 false)) text
letters-one [] e = All-nil (λ b. IsOneGlyph (glyph (b ∷ []) 1 false))
letters-one (b ∷ bs) e =
    let p = and_parts (is_ascii_printable b) (are_ascii_printable bs) e in
    All-cons (λ x. IsOneGlyph (glyph (x ∷ []) 1 false)) b bs (letter-one b false p.0) (letters-one bs p.1)

pub letters-all-one : (text : List ℕ) → are_ascii_printable text ≡ true → All IsOneGlyph (letter_glyphs text)
letters-all-one text e = All-map IsOneGlyph (λ b. glyph (b ∷ []) 1 false) text (letters-one text e)

no-control-by : (c : ℕ) (cs : List ℕ) (a b : Bool) → is_control c ≡ a → list_any is_control cs ≡ b → (a || b) ≡ false
    → (list_any is_control cs ≡ false → list_all (λ x. not (is_control x)) cs ≡ true) → (not (is_control c) && list_all (λ x. not (is_control x)) cs) ≡ true
no-control-by c cs true b d f e rest = absurd (cc)
no-control-by c cs false true d f e rest = absurd (cc)
no-control-by c cs false false d f e rest = and_from (not (is_control c)) _ (ap not d) (rest f)

no-control : (cs : List ℕ) → list_any is_control cs ≡ false → list_all (λ c. not (is_control c)) cs ≡ true
no-control [] e = refl
no-control (c ∷ cs) e = no-control-by c cs (is_control c) (list_any is_control cs) refl refl e (no-control cs)

whole-one : (text : List ℕ) (n : ℕ) → are_ascii_printable text ≡ false → Tells (chars text) (Own n) → IsOneGlyph (glyph text n false)
whole-one text n e h =
    let wide : nat_le 1 (str_width false (chars text)) ≡ true = Rattle.std.proofs.lemmas.Bool.le-leb 1 _ (subst (λ k. 1 ≤ k) (sym h.1) h.2) in
    let one = or_right (is_ascii_glyph text) _
    (and_from (are_printable text && not (are_ascii_printable text)) _ (and_from (are_printable text) _ (no-control (chars text) h.0) (ap not e)) wide) in
    (one, rw e h.1)

text-one : (text : List ℕ) (n : ℕ) (b : Bool) → are_ascii_printable text ≡ b → Tells (chars text) (Own n)
    → All IsOneGlyph (elim b [ true ↦ map (λ x. glyph (x ∷ []) 1 false) text | false ↦ glyph text n false ∷ [] ])
text-one text n true e h = letters-all-one text e
text-one text n false e h = All-cons IsOneGlyph (glyph text n false) [] (whole-one text n e h) (All-nil IsOneGlyph)

letters-sum : (text : List ℕ) → sum_by (λ g. g.columns) (map (λ x. glyph (x ∷ []) 1 false) text) ≡ length text
letters-sum [] = refl
letters-sum (b ∷ bs) = sum_by-cons (λ g. g.columns) (glyph (b ∷ []) 1 false) (map (λ x. glyph (x ∷ []) 1 false) bs) ∙ omega (arith, letters-sum bs)

text-sum : (text : List ℕ) (n : ℕ) (b : Bool) → are_ascii_printable text ≡ b → Tells (chars text) (Own n)
    → sum_by (λ g. g.columns) (elim b [ true ↦ map (λ x. glyph (x ∷ []) 1 false) text | false ↦ glyph text n false ∷ [] ]) ≡ n
text-sum text n true e h =
    letters-sum text ∙ sym (str_width-printable false text e) ∙ ap (str_width false) (sym (chars-IsAscii text (ascii_bytes text e))) ∙ h.1
text-sum text n false e h = sum_by-cons (λ g. g.columns) (glyph text n false) [] ∙ omega arith

-- ---- the glyphs of a face

pub face-one : (ucd : Data) (w columns level : ℕ) (forms : List Form) (text : List ℕ) (f : Face) → Tells (chars text) f
    → All IsOneGlyph (face_glyphs ucd w text f columns level forms)
face-one ucd w columns level forms text Tab h = All-replicate IsOneGlyph columns blank (refl, refl)
face-one ucd w columns level forms text (Placeholder letter) h =
    All-cons IsOneGlyph (glyph (letter ∷ []) 1 true) [] (letter-one letter true h) (All-nil IsOneGlyph)
face-one ucd w columns level forms text (Own n) h =
    let own = shown_text ucd w n level forms text in
    text-one own n (are_ascii_printable own) refl (tells-shown ucd w n (level % 2) forms text h)

pub face-sum : (ucd : Data) (w c level : ℕ) (forms : List Form) (text : List ℕ) (f : Face) → Tells (chars text) f
    → sum_by (λ g. g.columns) (face_glyphs ucd w text f (columns_at w c f) level forms) ≡ columns_at w c f
face-sum ucd w c level forms text Tab h = sum_by-replicate (λ g. g.columns) (columns_at w c Tab) blank ∙ omega arith
face-sum ucd w c level forms text (Placeholder letter) h = sum_by-cons (λ g. g.columns) (glyph (letter ∷ []) 1 true) [] ∙ omega arith
face-sum ucd w c level forms text (Own n) h =
    let own = shown_text ucd w n level forms text in
    text-sum own n (are_ascii_printable own) refl (tells-shown ucd w n (level % 2) forms text h)
