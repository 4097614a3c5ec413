-- A unit at an odd level shows each letter in the form that goes by what it joins.
use Rattle.std.proofs.Common.{◌≡◌, ℕ, zero, suc, ◌+◌, ◌<◌, Bool, true, false, List, [], ◌∷◌, ◌++◌, length, map, get_or, drop, take, chars, Option, reverse}
use Rattle.std.proofs.Common.{refl, sym, ap, ap₂, ◌∙◌, arith, append-nil}
use Rattle.std.specs.Prelude.{encode_utf8_all, unwrap_or}
use Rattle.std.proofs.lemmas.List.{get_or-drop, length-map}
use Rattle.std.proofs.lemmas.Str.{IsUtf8-between, encodes-chars}
use Rattle.bx_common.specs.Characters.{are_ascii_printable}
use Rattle.bx_ucd.specs.Data.{Data}
use Rattle.bx_ucd.specs.declared.joining.Form.{Form}
use Rattle.bx_ucd.specs.declared.joining.Form.TheVariants.{Isolated}
use Rattle.bx_rows.specs.declared.cells.unit.Unit.{Unit}
use Rattle.bx_rows.specs.cells.Units.{face, unit_chars, unit_text}
use Rattle.bx_rows.specs.joining.Joining.{in_forms, body_forms, form_if, forms_behind, joins_after, joins_before}
use Rattle.bx_rows.proofs.joining_lemmas.FormsAt.{form_between}
use Rattle.bx_rows.proofs.joining_lemmas.TextForms.{length-first_forms}
use Rattle.bx_rows_laws.specs.JoiningLaws.{AreByJoining, GoesByJoining, LettersGoByJoining, ShownLetter, ShowsIfOwn, text_shown}
use Rattle.bx_rows.specs.RowPicture.{face_glyphs, is_own, joined_image_within, mirror_image_within, mirrored_chars, shown_text, unit_columns, unit_forms, unit_glyphs}
use Rattle.bx_rows.proofs.JoinedLetters.{first_forms-at}
use Rattle.bx_rows_laws.proofs.LetterForms.{glyphs-text}
use Rattle.bx_rows.proofs.Leveled.{whole-mirrored}
use Rattle.bx_rows.proofs.PictureSums.{columns-length}
use Rattle.bx_rows.proofs.Pieces.{piece-at}

-- the form at a place of the body
form-there : (ucd : Data) (body : List ℕ) (each : List (Option ℕ)) (number : ℕ) (p : ShownLetter) (g : GoesByJoining ucd body each number p)
    → p.shown ≡ unwrap_or (ucd.form p.letter (get_or (body_forms ucd body each) number Isolated)) p.unjoined
form-there ucd body each number p g =
    let is : get_or (body_forms ucd body each) number Isolated ≡ form_if (joins_before (reverse g.before) g.own) (joins_after g.own g.after) =
    ap (λ ps. get_or (forms_behind [] ps) number Isolated) g.body_is
    ∙ ap (λ k. get_or (forms_behind [] (g.before ++ (g.own ∷ g.after))) k Isolated) (sym g.number_is)
    ∙ form_between [] g.before g.own g.after ∙ ap (λ xs. form_if (joins_before xs g.own) (joins_after g.own g.after)) (append-nil (reverse g.before)) in
    g.shown_is ∙ ap (λ f. unwrap_or (ucd.form p.letter f) p.unjoined) (sym is)

-- characters in forms, place by place
in-forms-are : (ucd : Data) (forms : List Form) (ps : List ShownLetter) (d : ShownLetter) → length forms ≡ length ps
    → ((k : ℕ) → k < length ps → (get_or ps k d).shown ≡ unwrap_or (ucd.form (get_or ps k d).letter (get_or forms k Isolated)) (get_or ps k d).unjoined)
    → in_forms ucd forms (map (λ p. p.letter) ps) (map (λ p. p.unjoined) ps) ≡ map (λ p. p.shown) ps
in-forms-are ucd [] [] d e s = refl
in-forms-are ucd [] (p ∷ ps) d e s = absurd (omega arith)
in-forms-are ucd (f ∷ fs) [] d e s = absurd (omega arith)
in-forms-are ucd (f ∷ fs) (p ∷ ps) d e s =
    ap₂ (λ x xs. x ∷ xs) (sym (s 0 (omega arith))) (in-forms-are ucd fs ps d (omega arith) (λ k h. s (suc k) (omega arith)))

unit-in-forms : (ucd : Data) (w n : ℕ) (body : List ℕ) (each : List (Option ℕ)) (u : Unit) (ps : List ShownLetter) → AreByJoining ucd w n body each u ps
    → in_forms ucd (unit_forms ucd body each u) (unit_chars body u) (mirrored_chars ucd w n (unit_chars body u)) ≡ map (λ p. p.shown) ps
unit-in-forms ucd w n body each u ps a =
    let number = length (chars (take u.start body)) in
    let all = body_forms ucd body each in
    let forms = unit_forms ucd body each u in
    let count : length (unit_chars body u) ≡ length ps = ap length a.letters_are ∙ length-map ps (λ p. p.letter) in
    let d : ShownLetter = record { letter = 0; unjoined = 0; shown = 0 } in
    ap₂ (λ ls cs. in_forms ucd forms ls cs) a.letters_are a.unjoined_are
    ∙ in-forms-are ucd forms ps d (length-first_forms (length (unit_chars body u)) (drop number all) ∙ count)
    (λ k h.
    let p = get_or ps k d in
    let own : get_or forms k Isolated ≡ get_or all (number + k) Isolated =
    first_forms-at (length (unit_chars body u)) k (drop number all) (omega (arith, h, count)) ∙ get_or-drop number all k Isolated in
    form-there ucd body each (number + k) p (a.each_is k h d) ∙ ap (λ f. unwrap_or (ucd.form p.letter f) p.unjoined) (sym own))

chosen : (ucd : Data) (w n : ℕ) (joined unjoined : List ℕ) (b : Bool) → is_own n (face ucd w joined) ≡ b
    → ShowsIfOwn ucd w n joined unjoined (elim b as (λ _. List ℕ) [ true ↦ joined | false ↦ unjoined ])
chosen ucd w n joined unjoined true e = record { fits = λ f. refl; differs = λ f. absurd (cc (sym e ∙ f)) }
chosen ucd w n joined unjoined false e = record { fits = λ f. absurd (cc (sym e ∙ f)); differs = λ f. refl }

of-shown : (ucd : Data) (w n : ℕ) (joined unjoined shown other : List ℕ) → other ≡ shown → ShowsIfOwn ucd w n joined unjoined shown
    → ShowsIfOwn ucd w n joined unjoined other
of-shown ucd w n joined unjoined shown other e s = record { fits = λ f. e ∙ s.fits f; differs = λ f. e ∙ s.differs f }

pub letters-go-by-joining : LettersGoByJoining
letters-go-by-joining ucd w body each us levels i n u ps valid stand at a =
    let text = unit_text body u in
    let letters = unit_chars body u in
    let forms = unit_forms ucd body each u in
    let others = map (λ c. unwrap_or (ucd.mirror c) c) letters in
    let columns = unit_columns w 0 us in
    let joined = encode_utf8_all (map (λ p. p.shown) ps) in
    let unjoined = encode_utf8_all (map (λ p. p.unjoined) ps) in
    let level = get_or levels i 0 in
    let shown = shown_text ucd w n level forms text in
    let image : mirror_image_within ucd w n text ≡ unjoined =
    sym (whole-mirrored (is_own n (face ucd w (encode_utf8_all others))) others letters text
    (encodes-chars text (IsUtf8-between body u.start u.stop valid stand.0 stand.1 stand.2))) ∙ ap encode_utf8_all a.unjoined_are in
    let within : joined_image_within ucd w n forms text
    ≡ elim (is_own n (face ucd w joined)) as (λ _. List ℕ) [ true ↦ joined | false ↦ unjoined ] =
    ap₂ (λ t m. elim (is_own n (face ucd w t)) as (λ _. List ℕ) [ true ↦ t | false ↦ m ]) (ap encode_utf8_all (unit-in-forms ucd w n body each u ps a)) image in
    let odd : shown ≡ joined_image_within ucd w n forms text =
    ap (λ x. elim x as (λ _. List ℕ) [ zero ↦ text | suc _ ↦ joined_image_within ucd w n forms text ]) (at.odd 0) in
    let glyphs : text_shown (get_or (unit_glyphs ucd w body each us columns levels) i []) ≡ shown =
    ap text_shown (piece-at ucd w body each us columns levels i 0 0 u at.within (columns-length w 0 us) at.count
    ∙ ap (λ v. face_glyphs ucd w (unit_text body v) v.face (get_or columns i 0) level (unit_forms ucd body each v)) (at.unit_is u)
    ∙ ap (λ f. face_glyphs ucd w text f (get_or columns i 0) level forms) at.own)
    ∙ glyphs-text n shown (are_ascii_printable shown) in
    of-shown ucd w n joined unjoined _ _ (glyphs ∙ odd ∙ within) (chosen ucd w n joined unjoined (is_own n (face ucd w joined)) refl)
