-- The forms of a text's characters, and the text in these forms.
use Rattle.std.proofs.Common.{◌≡◌, ℕ, zero, suc, ◌+◌, List, [], ◌∷◌, ◌++◌, None, Option, length, get_or, drop, chars, refl, ap, ap₂, ◌∙◌, arith}
use Rattle.std.specs.Prelude.{encode_utf8, encode_utf8_all, unwrap_or}
use Rattle.std.proofs.lemmas.List.{nil_from_length}
use Rattle.std.proofs.lemmas.List.Elements.{All-rest}
use Rattle.std.proofs.lemmas.Str.{chars-nil}
use Rattle.bx_ucd.specs.Data.{Data}
use Rattle.bx_ucd.specs.declared.joining.Form.{Form}
use Rattle.bx_ucd.specs.declared.joining.Form.TheVariants.{Isolated}
use Rattle.bx_rows.specs.joining.Joining.{body_forms, first_forms, text_forms, in_forms}
use Rattle.bx_rows.specs.joining.JoinedText.{AreFormless, joined_image}

-- ---- as many forms as characters

pub length-first_forms : (n : ℕ) (fs : List Form) → length (first_forms n fs) ≡ n
length-first_forms zero fs = refl
length-first_forms (suc n) [] = ap suc (length-first_forms n [])
length-first_forms (suc n) (f ∷ fs) = ap suc (length-first_forms n fs)

step_forms : (n k : ℕ) (fs : List Form) → first_forms (suc n) (drop k fs) ≡ get_or fs k Isolated ∷ first_forms n (drop (suc k) fs)
step_forms n zero [] = refl
step_forms n zero (f ∷ fs) = refl
step_forms n (suc k) [] = refl
step_forms n (suc k) (f ∷ fs) = step_forms n k fs

pub next_form : (n k : ℕ) (fs : List Form) → first_forms (suc n) (drop k fs) ≡ get_or fs k Isolated ∷ first_forms n (drop (k + 1) fs)
next_form n k fs = let one : suc k ≡ k + 1 = omega arith in
    step_forms n k fs ∙ ap (λ i. get_or fs k Isolated ∷ first_forms n (drop i fs)) one

drop_none : (m : ℕ) → drop m (let fs : List Form = [] in fs) ≡ []
drop_none zero = refl
drop_none (suc m) = refl

pub first_forms-append : (m n : ℕ) (fs : List Form) → first_forms (m + n) fs ≡ first_forms m fs ++ first_forms n (drop m fs)
first_forms-append zero n fs = let none : zero + n ≡ n = omega arith in ap (λ k. first_forms k fs) none
first_forms-append (suc m) n [] =
    let one : suc m + n ≡ suc (m + n) = omega arith in
    ap (λ k. first_forms k []) one ∙ ap (λ gs. Isolated ∷ gs) (first_forms-append m n [] ∙ ap (λ fs. first_forms m [] ++ first_forms n fs) (drop_none m))
first_forms-append (suc m) n (f ∷ fs) =
    let one : suc m + n ≡ suc (m + n) = omega arith in
    ap (λ k. first_forms k (f ∷ fs)) one ∙ ap (λ gs. f ∷ gs) (first_forms-append m n fs)

-- ---- one character more

pub image_step : (ucd : Data) (body : List ℕ) (each : List (Option ℕ)) (number letter c : ℕ) (text after shown behind : List ℕ)
    → chars text ≡ letter ∷ chars after → chars shown ≡ c ∷ chars behind
    → joined_image ucd (text_forms ucd body each number text) text shown
    ≡ encode_utf8 (unwrap_or (ucd.form letter (get_or (body_forms ucd body each) number Isolated)) c)
    ++ joined_image ucd (text_forms ucd body each (number + 1) after) after behind
image_step ucd body each number letter c text after shown behind e f =
    let forms = body_forms ucd body each in
    ap₂ (λ ls cs. encode_utf8_all (in_forms ucd (first_forms (length ls) (drop number forms)) ls cs)) e f
    ∙ ap (λ fs. encode_utf8_all (in_forms ucd fs (letter ∷ chars after) (c ∷ chars behind))) (next_form (length (chars after)) number forms)

in_forms-none : (ucd : Data) (fs : List Form) (ls : List ℕ) → in_forms ucd fs ls [] ≡ []
in_forms-none ucd [] ls = refl
in_forms-none ucd (f ∷ fs) [] = refl
in_forms-none ucd (f ∷ fs) (l ∷ ls) = refl

pub image_none : (ucd : Data) (forms : List Form) (text shown : List ℕ) → length (chars shown) ≡ 0 → joined_image ucd forms text shown ≡ []
image_none ucd forms text shown e =
    ap (λ cs. encode_utf8_all (in_forms ucd forms (chars text) cs)) (nil_from_length (chars shown) e) ∙ ap encode_utf8_all (in_forms-none ucd forms (chars text))

pub no_chars : (text : List ℕ) → length text ≡ 0 → length (chars text) ≡ 0
no_chars text e = ap (λ bs. length (chars bs)) (nil_from_length text e) ∙ ap length chars-nil

-- ---- letters with no form

pub as_it_is : (ucd : Data) (fs : List Form) (ls cs : List ℕ) → AreFormless ucd ls → in_forms ucd fs ls cs ≡ cs
as_it_is ucd [] ls cs none = refl
as_it_is ucd (f ∷ fs) [] cs none = refl
as_it_is ucd (f ∷ fs) (l ∷ ls) [] none = refl
as_it_is ucd (f ∷ fs) (l ∷ ls) (c ∷ cs) none =
    ap₂ (λ o ds. unwrap_or o c ∷ ds) (none 0 l (omega arith) f)
    (as_it_is ucd fs ls cs (All-rest (λ d. (form : Form) → ucd.form d form ≡ None) l ls (l ∷ ls) refl none))
